-- The run of a side's program in tiles, tile by tile.
use Rattle.std.proofs.Common.{◌≡◌, inl, inr, ℕ, ◌<◌, ◌≤◌, ℤ, pos, neg_ℤ, ◌+ℤ◌, ◌*ℤ◌, ◌≤ℤ◌, ◌<ℤ◌, true, List, map, sym, ap, subst, ◌∙◌, arith}
use Rattle.std.specs.List.{Contains}
use Rattle.std.proofs.lemmas.Bool.{cases_lt}
use Rattle.std.proofs.lemmas.List.{get_or_default}
use borrow.Author.Differences.{ints}
use Rattle.number_laws.proofs.Tests.{by_bool}
use Rattle.board_base.specs.declared.places.Cell.{Cell}
use Rattle.board_base.specs.declared.places.Point.{Point}
use Rattle.board_base.specs.declared.places.Move.{Move}
use Rattle.board_base.specs.Lattice.{centre_of, cell_of, half_diagonal_of}
use Rattle.board_base.specs.Near.{near_of}
use Rattle.board_base.proofs.LatticeLaws.{pitch_positive}
use Rattle.cell_sets.specs.Barrier.{IsPast}
use Rattle.cell_sets.specs.Chains.{IsLinkedOver}
use Rattle.cell_sets.proofs.Counts.{numbered_kept}
use Rattle.cell_sets.proofs.Links.{linked_over, linked_end}
use Rattle.cell_grid.specs.declared.frames.Frame.{Frame}
use Rattle.cell_grid.specs.Cells.{in_frame}
use Rattle.shape_parts.specs.declared.shape.Painted.{Painted}
use Rattle.shape_parts.specs.Cover.{is_dark}
use Rattle.rs274_sim.specs.Cutter.{nanometre, scaled, width_of, IsLow, IsDeep, Sweeps, NoBite}
use Rattle.mill_program.specs.Moves.{unnumbered}
use Rattle.tiling.specs.Copies.{Tile, first_tile, shift_in, cell_in, point_in, move_in, back}
use Rattle.tiling.specs.Stretches.{AreLowCopies}
use Rattle.tiling.proofs.AlikeLaws.{of_item, item_in}
use Rattle.job_file.specs.declared.job.Job.{Job}
use Rattle.mill_plan.specs.declared.cutting.Cutting.{Cutting}
use Rattle.mill_plan.specs.declared.isolation.Isolation.{Isolation}
use Rattle.mill_plan.specs.Cutting.{bite_of, kept_by, sweep_of, side_cutting}
use Rattle.mill_plan.specs.Isolated.{IsLeft, IsIsolationOf}
use Rattle.mill_plan.specs.Mills.{Mills, IsWhollySwept}
use Rattle.mill_plan.proofs.JobLaws.{IsMilling}
use Rattle.mill_plan.proofs.SweptLaws.{at_itself}
use Rattle.program_check.specs.Cutters.{IsCutter}
use Rattle.program_check.specs.Own.{Follows, IsOwn, MarksSwept}
use Rattle.program_check.specs.Marks.{IsPassedBy, IsMarked}
use Rattle.program_check.proofs.OwnLaws.{own_clear_holds, swept_reached, past_allowed}
use Rattle.program_check.proofs.PlaneLaws.{flat_holds}
use Rattle.program_check.proofs.SoundLaws.{clear_holds, marked_swept}
use Rattle.side_runs.specs.OwnSide.{IsDeepIn, IsOwnSide}
use Rattle.side_runs.specs.Sides.{nth_tile, AreApart, IsVisitedCopy, NoBiteIn, PassesIn, PartsTiles, MillsTiles}
use Rattle.side_runs.proofs.Translations.{point_back, point_there, back_tile, cell_back, cell_there, back_shift, spot_copied, sweeps_there, sweeps_back, sweeps_home, home_sweeps, centre_copy, cell_copy, linked_copied}

-- ---- the tiles of a list

-- copies of the frame that have a cell in common are copies in one tile
pub one_tile : (f : Frame) (tiles : List Tile) (s t : Tile) (c d : Cell) → AreApart f tiles → Contains tiles s → Contains tiles t → in_frame f c ≡ true → in_frame f d ≡ true → cell_in s c ≡ cell_in t d → s ≡ t
one_tile f tiles s t c d apart a b c_in d_in e =
    elim (cases_lt a.0 b.0) as (λ _. s ≡ t) [
      | inl less ↦ absurd (apart a.0 b.0 less b.1 c d c_in d_in (ap (λ (x : Tile). cell_in x c) (at s a) ∙ e ∙ ap (λ (x : Tile). cell_in x d) (sym (at t b))))
      | inr more ↦ elim (cases_lt b.0 a.0) as (λ _. s ≡ t) [
        | inl less ↦ absurd (apart b.0 a.0 less a.1 d c d_in c_in (ap (λ (x : Tile). cell_in x d) (at t b) ∙ sym e ∙ ap (λ (x : Tile). cell_in x c) (sym (at s a))))
        | inr less ↦ sym (at s a) ∙ ap (nth_tile tiles) (same a.0 b.0 more less) ∙ at t b
      ]
    ]
  where
    at : (t : Tile) (there : Contains tiles t) → nth_tile tiles there.0 ≡ t
    at t there = sym (get_or_default tiles there.0 t first_tile there.1) ∙ there.2

    same : (m n : ℕ) → n ≤ m → m ≤ n → m ≡ n
    same m n h k = omega (arith, h, k)

-- ---- what a move has that doesn't look at its number

numbered_sweeps : (m n : Move) (q : Point) (r : ℤ) → unnumbered m ≡ unnumbered n → Sweeps m q r → Sweeps n q r
numbered_sweeps m n q r e swept = subst (λ (x : Move). Sweeps x q r) e swept

numbered_low : (height : ℤ) (m n : Move) → unnumbered m ≡ unnumbered n → IsLow height m → IsLow height n
numbered_low height m n e low = subst (λ (x : Move). IsLow height x) e low

numbered_deep : (height : ℤ) (m n : Move) → unnumbered m ≡ unnumbered n → IsDeep height m → IsDeep height n
numbered_deep height m n e deep = subst (λ (x : Move). IsDeep height x) e deep

-- what is at the depth of work is below the safe height
pub deep_low : (work safe : ℤ) (move : Move) → work ≤ℤ neg_ℤ (pos 1000) → pos 100000 ≤ℤ safe → IsDeep (work *ℤ nanometre) move → IsLow (safe *ℤ nanometre) move
deep_low work safe move deep high d = (d.0, inl (by work safe move.from.z deep high d.1))
  where
    by : (work safe z : ℤ) → work ≤ℤ neg_ℤ (pos 1000) → pos 100000 ≤ℤ safe → z ≤ℤ (work *ℤ nanometre) → z <ℤ (safe *ℤ nanometre)
    by work safe z h k l = omega (arith, ints)

-- ---- the moves of all tiles

module _ (job : Job) (painted : List Painted) (plan : Isolation) (tiles : List Tile) (answers : List ℤ) (plain moves : List Move) (i : IsIsolationOf job painted plan) (ok : IsMilling job) (cutter : IsCutter (side_cutting job))
    (side : IsOwnSide job painted plan answers plain) (milled : Mills job painted plain) (copies : AreLowCopies (job.zsafe *ℤ nanometre) (map (shift_in job.pitch) tiles) plain moves) where
  abbrev k : Cutting
  k = side_cutting job

  abbrev p : ℤ
  p = job.pitch

  abbrev by : Tile → Point
  by t = shift_in job.pitch t

  deep_is_low : (move : Move) → IsDeep (job.zwork *ℤ nanometre) move → IsLow (job.zsafe *ℤ nanometre) move
  deep_is_low move deep = deep_low job.zwork job.zsafe move ok.deep ok.safe_low deep

  -- a low move and the one that it copies
  record IsCopyOf (m : Move) : Type 0 where
    tile : Tile
    there : Contains tiles tile
    move : Move
    inside : Contains plain move
    is : unnumbered m ≡ unnumbered (move_in (by tile) move)

  copy_of : (m : Move) → Contains moves m → IsLow (job.zsafe *ℤ nanometre) m → IsCopyOf m
  copy_of m there low =
      let e = copies.each m there low in
      let t = of_item (shift_in job.pitch) tiles e.0 e.2 in
      record { tile = t.0; there = t.1; move = e.1; inside = e.3; is = subst (λ (s : Point). unnumbered m ≡ unnumbered (move_in s e.1)) (sym t.2) e.4 }

  -- the copy of a low move
  record HasCopy (t : Tile) (n : Move) : Type 0 where
    move : Move
    there : Contains moves move
    is : unnumbered move ≡ unnumbered (move_in (by t) n)

  copied : (t : Tile) (n : Move) → Contains tiles t → Contains plain n → IsLow (job.zsafe *ℤ nanometre) n → HasCopy t n
  copied t n there inside low =
      let a = copies.all (by t) n (item_in (shift_in job.pitch) tiles t there) inside low in
      record { move = a.0; there = a.1; is = a.2 }

  -- ---- the visited cells' copies

  passed_copy : (c : Cell) → IsVisitedCopy k painted tiles c → (move : Move) × Contains moves move × IsDeep (job.zwork *ℤ nanometre) move × Sweeps move (centre_of p c) (pos 0)
  passed_copy c v =
      let n = (milled.visited v.of).1 v.visited in
      let m = copied v.tile n.0 v.there n.1 (deep_is_low n.0 n.2) in
      let here : centre_of p c ≡ point_in (by v.tile) (centre_of p v.of) = ap (centre_of p) v.is ∙ centre_copy p v.tile v.of in (
        m.move,
        m.there,
        numbered_deep (job.zwork *ℤ nanometre) (move_in (by v.tile) n.0) m.move (sym m.is) n.2,
        subst (λ (q : Point). Sweeps m.move q (pos 0)) (sym here) (numbered_sweeps (move_in (by v.tile) n.0) m.move (point_in (by v.tile) (centre_of p v.of)) (pos 0) (sym m.is) (sweeps_there (by v.tile) n.0 (centre_of p v.of) (pos 0) n.3)),
      )

  copy_passed : (c : Cell) (m : Move) → Contains moves m → IsDeep (job.zwork *ℤ nanometre) m → Sweeps m (centre_of p c) (pos 0) → IsVisitedCopy k painted tiles c
  copy_passed c m there deep swept =
      let o = copy_of m there (deep_is_low m deep) in
      let d : Cell = cell_in (back_tile o.tile) c in
      let here : centre_of p d ≡ point_in (back (by o.tile)) (centre_of p c) = centre_copy p (back_tile o.tile) c ∙ ap (λ (s : Point). point_in s (centre_of p c)) (back_shift p o.tile) in
      let on : Sweeps o.move (centre_of p d) (pos 0) = subst (λ (q : Point). Sweeps o.move q (pos 0)) (sym here) (sweeps_back (by o.tile) o.move (centre_of p c) (pos 0) (numbered_sweeps m (move_in (by o.tile) o.move) (centre_of p c) (pos 0) o.is swept)) in
      record {
        tile = o.tile;
        there = o.there;
        of = d;
        visited = (milled.visited d).0 (o.move, o.inside, numbered_deep (job.zwork *ℤ nanometre) m (move_in (by o.tile) o.move) o.is deep, on);
        is = sym (cell_there o.tile c);
      }

  pub passes_in : PassesIn job painted tiles moves
  passes_in c = (λ n. copy_passed c n.0 n.1 n.2 n.3, passed_copy c)

  -- ---- moved back by one tile, the moves are the side's own

  module _ (apart : AreApart plan.frame tiles) (t : Tile) (t_in : Contains tiles t) where
    abbrev pub home : List Move
    home = map (move_in (back (by t))) moves

    -- the move that one of these is, and that one's copy
    record IsHome (m : Move) : Type 0 where
      move : Move
      there : Contains moves move
      is : move_in (back (by t)) move ≡ m

    home_of : (m : Move) → Contains home m → IsHome m
    home_of m there = let o = of_item (move_in (back (by t))) moves m there in record { move = o.0; there = o.1; is = o.2 }

    home_there : (m : Move) → Contains moves m → Contains home (move_in (back (by t)) m)
    home_there m there = item_in (move_in (back (by t))) moves m there

    -- a copy of a visited cell is allowed: in this tile it is visited, and in another one it is outside the frame
    free_copy : (s : Tile) (a : Cell) → Contains tiles s → side.visited a ≡ true → side.allowed (cell_in (back_tile t) (cell_in s a)) ≡ true
    free_copy s a there seen =
        let c : Cell = cell_in (back_tile t) (cell_in s a) in
        by_bool (in_frame plan.frame c)
        (λ inside.
        let same : s ≡ t = sym (one_tile plan.frame tiles t s c a apart t_in there inside (side.own.inside a seen) (cell_there t (cell_in s a))) in
        subst (λ (d : Cell). side.allowed d ≡ true) (sym (ap (λ (x : Tile). cell_in (back_tile t) (cell_in x a)) same ∙ cell_back t a)) (side.own.barrier.within a seen))
        (λ out. side.own.outside c out)

    -- what is near a copied centre is near it after the way back
    near_home : (s : Tile) (q : Point) (a : Cell) (d : ℤ)
        → near_of (scaled (point_in (back (by s)) (point_in (by t) q))) (scaled (centre_of k.pitch a)) (scaled (centre_of k.pitch a)) d ≡ true
        → near_of (scaled q) (scaled (centre_of k.pitch (cell_in (back_tile t) (cell_in s a)))) (scaled (centre_of k.pitch (cell_in (back_tile t) (cell_in s a)))) d ≡ true
    unfolding side_cutting
    near_home s q a d near =
        let b : Point = centre_of p a in
        let u : Point = point_in (by t) q in
        let v : Point = point_in (by s) b in
        let there : near_of (scaled u) (scaled v) (scaled v) d ≡ true =
        subst (λ (x : Point). near_of (scaled x) (scaled v) (scaled v) d ≡ true) (point_there (by s) u) (spot_copied (by s) (point_in (back (by s)) u) b d ∙ near) in
        let here : near_of (scaled (point_in (back (by t)) u)) (scaled (point_in (back (by t)) v)) (scaled (point_in (back (by t)) v)) d ≡ true = spot_copied (back (by t)) u v d ∙ there in
        let centre : centre_of p (cell_in (back_tile t) (cell_in s a)) ≡ point_in (back (by t)) v =
        centre_copy p (back_tile t) (cell_in s a) ∙ ap (λ (x : Point). point_in x (centre_of p (cell_in s a))) (back_shift p t) ∙ ap (point_in (back (by t))) (centre_copy p s a) in
        subst (λ (x : Point). near_of (scaled q) (scaled x) (scaled x) d ≡ true) (sym centre)
        (subst (λ (x : Point). near_of (scaled x) (scaled (point_in (back (by t)) v)) (scaled (point_in (back (by t)) v)) d ≡ true) (point_back (by t) q) here)

    follows_home : (m : Move) → Contains home m → IsLow (job.zsafe *ℤ nanometre) m → Follows k (λ c. side.allowed c ≡ true) m
    follows_home m there low q r r_in swept =
        let h = home_of m there in
        let h_low : IsLow (job.zsafe *ℤ nanometre) h.move = subst (λ (x : Move). IsLow (job.zsafe *ℤ nanometre) x) (sym h.is) low in
        let o = copy_of h.move h.there h_low in
        let q' : Point = point_in (back (by o.tile)) (point_in (by t) q) in
        let on : Sweeps h.move (point_in (by t) q) r = sweeps_home (by t) h.move q r (subst (λ (x : Move). Sweeps x q r) (sym h.is) swept) in
        let off : Sweeps o.move q' r = sweeps_back (by o.tile) o.move (point_in (by t) q) r (numbered_sweeps h.move (move_in (by o.tile) o.move) (point_in (by t) q) r o.is on) in
        let f = side.along o.move o.inside (numbered_low (job.zsafe *ℤ nanometre) h.move (move_in (by o.tile) o.move) o.is h_low) q' r r_in off in
        let a : Cell = f.0 in
        let c : Cell = cell_in (back_tile t) (cell_in o.tile a) in
        (c, free_copy o.tile a o.there f.1, near_home o.tile q a (width_of (r +ℤ half_diagonal_of k.pitch)) f.2)

    passes_home : (v : Cell) → side.visited v ≡ true → IsPassedBy (IsDeepIn job answers) home (centre_of k.pitch v) (pos 0)
    unfolding side_cutting
    passes_home v seen =
        let n = (milled.visited v).1 ((side.tests.visited_are v).0 seen) in
        let m = copied t n.0 t_in n.1 (deep_is_low n.0 n.2) in (
          move_in (back (by t)) m.move,
          home_there m.move m.there,
          (flat_holds.deep answers job.zwork (move_in (back (by t)) m.move)).1 (numbered_deep (job.zwork *ℤ nanometre) (move_in (by t) n.0) m.move (sym m.is) n.2),
          home_sweeps (by t) m.move (centre_of p v) (pos 0) (numbered_sweeps (move_in (by t) n.0) m.move (point_in (by t) (centre_of p v)) (pos 0) (sym m.is) (sweeps_there (by t) n.0 (centre_of p v) (pos 0) n.3)),
        )

    pub own_home : IsOwn k painted plan.frame job.zsafe (IsDeepIn job answers) home side.allowed side.visited
    own_home = record {
      allowed_are = side.own.allowed_are;
      barrier = side.own.barrier;
      inside = side.own.inside;
      outside = side.own.outside;
      follows = follows_home;
      passes = passes_home;
    }

    -- so they don't bite
    no_bite_home : NoBite (job.zsafe *ℤ nanometre) (λ q. is_dark q painted ≡ true) (bite_of k) home
    no_bite_home =
        clear_holds k painted job.zsafe home cutter
        (own_clear_holds k painted job.zsafe home cutter (λ move there low q r r_in swept.
        let f = follows_home move there low q r r_in swept in
        (f.0, (side.own.allowed_are f.0).0 f.1, f.2)))

    pub no_bite_there : (q : Point) → is_dark q painted ≡ true → (m : Move) → Contains moves m → IsLow (job.zsafe *ℤ nanometre) m → Sweeps m (point_in (by t) q) (bite_of k) → ⊥
    no_bite_there q dark m there low swept = no_bite_home q dark (move_in (back (by t)) m) (home_there m there) low (home_sweeps (by t) m q (bite_of k) swept)

    -- ---- and a chain of cells that they leave stays in this tile's frame, past all that the allowed cells sweep

    left_home : (c : Cell) → (IsWhollySwept k job.zwork moves c → ⊥) → IsMarked k plan.frame (IsDeepIn job answers) home (cell_in (back_tile t) c) → ⊥
    unfolding side_cutting
    left_home c left marked =
        left (λ q inside.
        let whole = marked_swept k plan.frame (IsDeepIn job answers) home (cell_in (back_tile t) c) cutter marked in
        let n = whole (point_in (back (by t)) q) (ap (λ (s : Point). cell_of p (point_in s q)) (sym (back_shift p t)) ∙ cell_copy p (back_tile t) q (pitch_positive p ok.pitch) ∙ ap (cell_in (back_tile t)) inside) in
        let h = home_of n.0 n.1 in (
          h.move,
          h.there,
          subst (λ (x : Move). IsDeep (job.zwork *ℤ nanometre) x) (sym h.is) ((flat_holds.deep answers job.zwork n.0).0 n.2),
          subst (λ (x : Point). Sweeps h.move x k.radius) (point_there (by t) q) (sweeps_home (by t) h.move (point_in (back (by t)) q) k.radius (subst (λ (x : Move). Sweeps x (point_in (back (by t)) q) k.radius) (sym h.is) n.3)),
        ))

    marks : MarksSwept (sweep_of k) side.allowed side.visited plan.frame (IsMarked k plan.frame (IsDeepIn job answers) home)
    marks = record {
      inside = side.own.inside;
      outside = side.own.outside;
      unmarked = λ c inside free swept. free (inside, swept_reached k (IsDeepIn job answers) home (λ v. side.visited v ≡ true) c cutter passes_home swept);
    }

    pub past_home : (a b : Cell) → kept_by k painted a ≡ true → IsLinkedOver (λ c. IsWhollySwept k job.zwork moves c → ⊥) (cell_in t a) b → IsLinkedOver (IsPast (sweep_of k) side.allowed) a (cell_in (back_tile t) b)
    past_home a b on link =
        past_allowed (sweep_of k) side.allowed side.visited (kept_by k painted) plan.frame (IsMarked k plan.frame (IsDeepIn job answers) home) side.own.barrier marks a (cell_in (back_tile t) b) on
        (subst (λ (x : Cell). IsLinkedOver (λ c. IsMarked k plan.frame (IsDeepIn job answers) home c → ⊥) x (cell_in (back_tile t) b)) (cell_back t a)
        (linked_copied (back_tile t) (λ c. IsWhollySwept k job.zwork moves c → ⊥) (λ c. IsMarked k plan.frame (IsDeepIn job answers) home c → ⊥) left_home (cell_in t a) b link))

    -- its end isn't allowed, so it is in the frame
    pub end_home : (a b : Cell) → IsLinkedOver (IsPast (sweep_of k) side.allowed) a b → in_frame plan.frame b ≡ true
    end_home a b link =
        by_bool (in_frame plan.frame b) (λ there. there) (λ out.
        absurd (linked_end (IsPast (sweep_of k) side.allowed) a b link (record { from = b; member = side.own.outside b out; within = at_itself (sweep_of k) b })))

  -- ---- all of it

  module _ (apart : AreApart plan.frame tiles) (kept_in : (c : Cell) → kept_by k painted c ≡ true → in_frame plan.frame c ≡ true) where
    no_bite_in : NoBiteIn job painted tiles moves
    no_bite_in q copy m there low swept = no_bite_there apart copy.tile copy.there copy.of copy.dark m there low (subst (λ (x : Point). Sweeps m x (bite_of k)) copy.is swept)

    past_left : (c : Cell) → IsPast (sweep_of k) side.allowed c → IsLeft k painted c
    past_left c past swept = past (record { from = swept.from; member = (side.own.allowed_are swept.from).1 swept.member; within = swept.within })

    some_kept : (u : ℕ) (a : Cell) → 0 < u → i.number a ≡ u → kept_by k painted a ≡ true
    some_kept u a some e = numbered_kept (kept_by k painted) i.number plan.islands i.islands a (subst (λ (n : ℕ). 0 < n) (sym e) some)

    parts_in : PartsTiles k job.zwork i.number plan.groups.items tiles moves
    parts_in s t u v s_in t_in su sv (a, b, a_is, b_is, link) =
        let past = past_home apart s s_in a (cell_in t b) (some_kept u a su a_is) link in
        let there = end_home apart s s_in a (cell_in (back_tile s) (cell_in t b)) past in
        let same : s ≡ t = one_tile plan.frame tiles s t (cell_in (back_tile s) (cell_in t b)) b apart s_in t_in there (kept_in b (some_kept v b sv b_is)) (cell_there s (cell_in t b)) in
        let home : cell_in (back_tile s) (cell_in t b) ≡ b = ap (λ (x : Tile). cell_in (back_tile s) (cell_in x b)) (sym same) ∙ cell_back s b in
        let left = linked_over (IsPast (sweep_of k) side.allowed) (IsLeft k painted) past_left a b (subst (λ (x : Cell). IsLinkedOver (IsPast (sweep_of k) side.allowed) a x) home past) in
        (same, λ ne. (i.lists u v su sv ne).1 (a, b, (a_is, b_is, left)))

    pub mills_tiles : MillsTiles job painted i.number plan.groups.items tiles moves
    mills_tiles = record { no_bite = no_bite_in; passes = passes_in; parts = parts_in }
