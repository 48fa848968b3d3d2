-- Why programs that go along allowed cells pass the check.
use Rattle.std.proofs.Common.{◌≡◌, ◌↔◌, ℕ, zero, suc, List, ◌<◌, ℤ, pos, ◌+ℤ◌, ◌-ℤ◌, ◌*ℤ◌, ◌≤ℤ◌, ◌<ℤ◌, Bool, true, false, [], ◌∷◌, refl, sym, subst, ◌∙◌, arith}
use Rattle.std.proofs.lemmas.Bool.{false≢true}
use borrow.Author.Differences.{ints}
use Rattle.number_laws.proofs.Ring.{var, mul, ring}
use Rattle.number_laws.proofs.Order.{square_nonneg, mul_le_left, sub_nonneg, add_nonneg}
use Rattle.number_laws.proofs.Tests.{by_bool}
use Rattle.board_base.specs.declared.places.Cell.{Cell}
use Rattle.board_base.specs.declared.places.Move.{Move}
use Rattle.board_base.specs.Lattice.{centre_of, dist2, half_diagonal_of, IsBeside}
use Rattle.board_base.specs.Near.{near_of}
use Rattle.board_base.proofs.LatticeLaws.{pitch_positive, diagonal_nonneg}
use Rattle.plane_geom.specs.NearStep.{length2}
use Rattle.cell_sets.specs.Chains.{Chain, IsLinkedOver}
use Rattle.cell_sets.specs.Sweep.{IsSwept}
use Rattle.cell_sets.specs.Reached.{IsReachedFrom}
use Rattle.cell_sets.specs.Barrier.{IsBarrier, IsPast}
use Rattle.cell_sets.specs.Contour.{IsAllowed}
use Rattle.cell_sets.proofs.Barriers.{barrier as barrier_holds}
use Rattle.cell_sets.proofs.CellLaws.{beside_sym}
use Rattle.cell_sets.proofs.Links.{linked_over}
use Rattle.cell_sets.proofs.Sweeps.{between}
use Rattle.cell_grid.specs.declared.frames.Frame.{Frame}
use Rattle.cell_grid.specs.Cells.{in_frame}
use Rattle.cell_grid.proofs.CellsLaws.{in_frame_is, border_of}
use Rattle.separation_check.proofs.Pairs.{pair_law_holds}
use Rattle.shape_parts.specs.declared.shape.Painted.{Painted}
use Rattle.rs274_sim.specs.Cutter.{scaled, width_of, Sweeps}
use Rattle.mill_plan.specs.declared.cutting.Cutting.{Cutting}
use Rattle.mill_plan.specs.Cutting.{bite_of, guard, kept_by, sweep_of}
use Rattle.mill_plan.specs.Isolated.{IsLeft, AreJoinedGroups}
use Rattle.mill_plan.proofs.MillsLaws.{first_guard, off_centre, sweep_low}
use Rattle.mill_plan.proofs.SweptLaws.{at_itself, visited_beside}
use Rattle.mill_plan.proofs.UnitLaws.{unscaled, moved_on}
use Rattle.program_check.specs.Cutters.{IsCutter}
use Rattle.program_check.specs.Deep.{IsDeepOver}
use Rattle.program_check.specs.Marks.{IsPassedBy, IsReached, IsMarked, IsWhollySweptBy, ArePrinted}
use Rattle.program_check.specs.Own.{IsOwn, OwnProgram, OwnClearLaw, OwnMarkLaw, OwnChainLaw, OwnFrameLaw, OwnLaw, MarksSwept}
use Rattle.program_check.proofs.SoundLaws.{bite_nonneg, reached_swept}

-- ---- low moves

-- no kept cell's centre is so near an allowed centre
not_near : (k : Cutting) (a c : Cell) → IsCutter k → guard k 0 <ℤ dist2 a c
    → near_of (scaled (centre_of k.pitch c)) (scaled (centre_of k.pitch a)) (scaled (centre_of k.pitch a)) (width_of ((bite_of k +ℤ half_diagonal_of k.pitch) +ℤ half_diagonal_of k.pitch)) ≡ true → ⊥
unfolding width_of
not_near k a c ok far near =
    let h : ℤ = half_diagonal_of k.pitch in
    off_centre k.pitch h (bite_of k) (guard k 0) a c (pitch_positive k.pitch ok.pitch) (first_guard k) far
    (subst (λ (d : ℤ). near_of (centre_of k.pitch c) (centre_of k.pitch a) (centre_of k.pitch a) d ≡ true) (twice (bite_of k +ℤ h) h)
    (unscaled (centre_of k.pitch c) (centre_of k.pitch a) (centre_of k.pitch a) (pos 2 *ℤ ((bite_of k +ℤ h) +ℤ h)) near))
  where
    twice : (x h : ℤ) → pos 2 *ℤ (x +ℤ h) ≡ pos 2 *ℤ x +ℤ pos 2 *ℤ h
    twice x h = omega (arith, ints)

pub own_clear_holds : OwnClearLaw
own_clear_holds k painted safe moves ok follows move c hit =
    let h : ℤ = half_diagonal_of k.pitch in
    let f = follows move hit.0 hit.1 (centre_of k.pitch c) (bite_of k +ℤ h) (add_nonneg (bite_of k) h (bite_nonneg k ok) (diagonal_nonneg k.pitch)) hit.3 in
    not_near k f.0 c ok (f.1 c hit.2) f.2

-- ---- deep moves

pub swept_reached : (k : Cutting) (Deep : Move → Type 0) (moves : List Move) (Visited : Cell → Type 0) (c : Cell) → IsCutter k → ((v : Cell) → Visited v → IsPassedBy Deep moves (centre_of k.pitch v) (pos 0))
    → IsSwept (sweep_of k) Visited c → IsReached k Deep moves c
swept_reached k Deep moves Visited c ok passes swept =
    let p : ℤ = k.pitch in
    let x : ℤ = k.radius -ℤ half_diagonal_of p in
    let w : ℤ = pos (sweep_of k) in
    let v : Cell = swept.from in
    let pass = passes v swept.member in
    let reach = mul_le_left (p *ℤ p) (dist2 v c) w (square_nonneg p) swept.within in
    let swap : (p *ℤ p) *ℤ w ≡ w *ℤ (p *ℤ p) = ring (p ∷ w ∷ []) (mul (mul (var 0) (var 0)) (var 1)) (mul (var 1) (mul (var 0) (var 0))) refl in
    let short : IsReachedFrom x (centre_of p v) (centre_of p c) =
    by (length2 ((centre_of p c).x -ℤ (centre_of p v).x) ((centre_of p c).y -ℤ (centre_of p v).y)) ((p *ℤ p) *ℤ dist2 v c) ((p *ℤ p) *ℤ w) (w *ℤ (p *ℤ p)) (x *ℤ x) (between p v c) reach swap (sweep_low k (pitch_positive p ok.pitch)) in (
      pass.0,
      pass.1,
      pass.2,
      subst (λ (d : ℤ). Sweeps pass.0 (centre_of p c) d) (none x) (moved_on pass.0 (centre_of p v) (centre_of p c) (pos 0) x (omega (arith, ints)) (sub_nonneg (half_diagonal_of p) k.radius ok.fine) short pass.3),
    )
  where
    by : (l m n o s : ℤ) → l ≡ m → m ≤ℤ n → n ≡ o → o ≤ℤ s → l ≤ℤ s
    by l m n o s e a f b = omega (arith, ints)

    none : (x : ℤ) → pos 0 +ℤ x ≡ x
    none x = omega (arith, ints)

pub passed_swept : (k : Cutting) (Deep : Move → Type 0) (moves : List Move) (Visited : Cell → Type 0) (c : Cell) → IsCutter k → ((v : Cell) → Visited v → IsPassedBy Deep moves (centre_of k.pitch v) (pos 0))
    → IsSwept (sweep_of k) Visited c → IsWhollySweptBy k Deep moves c
passed_swept k Deep moves Visited c ok passes swept = reached_swept k Deep moves c ok (swept_reached k Deep moves Visited c ok passes swept)

pub own_mark_holds : OwnMarkLaw
own_mark_holds k surface work moves visited c = swept_reached k (IsDeepOver surface work) moves (λ v. visited v ≡ true) c

-- ---- chains

module _ (w : ℕ) (allowed visited kept : Cell → Bool) (f : Frame) (Marked : Cell → Type 0) (barrier : IsBarrier allowed visited kept) (marks : MarksSwept w allowed visited f Marked) where
  -- an unmarked cell that isn't allowed lies in the frame, so no visited cell sweeps it
  past : (c : Cell) → allowed c ≡ false → (Marked c → ⊥) → IsPast w visited c
  past c off free = by_bool (in_frame f c) (λ inside. marks.unmarked c inside free) (λ out. absurd (false≢true (sym off ∙ marks.outside c out)))

  -- a chain can't enter the allowed cells but at a visited one, which is marked
  stays_out : (c b : Cell) → allowed c ≡ false → IsBeside c b → (Marked b → ⊥) → allowed b ≡ false
  stays_out c b off beside free =
      by_bool (allowed b)
      (λ on.
      let seen : visited b ≡ true = visited_beside allowed visited kept barrier c b off beside on in
      absurd (marks.unmarked b (marks.inside b seen) free (record { from = b; member = seen; within = at_itself w b })))
      (λ out. out)

  pub stays : (a b : Cell) (n : ℕ) → allowed a ≡ false → Chain (λ c. Marked c → ⊥) a b n → (allowed b ≡ false) × Chain (IsPast w visited) a b n
  stays a b zero off p = (subst (λ (c : Cell). allowed c ≡ false) p.0 off, (p.0, past a off p.1))
  stays a b (suc n) off p =
      let s = stays a p.0 n off p.1.0 in
      let out : allowed b ≡ false = stays_out p.0 b s.0 p.1.1 p.1.2 in
      (out, (p.0, (s.1, p.1.1, past b out p.1.2)))

pub past_allowed : (w : ℕ) (allowed visited kept : Cell → Bool) (f : Frame) (Marked : Cell → Type 0) → IsBarrier allowed visited kept → MarksSwept w allowed visited f Marked
    → (a b : Cell) → kept a ≡ true → IsLinkedOver (λ c. Marked c → ⊥) a b → IsLinkedOver (IsPast w allowed) a b
past_allowed w allowed visited kept f Marked barrier marks a b on link =
    (barrier_holds w allowed visited kept barrier a b on).0
    (record { steps = link.steps; chain = (stays w allowed visited kept f Marked barrier marks a b link.steps (barrier.clear a on) link.chain).1 })

pub own_chain_holds : OwnChainLaw
own_chain_holds w allowed visited kept marked f = past_allowed w allowed visited kept f (λ c. marked c ≡ true)

pub own_frame_holds : OwnFrameLaw
own_frame_holds f allowed outside border c b beside off =
    by_bool (in_frame f c) (λ there. there) (λ out.
    by_bool (in_frame f b)
    (λ there. absurd (false≢true (sym off ∙ border b (border_of f b c (in_frame_is f b there) out (beside_sym c b beside.beside)))))
    (λ gone. absurd (false≢true (sym off ∙ outside b gone))))

-- ---- a whole program

-- what no allowed cell sweeps is left, by the test and by what it stands for
past_left : (k : Cutting) (painted : List Painted) (allowed : Cell → Bool) → ((c : Cell) → allowed c ≡ true ↔ IsAllowed (kept_by k painted) (guard k 0) c) → (c : Cell) → IsPast (sweep_of k) allowed c → IsLeft k painted c
past_left k painted allowed are c past swept = past (record { from = swept.from; member = (are swept.from).1 swept.member; within = swept.within })

own_of : (k : Cutting) (painted : List Painted) (f : Frame) (safe : ℤ) (Deep : Move → Type 0) (moves : List Move) (allowed visited : Cell → Bool)
    (number : Cell → ℕ) (printed listed : List (List ℕ)) → IsCutter k → IsOwn k painted f safe Deep moves allowed visited
    → ((c : Cell) → 0 < number c → kept_by k painted c ≡ true) → ArePrinted k f Deep moves number printed → AreJoinedGroups k painted number listed
    → OwnProgram k painted safe moves printed listed
own_of k painted f safe Deep moves allowed visited number printed listed ok own kept_of printed_are listed_are = record {
  clear = own_clear_holds k painted safe moves ok (λ move there low q r r_in swept.
      let g = own.follows move there low q r r_in swept in
      (g.0, (own.allowed_are g.0).0 g.1, g.2));
  lists = λ u v su sv ne pair.
      let j = (pair_law_holds (λ c. IsMarked k f Deep moves c → ⊥) number printed printed_are u v su sv ne).0 pair in
      let on : kept_by k painted j.0 ≡ true = kept_of j.0 (subst (λ (n : ℕ). 0 < n) (sym j.2.0) su) in
      let marks : MarksSwept (sweep_of k) allowed visited f (IsMarked k f Deep moves) = record {
        inside = own.inside;
        outside = own.outside;
        unmarked = λ c inside free swept. free (inside, swept_reached k Deep moves (λ v. visited v ≡ true) c ok own.passes swept);
      } in
      let past = past_allowed (sweep_of k) allowed visited (kept_by k painted) f (IsMarked k f Deep moves) own.barrier marks j.0 j.1 on j.2.2 in
      (pair_law_holds (IsLeft k painted) number listed listed_are u v su sv ne).1
      (j.0, j.1, (j.2.0, j.2.1, linked_over (IsPast (sweep_of k) allowed) (IsLeft k painted) (past_left k painted allowed own.allowed_are) j.0 j.1 past));
}

pub own_holds : OwnLaw
own_holds k painted f safe surface work = own_of k painted f safe (IsDeepOver surface work)
