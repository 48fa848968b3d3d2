-- The cells of a run are joined over the grid.
use Rattle.std.proofs.Common.{◌≡◌, ℕ, zero, suc, ◌+◌, ◌-◌, ◌*◌, ◌<◌, ◌≤◌, Bool, true, false, List, length, get_or, inl, inr, refl, sym, ap, subst, ◌∙◌, arith}
use Rattle.std.proofs.lemmas.Bool.{cases_lt}
use mathlib.Core.Bool.{beq}
use Rattle.board_base.specs.declared.places.Cell.{Cell}
use Rattle.cell_grid.specs.declared.frames.Frame.{Frame}
use Rattle.cell_grid.specs.declared.bits.Plane.{Plane}
use Rattle.cell_grid.specs.Grid.{Grid, plane_of}
use Rattle.cell_grid.specs.Spans.{set_span}
use Rattle.cell_grid.specs.Place.{InFrame, place_of, cells_of}
use Rattle.cell_grid.proofs.CellsLaws.{in_frame_true}
use Rattle.islands.specs.Taken.{is_taken}
use Rattle.islands.specs.Floods.{ChangesNumbers}
use Rattle.islands.specs.Forests.{nodes, IsForested, IsJoined, IsHanging}
use Rattle.islands.proofs.Numbers.{taken_inside, plane_same}
use Rattle.islands.proofs.JoinLaws.{node_inside, points_inside}
use Rattle.islands.proofs.Runs.{beq_same, hang_span}

module _ (start : Grid) (p : Plane) (on : Bool) (outer : ℕ) (f : Frame) (y first past : ℕ) where
  -- the cells of the run before a place are joined
  pub record IsRunAt (g : Grid) (at : ℕ) : Type 0 where
    pub rest : ChangesNumbers start g
    pub low : first ≤ at
    pub high : at ≤ past
    pub joined : IsJoined f (is_taken on f (plane_of start p)) outer g.works at

  pub run_begins : first ≤ past → IsJoined f (is_taken on f (plane_of start p)) outer start.works first → IsRunAt start first
  run_begins l j = record { rest = refl; low = omega arith; high = l; joined = j }

  module _ (same : f ≡ start.frame) (y_in : y < f.height) (west : y * f.width ≤ first) (east : past ≤ y * f.width + f.width)
      (taken : (k : ℕ) → first ≤ k → k < past → get_or (plane_of start p) k false ≡ on) (len : length start.works ≡ cells_of start.frame) where
    in_cells : past ≤ cells_of f
    in_cells = omega (arith, east, room y f.height f.width y_in)
      where
        room : (a b w : ℕ) → a < b → a * w + w ≤ w * b
        room a zero w l = absurd (omega (arith, l))
        room a (suc b) w l = elim (cases_lt a b) as (λ _. a * w + w ≤ w * suc b) [
          | inl k ↦ let r = room a b w k in omega (arith, r)
          | inr k ↦ let e : a ≡ b = omega (arith, l, k) in subst (λ (n : ℕ). n * w + w ≤ w * suc b) (sym e) (omega arith)
        ]

    pub run_in : past ≤ cells_of start.frame
    run_in = omega (arith, in_cells, ap cells_of same)

    module _ (g : Grid) (at : ℕ) (q : IsRunAt g at) (more : at < past) where
      pub run_frame : f ≡ g.frame
      run_frame = same ∙ sym (ap (λ (h : Grid). h.frame) q.rest)

      pub run_column : at - y * f.width < f.width
      run_column = let l = q.low in omega (arith, l, more, west, east)

      pub run_place : y * f.width + (at - y * f.width) ≡ at
      run_place = let l = q.low in omega (arith, l, west)

      pub run_forest : IsForested (nodes outer g.works)
      run_forest = record { root = q.joined.root; forest = q.joined.forest }

      pub run_free : (c : Cell) → InFrame f c → place_of f c ≡ at → get_or g.works (place_of f c) 0 ≡ 0
      run_free c c_in at_c =
          let i = in_frame_true f c c_in in
          sym (points_inside f outer g.works c i) ∙ q.joined.clear c (λ d. let l = d.before in omega (arith, l, node_inside f c i, at_c))

      pub run_cell : (c : Cell) → InFrame f c → place_of f c ≡ at → is_taken on f (plane_of start p) c ≡ true
      run_cell c c_in at_c =
          taken_inside on f (plane_of start p) c (in_frame_true f c c_in) ∙ ap (λ (n : ℕ). beq (get_or (plane_of start p) n false) on) at_c
          ∙ beq_same (get_or (plane_of start p) at false) on (taken at (let l = q.low in omega (arith, l)) more)

      module _ (g1 : Grid) (c : Cell) (c_in : InFrame f c) (at_c : place_of f c ≡ at) (rest : ChangesNumbers g g1)
          (joins : (test : Cell → Bool) → test c ≡ true → IsJoined f test outer g.works (place_of f c) → IsJoined f test outer g1.works (place_of f c + 1)) where
        one_joined : IsJoined f (is_taken on f (plane_of start p)) outer g1.works (at + 1)
        one_joined =
            subst (λ (n : ℕ). IsJoined f (is_taken on f (plane_of start p)) outer g1.works (n + 1)) at_c
            (joins (is_taken on f (plane_of start p)) (run_cell c c_in at_c) (subst (λ (n : ℕ). IsJoined f (is_taken on f (plane_of start p)) outer g.works n) (sym at_c) q.joined))

        both : ChangesNumbers start g1
        both = rest ∙ ap (λ (x : Grid). record x { works = g1.works; waiting = g1.waiting; put = g1.put }) q.rest

        pub its_plane : plane_of g1 p ≡ plane_of start p
        its_plane = ap (λ (h : Grid). plane_of h p) both ∙ plane_same start g1 p

        pub run_on : (g2 : Grid) (stop up : ℕ) → length g1.works ≡ cells_of g1.frame → at + 1 ≤ stop → stop ≤ past → up ≡ get_or g1.works at 0
            → ((k : ℕ) → at + 1 ≤ k → k < stop → IsHanging f (plane_of g1 p) on y k) → g2 ≡ record g1 { works = set_span g1.works (at + 1) (stop - (at + 1)) up } → IsRunAt g2 stop
        run_on g2 stop up len1 low high e hanging put =
            let frames : cells_of g1.frame ≡ cells_of f = ap (λ (h : Grid). cells_of h.frame) both ∙ ap cells_of (sym same) in
            let n = stop - (at + 1) in
            let end : at + 1 + n ≡ stop = omega (arith, low) in
            let first_at = q.low in
            let h = hang_span f (plane_of start p) on outer y y_in g1.works at n up (len1 ∙ frames) e
            (λ k l m. taken k (omega (arith, l, first_at)) (omega (arith, m, end, high)))
            (λ k l m. subst (λ (xs : List Bool). IsHanging f xs on y k) its_plane (hanging k (omega (arith, l)) (omega (arith, m, end)))) one_joined (omega (arith, end, high, in_cells)) in
            record {
              rest = subst (λ (x : Grid). ChangesNumbers start x) (sym put) (ap (λ (x : Grid). record x { works = set_span g1.works (at + 1) (stop - (at + 1)) up }) both);
              low = omega (arith, first_at, low);
              high = high;
              joined = subst (λ (ws : List ℕ). IsJoined f (is_taken on f (plane_of start p)) outer ws stop) (sym (ap (λ (x : Grid). x.works) put))
                  (subst (λ (k : ℕ). IsJoined f (is_taken on f (plane_of start p)) outer (set_span g1.works (at + 1) n up) k) end h.joined);
            }
