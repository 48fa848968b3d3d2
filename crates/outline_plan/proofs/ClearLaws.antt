-- What the cuts of a program keep clear of, its run does.
use Rattle.std.proofs.Common.{◌≡◌, ℤ, pos, ◌*ℤ◌, ◌≤ℤ◌, ◌<ℤ◌, Bool, true, false, ◌⊎◌, inl, inr, List, [], ◌∷◌, ◌++◌, map, refl, sym, subst, arith}
use Rattle.std.specs.List.{All, Contains}
use Rattle.std.proofs.lemmas.List.Elements.{All-nil, All-cons, All-append, All-head, All-tail, All-contains}
use borrow.Author.Differences.{ints}
use Rattle.board_base.specs.declared.places.Point.{Point}
use Rattle.board_base.specs.declared.places.Pos.{Pos}
use Rattle.board_base.specs.declared.places.Move.{Move}
use Rattle.board_base.specs.Near.{near_of}
use Rattle.rs274_sim.specs.Cutter.{nanometre, scaled, under, width_of, IsLow, Sweeps, NoBite}
use Rattle.mill_program.specs.declared.cuts.Corner.{Corner}
use Rattle.mill_program.specs.declared.cuts.ToolRun.{ToolRun}
use Rattle.mill_program.specs.declared.cuts.Program.{Program}
use Rattle.mill_program.specs.Moves.{Spindle, standing, turning_in, rapid, feeding, place_of as pos_of, at_height, over, zero_pos, step_move, step_moves, last_of, cut_moves, after_cut, cuts_moves, after_cuts, runs_moves, moves_of, unnumbered}
use Rattle.outline_bridges.specs.CutLaw.{place_of, IsBelow, AreClear, IsClear}
use Rattle.mill_program.proofs.StrokeLaws.{not_low, scaled_up}
use Rattle.mill_plan.proofs.MoveLaws.{numbered}
use Rattle.mill_plan.proofs.UnitLaws.{unscaled}
use Rattle.outline_plan.proofs.UnitLaws.{under_corner, under_over}

smaller : (a b : ℤ) → (a *ℤ nanometre) <ℤ (b *ℤ nanometre) → a <ℤ b
smaller a b h = omega (arith, ints)

module _ (q : Point) (d h safe : ℤ) (under_safe : h ≤ℤ safe) where
  -- the move keeps clear of q
  abbrev Clears : Move → Type 0
  Clears m = IsLow (h *ℤ nanometre) m → near_of (scaled q) (under m.from) (under m.to) (d *ℤ nanometre) ≡ true → ⊥

  not_below : (z : ℤ) → (h *ℤ nanometre) ≤ℤ z → z <ℤ (h *ℤ nanometre) → ⊥
  not_below z a b = omega (arith, ints)

  high_clears : (m : Move) → (h *ℤ nanometre) ≤ℤ (m.from).z → (h *ℤ nanometre) ≤ℤ (m.to).z → Clears m
  high_clears m a b low near = not_low (h *ℤ nanometre) m a b low

  at_safe : (h *ℤ nanometre) ≤ℤ (safe *ℤ nanometre)
  at_safe = scaled_up h safe under_safe

  -- near a corner, or the part from one to the next
  near_corners : (c e : Corner) (p r : Point) → p ≡ scaled (place_of c) → r ≡ scaled (place_of e) → near_of (scaled q) p r (d *ℤ nanometre) ≡ true → near_of q (place_of c) (place_of e) d ≡ true
  near_corners c e p r f g near =
      unscaled q (place_of c) (place_of e) d (subst (λ x. near_of (scaled q) (scaled (place_of c)) x (d *ℤ nanometre) ≡ true) g (subst (λ x. near_of (scaled q) x r (d *ℤ nanometre) ≡ true) f near))

  corner_clear : (c : Corner) (cs : List Corner) → AreClear q d h c cs → c.z <ℤ h → near_of q (place_of c) (place_of c) d ≡ true → ⊥
  corner_clear c [] clear = clear
  corner_clear c (e ∷ es) clear = clear.0

  steps_clear : (run : ToolRun) (c : Corner) (cs : List Corner) → AreClear q d h c cs → All Clears (step_moves run c cs)
  steps_clear run c [] clear = All-nil Clears
  steps_clear run c (e ∷ es) clear =
      All-cons Clears (step_move run c e) (step_moves run e es)
      (λ low near. clear.1 (below low) (near_corners c e (under (pos_of c)) (under (pos_of e)) (under_corner c) (under_corner e) near))
      (steps_clear run e es clear.2)
    where
      below : IsLow (h *ℤ nanometre) (step_move run c e) → IsBelow h c e
      below (turning, inl low) = inl (smaller c.z h low)
      below (turning, inr low) = inr (smaller e.z h low)

  last_clear : (c : Corner) (cs : List Corner) → AreClear q d h c cs → (last_of c cs).z <ℤ h → near_of q (place_of (last_of c cs)) (place_of (last_of c cs)) d ≡ true → ⊥
  last_clear c [] clear = clear
  last_clear c (e ∷ es) clear = last_clear e es clear.2

  cut_clear : (run : ToolRun) (from : Pos) (cut : List Corner) → from.z ≡ safe *ℤ nanometre → IsClear q d h cut → All Clears (cut_moves safe run from cut)
  cut_clear run from [] high clear = All-nil Clears
  cut_clear run from (c ∷ cs) high clear =
      let first = rapid (turning_in run) from (over safe c) in
      let plunge = feeding run run.plunge (over safe c) (pos_of c) in
      let last = last_of c cs in
      let up = rapid (turning_in run) (pos_of last) (over safe last) in
      All-cons Clears first (plunge ∷ step_moves run c cs ++ up ∷ []) (high_clears first (subst (λ z. (h *ℤ nanometre) ≤ℤ z) (sym high) at_safe) at_safe)
      (All-cons Clears plunge (step_moves run c cs ++ up ∷ []) (λ low near. down low near)
      (All-append Clears (step_moves run c cs) (up ∷ []) (steps_clear run c cs clear) (All-cons Clears up [] (λ low near. off low near) (All-nil Clears))))
    where
      down : IsLow (h *ℤ nanometre) (feeding run run.plunge (over safe c) (pos_of c)) → near_of (scaled q) (under (over safe c)) (under (pos_of c)) (d *ℤ nanometre) ≡ true → ⊥
      down (turning, inl low) near = not_below (safe *ℤ nanometre) at_safe low
      down (turning, inr low) near = corner_clear c cs clear (smaller c.z h low) (near_corners c c (under (over safe c)) (under (pos_of c)) (under_over safe c) (under_corner c) near)

      off : IsLow (h *ℤ nanometre) (rapid (turning_in run) (pos_of (last_of c cs)) (over safe (last_of c cs)))
          → near_of (scaled q) (under (pos_of (last_of c cs))) (under (over safe (last_of c cs))) (d *ℤ nanometre) ≡ true → ⊥
      off (turning, inl low) near =
          last_clear c cs clear (smaller (last_of c cs).z h low)
          (near_corners (last_of c cs) (last_of c cs) (under (pos_of (last_of c cs))) (under (over safe (last_of c cs))) (under_corner (last_of c cs)) (under_over safe (last_of c cs)) near)
      off (turning, inr low) near = not_below (safe *ℤ nanometre) at_safe low

  after_height : (from : Pos) (cut : List Corner) → from.z ≡ safe *ℤ nanometre → (after_cut safe from cut).z ≡ safe *ℤ nanometre
  after_height from [] high = high
  after_height from (c ∷ cs) high = refl

  cuts_clear : (run : ToolRun) (from : Pos) (cuts : List (List Corner)) → from.z ≡ safe *ℤ nanometre → All (IsClear q d h) cuts → All Clears (cuts_moves safe run from cuts)
  cuts_clear run from [] high clear = All-nil Clears
  cuts_clear run from (cut ∷ cuts) high clear =
      All-append Clears (cut_moves safe run from cut) (cuts_moves safe run (after_cut safe from cut) cuts)
      (cut_clear run from cut high (All-head (IsClear q d h) cut cuts clear))
      (cuts_clear run (after_cut safe from cut) cuts (after_height from cut high) (All-tail (IsClear q d h) cut cuts clear))

  all_height : (from : Pos) (cuts : List (List Corner)) → from.z ≡ safe *ℤ nanometre → (after_cuts safe from cuts).z ≡ safe *ℤ nanometre
  all_height from [] high = high
  all_height from (cut ∷ cuts) high = all_height (after_cut safe from cut) cuts (after_height from cut high)

  -- the spindle stands, or the position is at the safe height
  abbrev IsReady : Spindle → Pos → Type 0
  IsReady spindle from = (spindle.turning ≡ false) ⊎ (from.z ≡ safe *ℤ nanometre)

  module _ (change : ℤ) (over_safe : safe ≤ℤ change) where
    at_change : (h *ℤ nanometre) ≤ℤ (change *ℤ nanometre)
    at_change = both h safe change under_safe over_safe
      where
        both : (a b c : ℤ) → a ≤ℤ b → b ≤ℤ c → (a *ℤ nanometre) ≤ℤ (c *ℤ nanometre)
        both a b c h k = omega (arith, ints)

    rise_clears : (spindle : Spindle) (from : Pos) → IsReady spindle from → Clears (rapid spindle from (at_height change from))
    rise_clears spindle from (inl stands) (turning, low) near = by spindle.turning stands turning
      where
        by : (t : Bool) → t ≡ false → t ≡ true → ⊥
        by true e f = absurd (cc)
        by false e f = absurd (cc)
    rise_clears spindle from (inr high) low near =
        high_clears (rapid spindle from (at_height change from)) (subst (λ z. (h *ℤ nanometre) ≤ℤ z) (sym high) at_safe) at_change low near

    runs_clear : (spindle : Spindle) (from : Pos) (runs : List ToolRun) → IsReady spindle from → All (λ run. All (IsClear q d h) run.cuts) runs → All Clears (runs_moves safe change spindle from runs)
    runs_clear spindle from [] ready clear = All-cons Clears (rapid spindle from (at_height change from)) [] (rise_clears spindle from ready) (All-nil Clears)
    runs_clear spindle from (run ∷ runs) ready clear =
        let rise = rapid spindle from (at_height change from) in
        let fall = rapid (turning_in run) (at_height change from) (at_height safe from) in
        let start = at_height safe from in
        let cuts = cuts_moves safe run start run.cuts in
        let end = after_cuts safe start run.cuts in
        let rest = runs_moves safe change (turning_in run) end runs in
        All-cons Clears rise (fall ∷ cuts ++ rest) (rise_clears spindle from ready)
        (All-cons Clears fall (cuts ++ rest) (high_clears fall at_change at_safe)
        (All-append Clears cuts rest (cuts_clear run start run.cuts refl (All-head (λ run. All (IsClear q d h) run.cuts) run runs clear))
        (runs_clear (turning_in run) end runs (inr (all_height start run.cuts refl)) (All-tail (λ run. All (IsClear q d h) run.cuts) run runs clear))))

-- where each cut keeps clear of a place, the low moves of the program do
pub moves_clear : (p : Program) (q : Point) (r h : ℤ) → h ≤ℤ p.safe → p.safe ≤ℤ p.change → All (λ run. All (IsClear q (pos 2 *ℤ r) h) run.cuts) p.runs → (m : Move) → Contains (moves_of p) m → IsLow (h *ℤ nanometre) m → Sweeps m q r → ⊥
unfolding moves_of width_of
moves_clear p q r h low high clear m there =
    All-contains (Clears q (pos 2 *ℤ r) h p.safe low) (runs_moves p.safe p.change standing zero_pos p.runs) m (runs_clear q (pos 2 *ℤ r) h p.safe low p.change high standing zero_pos p.runs (inl refl) clear) there

-- where each cut keeps clear of all places of a kind, the run doesn't bite them
pub run_clear : (p : Program) (P : Point → Type 0) (r h : ℤ) (moves : List Move) → h ≤ℤ p.safe → p.safe ≤ℤ p.change → ((q : Point) → P q → All (λ run. All (IsClear q (pos 2 *ℤ r) h) run.cuts) p.runs)
    → map unnumbered moves ≡ moves_of p → NoBite (h *ℤ nanometre) P r moves
run_clear p P r h moves low high clear e q is m there = moves_clear p q r h low high (clear q is) (unnumbered m) (subst (λ (steps : List Move). Contains steps (unnumbered m)) e (numbered moves m there))
