-- The low moves of a program in tiles are copies of those of the program as it stands.
use Rattle.std.proofs.Common.{◌≡◌, refl, zero, suc, ℤ, ◌*ℤ◌, List, [], ◌∷◌, ◌++◌, map, ◌⊎◌, inl, inr, ap, sym, ◌∙◌, subst, arith}
use Rattle.std.specs.List.{Contains, flat_map}
use Rattle.std.proofs.lemmas.List.{map-append}
use Rattle.std.proofs.lemmas.List.Elements.{Contains-append_left, Contains-append_right, Contains-append_cases}
use Rattle.std.proofs.lemmas.Grind.{flat_map-append}
use Rattle.board_base.specs.declared.places.Point.{Point}
use Rattle.board_base.specs.declared.places.Move.{Move}
use Rattle.rs274_sim.specs.Cutter.{IsLow, nanometre}
use Rattle.mill_program.specs.declared.cuts.ToolRun.{ToolRun}
use Rattle.mill_program.specs.declared.cuts.Program.{Program}
use Rattle.mill_program.specs.Conditions.{IsRunnable}
use Rattle.mill_program.specs.Moves.{moves_of, unnumbered}
use Rattle.mill_program.specs.Strokes.{AreStrokes}
use Rattle.tiling.specs.Tiles.{run_in, tiled}
use Rattle.tiling.specs.Copies.{move_in}
use Rattle.tiling.specs.Stretches.{CopiesLaw}
use Rattle.tiling.proofs.MoveCopies.{strokes_of, all_strokes, strokes_in, run_strokes}
use Rattle.tiling.proofs.LowLaws.{moves_in, low_in, in_low, program_strokes}
use Rattle.tiling.proofs.AlikeLaws.{of_item, item_in}
use Rattle.tiling.proofs.ProgramLaws.{runnable_in}

-- ---- the moves of strokes

moves_copy : (by : Point) (strokes : List (List Move)) → moves_in (strokes_in by strokes) ≡ map (move_in by) (moves_in strokes)
moves_copy by [] = refl
moves_copy by (stroke ∷ strokes) =
    ap (λ (ms : List Move). map (move_in by) stroke ++ ms) (moves_copy by strokes) ∙ sym (map-append (move_in by) stroke (moves_in strokes))

-- the moves of the strokes of a tool run
abbrev low_of : ℤ → ToolRun → List Move
low_of safe run = moves_in (strokes_of safe run run.cuts)

-- their copies, tile after tile
abbrev copies_of : List Point → List Move → List Move
copies_of shifts moves = flat_map (λ by. map (move_in by) moves) shifts

low_joined : (safe : ℤ) (runs : List ToolRun) → moves_in (all_strokes safe runs) ≡ flat_map (low_of safe) runs
low_joined safe [] = refl
low_joined safe (run ∷ runs) =
    flat_map-append (λ (s : List Move). s) (strokes_of safe run run.cuts) (all_strokes safe runs) ∙ ap (λ (ms : List Move). low_of safe run ++ ms) (low_joined safe runs)

tiles_low : (strokes : List (List Move)) (shifts : List Point)
    → moves_in (flat_map (λ by. strokes_in by strokes) shifts) ≡ copies_of shifts (moves_in strokes)
tiles_low strokes [] = refl
tiles_low strokes (by ∷ shifts) =
    flat_map-append (λ (s : List Move). s) (strokes_in by strokes) (flat_map (λ by. strokes_in by strokes) shifts) ∙ (λ t. moves_copy by strokes t ++ tiles_low strokes shifts t)

low_in_tiles : (safe : ℤ) (shifts : List Point) (runs : List ToolRun) → flat_map (low_of safe) (map (run_in shifts) runs) ≡ flat_map (λ run. copies_of shifts (low_of safe run)) runs
low_in_tiles safe shifts [] = refl
low_in_tiles safe shifts (run ∷ runs) =
    let first = ap moves_in (run_strokes safe run shifts) ∙ tiles_low (strokes_of safe run run.cuts) shifts in
    λ t. first t ++ low_in_tiles safe shifts runs t

-- ---- copies, one by one

-- the move is the copy of one of these
record IsCopy (shifts : List Point) (moves : List Move) (m : Move) : Type 0 where
  by : Point
  from : Move
  in_tile : Contains shifts by
  there : Contains moves from
  is : m ≡ move_in by from

copy_of : (shifts : List Point) (moves : List Move) (m : Move) → Contains (copies_of shifts moves) m → IsCopy shifts moves m
copy_of [] moves m (k, inside, here) = absurd (omega (arith, inside))
copy_of (by ∷ shifts) moves m there = by_tile (copy_of shifts moves m) (Contains-append_cases (map (move_in by) moves) (copies_of shifts moves) m there)
  where
    by_tile : (Contains (copies_of shifts moves) m → IsCopy shifts moves m) → Contains (map (move_in by) moves) m ⊎ Contains (copies_of shifts moves) m → IsCopy (by ∷ shifts) moves m
    by_tile others (inl here) = let r = of_item (move_in by) moves m here in record { by = by; from = r.0; in_tile = (0, omega arith, refl); there = r.1; is = sym r.2 }
    by_tile others (inr later) =
        let r = others later in record { by = r.by; from = r.from; in_tile = Contains-append_right (by ∷ []) shifts r.by r.in_tile; there = r.there; is = r.is }

copy_in : (shifts : List Point) (moves : List Move) (by : Point) (n : Move) → Contains shifts by → Contains moves n → Contains (copies_of shifts moves) (move_in by n)
copy_in [] moves by n (k, inside, here) there = absurd (omega (arith, inside))
copy_in (s ∷ shifts) moves by n (zero, inside, here) there =
    Contains-append_left (map (move_in s) moves) (copies_of shifts moves) (move_in by n) (subst (λ (b : Point). Contains (map (move_in s) moves) (move_in b n)) here (item_in (move_in s) moves n there))
copy_in (s ∷ shifts) moves by n (suc k, inside, here) there =
    Contains-append_right (map (move_in s) moves) (copies_of shifts moves) (move_in by n) (copy_in shifts moves by n (k, omega (arith, inside), here) there)

module _ (safe : ℤ) (shifts : List Point) where
  run_copy_of : (runs : List ToolRun) (m : Move) → Contains (flat_map (λ run. copies_of shifts (low_of safe run)) runs) m → IsCopy shifts (flat_map (low_of safe) runs) m
  run_copy_of [] m (k, inside, here) = absurd (omega (arith, inside))
  run_copy_of (run ∷ runs) m there = by_run (run_copy_of runs m) (Contains-append_cases (copies_of shifts (low_of safe run)) (flat_map (λ r. copies_of shifts (low_of safe r)) runs) m there)
    where
      by_run : (Contains (flat_map (λ r. copies_of shifts (low_of safe r)) runs) m → IsCopy shifts (flat_map (low_of safe) runs) m) → Contains (copies_of shifts (low_of safe run)) m ⊎ Contains (flat_map (λ r. copies_of shifts (low_of safe r)) runs) m → IsCopy shifts (flat_map (low_of safe) (run ∷ runs)) m
      by_run others (inl here) =
          let r = copy_of shifts (low_of safe run) m here in
          record { by = r.by; from = r.from; in_tile = r.in_tile; there = Contains-append_left (low_of safe run) (flat_map (low_of safe) runs) r.from r.there; is = r.is }
      by_run others (inr later) =
          let r = others later in
          record { by = r.by; from = r.from; in_tile = r.in_tile; there = Contains-append_right (low_of safe run) (flat_map (low_of safe) runs) r.from r.there; is = r.is }

  run_copy_in : (runs : List ToolRun) (by : Point) (n : Move) → Contains shifts by → Contains (flat_map (low_of safe) runs) n → Contains (flat_map (λ run. copies_of shifts (low_of safe run)) runs) (move_in by n)
  run_copy_in [] by n in_tile (k, inside, here) = absurd (omega (arith, inside))
  run_copy_in (run ∷ runs) by n in_tile there = by_run (run_copy_in runs by n in_tile) (Contains-append_cases (low_of safe run) (flat_map (low_of safe) runs) n there)
    where
      by_run : (Contains (flat_map (low_of safe) runs) n → Contains (flat_map (λ r. copies_of shifts (low_of safe r)) runs) (move_in by n)) → Contains (low_of safe run) n ⊎ Contains (flat_map (low_of safe) runs) n → Contains (flat_map (λ r. copies_of shifts (low_of safe r)) (run ∷ runs)) (move_in by n)
      by_run others (inl here) =
          Contains-append_left (copies_of shifts (low_of safe run)) (flat_map (λ r. copies_of shifts (low_of safe r)) runs) (move_in by n) (copy_in shifts (low_of safe run) by n in_tile here)
      by_run others (inr later) =
          Contains-append_right (copies_of shifts (low_of safe run)) (flat_map (λ r. copies_of shifts (low_of safe r)) runs) (move_in by n) (others later)

-- ---- the law

-- the moves of the strokes of a program in tiles
tiled_low : (shifts : List Point) (p : Program) → moves_in (all_strokes p.safe (tiled shifts p).runs) ≡ flat_map (λ run. copies_of shifts (low_of p.safe run)) p.runs
unfolding tiled
tiled_low shifts p = low_joined p.safe (map (run_in shifts) p.runs) ∙ low_in_tiles p.safe shifts p.runs

tiled_strokes : (shifts : List Point) (p : Program) → IsRunnable p → AreStrokes (p.safe *ℤ nanometre) (all_strokes p.safe (tiled shifts p).runs) (moves_of (tiled shifts p))
unfolding tiled
tiled_strokes shifts p w = program_strokes (tiled shifts p) (runnable_in shifts p w)

module _ (shifts : List Point) (p : Program) (plain moves : List Move) (w : IsRunnable p) (of_plain : map unnumbered plain ≡ moves_of p) (of_moves : map unnumbered moves ≡ moves_of (tiled shifts p)) where
  abbrev height : ℤ
  height = p.safe *ℤ nanometre

  abbrev strokes : List (List Move)
  strokes = all_strokes p.safe p.runs

  abbrev strokes_tiled : List (List Move)
  strokes_tiled = all_strokes p.safe (tiled shifts p).runs

  each_low : (m : Move) → Contains moves m → IsLow height m → (by : Point) × (n : Move) × Contains shifts by × Contains plain n × (unnumbered m ≡ unnumbered (move_in by n))
  each_low m there low =
      let unnumbered_there : Contains (moves_of (tiled shifts p)) (unnumbered m) = subst (λ (ms : List Move). Contains ms (unnumbered m)) of_moves (item_in unnumbered moves m there) in
      let inside : Contains (moves_in strokes_tiled) (unnumbered m) = low_in height strokes_tiled (moves_of (tiled shifts p)) (unnumbered m) (tiled_strokes shifts p w) unnumbered_there low in
      let copy = run_copy_of p.safe shifts p.runs (unnumbered m) (subst (λ (ms : List Move). Contains ms (unnumbered m)) (tiled_low shifts p) inside) in
      let among : Contains (moves_in strokes) copy.from = subst (λ (ms : List Move). Contains ms copy.from) (sym (low_joined p.safe p.runs)) copy.there in
      let r = of_item unnumbered plain copy.from (subst (λ (ms : List Move). Contains ms copy.from) (sym of_plain) (in_low height strokes (moves_of p) copy.from (program_strokes p w) among)) in
      (copy.by, r.0, copy.in_tile, r.1, copy.is ∙ ap (move_in copy.by) (sym r.2))

  all_low : (by : Point) (n : Move) → Contains shifts by → Contains plain n → IsLow height n → (m : Move) × Contains moves m × (unnumbered m ≡ unnumbered (move_in by n))
  all_low by n in_tile there low =
      let unnumbered_there : Contains (moves_of p) (unnumbered n) = subst (λ (ms : List Move). Contains ms (unnumbered n)) of_plain (item_in unnumbered plain n there) in
      let inside : Contains (moves_in strokes) (unnumbered n) = low_in height strokes (moves_of p) (unnumbered n) (program_strokes p w) unnumbered_there low in
      let copied = run_copy_in p.safe shifts p.runs by (unnumbered n) in_tile (subst (λ (ms : List Move). Contains ms (unnumbered n)) (low_joined p.safe p.runs) inside) in
      let copy : Move = move_in by (unnumbered n) in
      let among : Contains (moves_in strokes_tiled) copy = subst (λ (ms : List Move). Contains ms copy) (sym (tiled_low shifts p)) copied in
      of_item unnumbered moves copy (subst (λ (ms : List Move). Contains ms copy) (sym of_moves) (in_low height strokes_tiled (moves_of (tiled shifts p)) copy (tiled_strokes shifts p w) among))

pub copies : CopiesLaw
copies shifts p plain moves w of_plain of_moves = record { each = each_low shifts p plain moves w of_plain of_moves; all = all_low shifts p plain moves w of_plain of_moves }
