-- The stretches of the run of a program in tiles.
use Rattle.std.proofs.Common.{◌≡◌, refl, ◌<◌, ℤ, ◌*ℤ◌, ◌≤ℤ◌, List, [], ◌∷◌, ◌++◌, length, map, take, drop, ap, sym, ◌∙◌, subst, append_assoc, append-nil, arith}
use Rattle.std.specs.List.{All, AllZip, flat_map}
use Rattle.std.proofs.lemmas.Int.{ints}
use Rattle.std.proofs.lemmas.List.{take-append-drop}
use Rattle.std.proofs.lemmas.List.Elements.{All-nil, All-cons, All-head, recursion_from_All, All-map, All-weaker}
use Rattle.std.proofs.lemmas.Simd.{map-map}
use Rattle.board_base.specs.declared.places.Point.{Point}
use Rattle.board_base.specs.declared.places.Pos.{Pos}
use Rattle.board_base.specs.declared.places.Move.{Move}
use Rattle.rs274_sim.specs.Cutter.{IsLow, nanometre}
use Rattle.mill_program.specs.declared.cuts.Corner.{Corner}
use Rattle.mill_program.specs.declared.cuts.ToolRun.{ToolRun}
use Rattle.mill_program.specs.declared.cuts.Program.{Program}
use Rattle.mill_program.specs.Conditions.{IsRunnableCut, IsRunnable}
use Rattle.mill_program.specs.Moves.{unnumbered, standing, turning_in, rapid, at_height, zero_pos, cut_moves, after_cut, cuts_moves, after_cuts, runs_moves, moves_of}
use Rattle.mill_program.specs.Strokes.{AreHigh, BeginsHigh, AreStrokes}
use Rattle.tiling.specs.Tiles.{cut_in, cuts_in, run_in, tiled}
use Rattle.tiling.specs.Copies.{move_in, back}
use Rattle.tiling.specs.Stretches.{InTiles}
use Rattle.tiling.specs.Alike.{CutAlike, StretchLaw}
use Rattle.tiling.proofs.MoveCopies.{strokes_of, all_strokes, strokes_in, strokes_copy, strokes_same, strokes_back}
use Rattle.tiling.proofs.LowLaws.{strokes_behind, strokes_joined, cuts_end, cuts_strokes, change_moves, change_high, end_high, at_start, program_strokes}
use Rattle.tiling.proofs.AlikeLaws.{parts, strokes_mapped}
use Rattle.tiling.proofs.ProgramLaws.{runnable_cut_in}

-- ---- what holds in each tile

each_weaker : (P Q : List Move → Type 0) → ((moves : List Move) → P moves → Q moves) → (shifts : List Point) (stretches : List (List Move))
    → AllZip (λ by stretch. P (map (move_in (back by)) stretch)) shifts stretches → AllZip (λ by stretch. Q (map (move_in (back by)) stretch)) shifts stretches
each_weaker P Q so [] [] h = tt
each_weaker P Q so [] (s ∷ stretches) h = h
each_weaker P Q so (by ∷ shifts) [] h = h
each_weaker P Q so (by ∷ shifts) (s ∷ stretches) h = (so (map (move_in (back by)) s) h.0, each_weaker P Q so shifts stretches h.1)

-- what follows from what holds in each tile does so in each
pub in_tiles_weaker : (P Q : List Move → Type 0) → ((moves : List Move) → P moves → Q moves) → (shifts : List Point) (moves : List Move) → InTiles shifts P moves → InTiles shifts Q moves
in_tiles_weaker P Q so shifts moves (stretches, joined, each) = (stretches, joined, each_weaker P Q so shifts stretches each)

-- ---- one tile

-- cuts behind others
cuts_joined : (safe : ℤ) (run : ToolRun) (cuts more : List (List Corner)) (from : Pos)
    → cuts_moves safe run from (cuts ++ more) ≡ cuts_moves safe run from cuts ++ cuts_moves safe run (after_cuts safe from cuts) more
cuts_joined safe run [] more from = refl
cuts_joined safe run (cut ∷ cuts) more from =
    let end = after_cut safe from cut in
    ap (λ (ms : List Move). cut_moves safe run from cut ++ ms) (cuts_joined safe run cuts more end)
    ∙ sym (append_assoc (cut_moves safe run from cut) (cuts_moves safe run end cuts) (cuts_moves safe run (after_cuts safe end cuts) more))

module _ (safe : ℤ) (run : ToolRun) (cuts : List (List Corner)) (can : All (IsRunnableCut safe) cuts) (plain : List Move) where
  abbrev height : ℤ
  height = safe *ℤ nanometre

  abbrev strokes : List (List Move)
  strokes = strokes_of safe run cuts

  -- a stretch with the copies of the strokes, moved back, has the strokes
  moved_back : AreStrokes height strokes (map unnumbered plain) → (by : Point) (stretch : List Move) → AreStrokes height (strokes_in by strokes) (map unnumbered stretch)
      → CutAlike height plain (map (move_in (back by)) stretch)
  moved_back of_plain by stretch are =
      let mapped = strokes_mapped height (move_in (back by)) (λ m l. l) (λ m l. l) (strokes_in by strokes) (map unnumbered stretch) are in
      let same : map (move_in (back by)) (map unnumbered stretch) ≡ map unnumbered (map (move_in (back by)) stretch) = map-map (move_in (back by)) unnumbered stretch ∙ sym (map-map unnumbered (move_in (back by)) stretch) in
      record {
        strokes = strokes;
        of_plain = of_plain;
        of_moves = subst (AreStrokes height strokes) same (subst (λ (ss : List (List Move)). AreStrokes height ss (map (move_in (back by)) (map unnumbered stretch))) (strokes_back by strokes) mapped);
      }

  -- the strokes of the cuts in one tile, with moves before and behind that aren't low
  tile_strokes : (by : Point) (from : Pos) (before after : List Move) → height ≤ℤ from.z → AreHigh height before → AreHigh height after → BeginsHigh height after
      → AreStrokes height (strokes_in by strokes) (before ++ (cuts_moves safe run from (cuts_in cuts by) ++ after))
  tile_strokes by from before after above high later begins =
      let copies = cuts_in cuts by in
      let runs = recursion_from_All (IsRunnableCut safe) copies (All-map (IsRunnableCut safe) (cut_in by) cuts (All-weaker (IsRunnableCut safe) (λ cut. IsRunnableCut safe (cut_in by cut)) (runnable_cut_in safe by) cuts can)) in
      subst (λ (ss : List (List Move)). AreStrokes height ss (before ++ (cuts_moves safe run from copies ++ after))) (append-nil (strokes_of safe run copies) ∙ strokes_copy safe run by cuts)
      (strokes_behind height before (strokes_of safe run copies ++ []) (cuts_moves safe run from copies ++ after) high
      (strokes_joined height (strokes_of safe run copies) [] (cuts_moves safe run from copies) after (cuts_strokes safe run copies from above runs) later begins))

  -- ---- all tiles

  all_tiles : AreStrokes height strokes (map unnumbered plain) → (shifts : List Point) (from : Pos) (moves before after : List Move) → 0 < length shifts → height ≤ℤ from.z → AreHigh height before → AreHigh height after → BeginsHigh height after
      → map unnumbered moves ≡ before ++ (cuts_moves safe run from (flat_map (cuts_in cuts) shifts) ++ after) → InTiles shifts (CutAlike height plain) moves
  all_tiles of_plain [] from moves before after some above high later begins e = absurd (omega (arith, some))
  all_tiles of_plain (by ∷ []) from moves before after some above high later begins e =
      let one : map unnumbered moves ≡ before ++ (cuts_moves safe run from (cuts_in cuts by) ++ after) =
      e ∙ ap (λ (cs : List (List Corner)). before ++ (cuts_moves safe run from cs ++ after)) (append-nil (cuts_in cuts by)) in (
        moves ∷ [],
        sym (append-nil moves),
        (moved_back of_plain by moves (subst (AreStrokes height (strokes_in by strokes)) (sym one) (tile_strokes by from before after above high later begins)), tt),
      )
  all_tiles of_plain (by ∷ next ∷ shifts) from moves before after some above high later begins e =
      let here : List Move = cuts_moves safe run from (cuts_in cuts by) in
      let end = after_cuts safe from (cuts_in cuts by) in
      let others : List (List Corner) = flat_map (cuts_in cuts) (next ∷ shifts) in
      let behind : List Move = cuts_moves safe run end others ++ after in
      let two : map unnumbered moves ≡ (before ++ here) ++ behind =
      e ∙ ap (λ (ms : List Move). before ++ (ms ++ after)) (cuts_joined safe run (cuts_in cuts by) others from)
      ∙ ap (λ (ms : List Move). before ++ ms) (append_assoc here (cuts_moves safe run end others) after) ∙ sym (append_assoc before here behind) in
      let n = length (before ++ here) in
      let split = parts unnumbered moves (before ++ here) behind two in
      let rest = all_tiles of_plain (next ∷ shifts) end (drop n moves) [] after (omega arith) (cuts_end safe (cuts_in cuts by) from above) (All-nil (λ (m : Move). IsLow height m → ⊥)) later begins split.1 in
      let first : AreStrokes height (strokes_in by strokes) (map unnumbered (take n moves)) =
      subst (AreStrokes height (strokes_in by strokes)) (ap (λ (ms : List Move). before ++ ms) (append-nil here) ∙ sym split.0)
      (tile_strokes by from before [] above high (All-nil (λ (m : Move). IsLow height m → ⊥)) tt) in (
        take n moves ∷ rest.0,
        sym (take-append-drop n moves) ∙ ap (λ (ms : List Move). take n moves ++ ms) rest.1,
        (moved_back of_plain by (take n moves) first, rest.2),
      )

-- ---- a program of one tool run

one_run : (shifts : List Point) (p : Program) (run : ToolRun) (plain moves : List Move) → p.runs ≡ run ∷ [] → 0 < length shifts → IsRunnable p → map unnumbered plain ≡ moves_of p
    → map unnumbered moves ≡ moves_of (tiled shifts p) → InTiles shifts (CutAlike (p.safe *ℤ nanometre) plain) moves
unfolding moves_of tiled
one_run shifts p run plain moves is some w of_plain of_moves =
    let height = p.safe *ℤ nanometre in
    let copy = run_in shifts run in
    let start = at_height p.safe zero_pos in
    let cuts = flat_map (cuts_in run.cuts) shifts in
    let end = after_cuts p.safe start cuts in
    let up = rapid (turning_in copy) end (at_height p.change end) in
    let can : All (IsRunnableCut p.safe) run.cuts =
    All-head (λ (r : ToolRun). All (IsRunnableCut p.safe) r.cuts) run [] (subst (All (λ (r : ToolRun). All (IsRunnableCut p.safe) r.cuts)) is w.cuts) in
    let same_strokes : all_strokes p.safe p.runs ≡ strokes_of p.safe copy run.cuts =
    ap (all_strokes p.safe) is ∙ append-nil (strokes_of p.safe run run.cuts) ∙ sym (strokes_same p.safe run shifts run.cuts) in
    let plain_strokes : AreStrokes height (strokes_of p.safe copy run.cuts) (map unnumbered plain) =
    subst (λ (ss : List (List Move)). AreStrokes height ss (map unnumbered plain)) same_strokes (subst (AreStrokes height (all_strokes p.safe p.runs)) (sym of_plain) (program_strokes p w)) in
    let level : height ≤ℤ height = omega (arith, ints) in
    let high_end : IsLow height up → ⊥ = end_high p.safe p.change (turning_in copy) end w.high (λ t. cuts_end p.safe cuts start level) in
    all_tiles p.safe copy run.cuts can plain plain_strokes shifts start moves (change_moves p.safe p.change standing zero_pos copy) (up ∷ []) some level
    (change_high p.safe p.change standing zero_pos copy w.high (at_start height)) (All-cons (λ (m : Move). IsLow height m → ⊥) up [] high_end (All-nil (λ (m : Move). IsLow height m → ⊥))) high_end
    (of_moves ∙ ap (λ runs. runs_moves p.safe p.change standing zero_pos (map (run_in shifts) runs)) is)

pub stretches : StretchLaw
stretches shifts p plain moves some one w of_plain of_moves = by_runs p.runs refl one
  where
    by_runs : (runs : List ToolRun) → p.runs ≡ runs → length runs ≡ 1 → InTiles shifts (CutAlike (p.safe *ℤ nanometre) plain) moves
    by_runs [] is n = absurd (omega (arith, n))
    by_runs (run ∷ []) is n = one_run shifts p run plain moves is some w of_plain of_moves
    by_runs (run ∷ r ∷ rs) is n = absurd (omega (arith, n))
