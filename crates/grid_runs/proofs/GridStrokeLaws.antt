-- The run of a program over a grid cuts what its tool runs say, over the surface.
use Rattle.std.proofs.Common.{◌≡◌, ◌≤◌, ℤ, ◌+ℤ◌, ◌*ℤ◌, ◌<ℤ◌, ◌≤ℤ◌, ℕ, ◌<◌, true, List, [], ◌∷◌, ◌++◌, length, arith}
use Rattle.std.specs.List.{All, AllByRecursion}
use Rattle.std.specs.Int.Signed.{≤ℤ_refl}
use Rattle.std.proofs.lemmas.Bool.{false≢true}
use Rattle.std.proofs.lemmas.List.Elements.{recursion_from_All}
use Rattle.board_base.specs.declared.places.Pos.{Pos}
use Rattle.rs274_sim.specs.Cutter.{nanometre}
use Rattle.mill_program.specs.declared.cuts.Corner.{Corner}
use Rattle.mill_program.specs.declared.cuts.ToolRun.{ToolRun}
use Rattle.mill_program.specs.declared.probes.ProbeGrid.{ProbeGrid}
use Rattle.mill_program.specs.Conditions.{IsCut, IsToolRun}
use Rattle.mill_program.specs.Moves.{Spindle, standing, turning_in, rapid, at_height, zero_pos}
use Rattle.mill_program.specs.Probes.{IsGrid, FitGrid, probe_place}
use Rattle.mill_program.specs.Strokes.{CutsExactly}
use Rattle.mill_program.proofs.StrokeLaws.{not_low, scaled_up}
use Rattle.grid_runs.specs.Conditions.{IsRunnableCutOver}
use Rattle.grid_runs.specs.Moves.{place_on, above, standing_in, probes_moves, after_probes, probes_in, cuts_at, after_cuts_at, runs_over, moves_over}
use Rattle.grid_runs.specs.RunLaw.{wanted_over, GridStrokeLaw}
use Rattle.grid_runs.proofs.SurfaceLaws.{below_on}
use Rattle.grid_runs.proofs.OverStrokes.{NotLow, CutsBehind, cuts_none, high_more, AreDeep, cuts_more, cuts_end_high}
use Rattle.grid_runs.proofs.Numbered.{cuts_numbered}

-- ---- probes

-- no move with the spindle standing is low
still : (safe : ℤ) (spindle : Spindle) (p q : Pos) → (spindle.turning ≡ true → ⊥) → NotLow safe (rapid spindle p q)
still safe spindle p q stands = λ low. stands low.0

-- so no move of a probe is
probes_high : (g : ProbeGrid) (answers : List ℤ) (safe : ℤ) (run : ToolRun) (from : Pos) (ks : List ℕ) → AllByRecursion (NotLow safe) (probes_moves g answers safe run from ks)
probes_high g answers safe run from [] = tt
probes_high g answers safe run from (k ∷ ks) =
    (λ low. absurd (false≢true low.0), (λ low. absurd (false≢true low.0), (λ low. absurd (false≢true low.0), probes_high g answers safe run (above safe (probe_place g k)) ks)))

-- probes end no lower than the safe height
pub probes_end_high : (g : ProbeGrid) (safe : ℤ) (from : Pos) (ks : List ℕ) → (safe *ℤ nanometre) ≤ℤ from.z → (safe *ℤ nanometre) ≤ℤ (after_probes g safe from ks).z
probes_end_high g safe from [] h = h
probes_end_high g safe from (k ∷ ks) h = probes_end_high g safe (above safe (probe_place g k)) ks (≤ℤ_refl (safe *ℤ nanometre))

-- ---- corners

-- a cut's corners over the surface are below the safe height
deep_cut : (g : ProbeGrid) (answers : List ℤ) (safe : ℤ) (run : ToolRun) (cut : List Corner) → IsGrid g → FitGrid g answers → AllByRecursion (λ (c : Corner). (c.z +ℤ g.range) <ℤ safe) cut → AreDeep safe (place_on g answers) run cut
deep_cut g answers safe run [] grid fit h = tt
deep_cut g answers safe run (c ∷ cs) grid fit h = (below_on g answers safe c grid fit h.0, deep_cut g answers safe run cs grid fit h.1)

deep_cuts : (g : ProbeGrid) (answers : List ℤ) (safe : ℤ) (run : ToolRun) (cuts : List (List Corner)) → IsGrid g → FitGrid g answers → AllByRecursion (IsRunnableCutOver g safe) cuts
    → AllByRecursion (AreDeep safe (place_on g answers) run) cuts
deep_cuts g answers safe run [] grid fit h = tt
deep_cuts g answers safe run (cut ∷ cuts) grid fit h =
    (deep_cut g answers safe run cut grid fit (recursion_from_All (λ (c : Corner). (c.z +ℤ g.range) <ℤ safe) cut h.0.below), deep_cuts g answers safe run cuts grid fit h.1)

some_corners : (cuts : List (List Corner)) → AllByRecursion IsCut cuts → AllByRecursion (λ (cut : List Corner). 0 < length cut) cuts
some_corners [] h = tt
some_corners (cut ∷ cuts) h = (h.0.some, some_corners cuts h.1)

-- ---- programs

-- a program without tool runs
no_run : (g : ProbeGrid) (answers : List ℤ) (safe change : ℤ) → CutsExactly safe [] (runs_over g answers safe change standing zero_pos [])
no_run g answers safe change = (high_more safe (rapid standing zero_pos (at_height change zero_pos)) [] [] [] (still safe standing zero_pos (at_height change zero_pos) (λ t. absurd (false≢true t)), tt) (cuts_none safe)).cuts

-- a program of one tool run
one_run : (g : ProbeGrid) (answers : List ℤ) (safe change : ℤ) (run : ToolRun) → IsGrid g → FitGrid g answers → safe ≤ℤ change → AllByRecursion IsCut run.cuts → AllByRecursion (IsRunnableCutOver g safe) run.cuts
    → CutsExactly safe (wanted_over g answers (run ∷ [])) (runs_over g answers safe change standing zero_pos (run ∷ []))
one_run g answers safe change run grid fit high cut w =
    let place = place_on g answers in
    let start = at_height safe zero_pos in
    let end = after_probes g safe start (probes_in g) in
    let last = after_cuts_at place safe (at_height safe end) run.cuts in
    let up = rapid standing zero_pos (at_height change zero_pos) in
    let down = rapid (standing_in run) (at_height change zero_pos) start in
    let turned = rapid (turning_in run) end (at_height safe end) in
    let lifted = rapid (turning_in run) last (at_height change last) in
    let lifted_high : NotLow safe lifted = not_low (safe *ℤ nanometre) lifted (cuts_end_high safe place run run.cuts (at_height safe end) (≤ℤ_refl (safe *ℤ nanometre))) (scaled_up safe change high) in
    let turned_high : NotLow safe turned = not_low (safe *ℤ nanometre) turned (probes_end_high g safe start (probes_in g) (≤ℤ_refl (safe *ℤ nanometre))) (≤ℤ_refl (safe *ℤ nanometre)) in
    let later : CutsBehind safe [] (lifted ∷ []) = high_more safe lifted [] [] [] (lifted_high, tt) (cuts_none safe) in
    let cuts =
    cuts_more safe place run run.cuts (at_height safe end) [] (lifted ∷ []) (≤ℤ_refl (safe *ℤ nanometre)) (some_corners run.cuts cut) (deep_cuts g answers safe run run.cuts grid fit w) later in
    let behind = high_more safe turned [] (wanted_over g answers (run ∷ [])) (cuts_at place safe run (at_height safe end) run.cuts ++ (lifted ∷ [])) (turned_high, tt) cuts.cuts in
    (high_more safe up (down ∷ probes_moves g answers safe run start (probes_in g)) (wanted_over g answers (run ∷ [])) (turned ∷ cuts_at place safe run (at_height safe end) run.cuts ++ (lifted ∷ []))
    (λ low. absurd (false≢true low.0), (λ low. absurd (false≢true low.0), probes_high g answers safe run start (probes_in g))) behind.cuts).cuts

-- a program of one tool run at most
all_runs : (g : ProbeGrid) (answers : List ℤ) (safe change : ℤ) (runs : List ToolRun) → length runs ≤ 1 → IsGrid g → FitGrid g answers → safe ≤ℤ change → AllByRecursion IsToolRun runs
    → AllByRecursion (λ (run : ToolRun). All (IsRunnableCutOver g safe) run.cuts) runs → CutsExactly safe (wanted_over g answers runs) (runs_over g answers safe change standing zero_pos runs)
all_runs g answers safe change [] few grid fit high h w = no_run g answers safe change
all_runs g answers safe change (run ∷ []) few grid fit high h w =
    one_run g answers safe change run grid fit high (recursion_from_All IsCut run.cuts h.0.cuts) (recursion_from_All (IsRunnableCutOver g safe) run.cuts w.0)
all_runs g answers safe change (run ∷ other ∷ runs) few grid fit high h w = absurd (omega (arith, few))

-- the run of a program over a grid cuts what its tool runs say, and nothing else
pub grid_strokes : GridStrokeLaw
unfolding moves_over
grid_strokes g answers p moves h w fit e =
    cuts_numbered p.safe (wanted_over g answers p.runs) moves (moves_over g answers p) e
    (all_runs g answers p.safe p.change p.runs h.one h.is_grid fit w.high (recursion_from_All IsToolRun p.runs h.runs)
    (recursion_from_All (λ (run : ToolRun). All (IsRunnableCutOver g p.safe) run.cuts) p.runs w.cuts))
