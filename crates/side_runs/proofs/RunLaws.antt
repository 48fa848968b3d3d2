-- The run of a side's program in tiles.
use Rattle.std.proofs.Common.{◌≡◌, ℤ, ◌*ℤ◌, List, [], ◌∷◌, ◌++◌, map, refl, ap, subst, ◌∙◌}
use Rattle.std.specs.List.{flat_map}
use Rattle.std.proofs.lemmas.List.{append-nil}
use Rattle.board_base.specs.declared.places.Cell.{Cell}
use Rattle.rs274_sim.specs.Cutter.{nanometre}
use Rattle.rs274_sim.specs.Runs.{RunsTo}
use Rattle.mill_program.specs.declared.cuts.Program.{Program}
use Rattle.mill_program.specs.Strokes.{Wanted, CutsExactly, wanted_cut, wanted}
use Rattle.mill_program.proofs.RunLaws.{run_moves}
use Rattle.mill_program.proofs.StrokeLaws.{stroke_law}
use Rattle.tiling.specs.Tiles.{tiled}
use Rattle.tiling.specs.Copies.{Tile, shift_in, tiled_in}
use Rattle.tiling.specs.Laws.{wanted_in, WantedLaw}
use Rattle.tiling.specs.Stretches.{AreLowCopies, CopiesLaw}
use Rattle.job_file.specs.declared.job.Job.{Job}
use Rattle.mill_plan.specs.Cutting.{side_cutting}
use Rattle.mill_plan.specs.Cuts.{all_of, trace_of, run_along, program_along}
use Rattle.mill_plan.proofs.JobLaws.{milling_is}
use Rattle.side_runs.specs.Sides.{TiledSideLaw}
use Rattle.side_runs.specs.SideStrokes.{wanted_walk, wants_along, TiledStrokesLaw}
use Rattle.side_runs.proofs.FrameLaws.{kept_inside}
use Rattle.side_runs.proofs.SideLaws.{side_moves, cutter, milled, own_side}
use Rattle.side_runs.proofs.TileLaws.{mills_tiles}

pub tiled_side_holds : CopiesLaw → TiledSideLaw
unfolding RunsTo
tiled_side_holds law job painted plan tiles ok i apart program runnable answers =
    let found = run_moves answers (tiled_in job.pitch tiles plan.program) program runnable in
    let plain = run_moves answers plan.program i.program i.runnable in
    let walks : List (List Cell) = all_of i.traced.passes ++ i.traced.runs in
    let side = side_moves job painted plan plain.0 i plain.2 in
    let copies = law (map (shift_in job.pitch) tiles) plan.program plain.0 found.0 i.runnable plain.2 found.2 in (
      found.0,
      found.1,
      mills_tiles job painted plan tiles answers plain.0 found.0 i (milling_is job ok) (cutter job painted plan ok i) (own_side job painted plan ok i answers plain.0 walks side) (milled job painted plan ok i answers plain.0 walks side)
          (subst (λ (safe : ℤ). AreLowCopies (safe *ℤ nanometre) (map (shift_in job.pitch) tiles) plain.0 found.0) i.words.safe copies) apart
          (kept_inside (side_cutting job) painted plan.frame (milling_is job ok).cutting i.framed),
    )

-- ---- strokes

pub cuts_wanted : (job : Job) (all walks : List (List Cell)) → map (wanted_cut (run_along job all)) (map (trace_of job) walks) ≡ map (wanted_walk job) walks
unfolding run_along
cuts_wanted job all [] = refl
cuts_wanted job all (walk ∷ walks) = ap (λ (rest : List Wanted). wanted_walk job walk ∷ rest) (cuts_wanted job all walks)

tiles_wanted : (job : Job) (all walks : List (List Cell)) (tiles : List Tile)
    → flat_map (λ by. map (wanted_in by) (map (wanted_cut (run_along job all)) (map (trace_of job) walks))) (map (shift_in job.pitch) tiles) ≡ wants_along job tiles walks
tiles_wanted job all walks [] = refl
tiles_wanted job all walks (tile ∷ tiles) = λ i. map (wanted_in (shift_in job.pitch tile)) (cuts_wanted job all walks i) ++ tiles_wanted job all walks tiles i

program_wanted : WantedLaw → (job : Job) (tiles : List Tile) (walks : List (List Cell)) → wanted (tiled_in job.pitch tiles (program_along job walks)).runs ≡ wants_along job tiles walks
unfolding program_along run_along
program_wanted law job tiles walks =
    law (map (shift_in job.pitch) tiles) (program_along job walks)
    ∙ append-nil (flat_map (λ by. map (wanted_in by) (map (wanted_cut (run_along job walks)) (map (trace_of job) walks))) (map (shift_in job.pitch) tiles))
    ∙ tiles_wanted job walks walks tiles

safe_tiled : (job : Job) (tiles : List Tile) (p : Program) → (tiled_in job.pitch tiles p).safe ≡ p.safe
unfolding tiled
safe_tiled job tiles p = refl

pub tiled_strokes_holds : WantedLaw → TiledStrokesLaw
unfolding RunsTo
tiled_strokes_holds law job painted plan tiles i program runnable answers =
    let p : Program = tiled_in job.pitch tiles plan.program in
    let found = run_moves answers p program runnable in
    let walks : List (List Cell) = all_of i.traced.passes ++ i.traced.runs in
    let wants : wanted p.runs ≡ wants_along job tiles walks = ap (λ (q : Program). wanted (tiled_in job.pitch tiles q).runs) i.traced.is ∙ program_wanted law job tiles walks in
    let heights : p.safe ≡ job.zsafe = safe_tiled job tiles plan.program ∙ i.words.safe in
    (found.0, found.1, subst (λ (safe : ℤ). CutsExactly safe (wants_along job tiles walks) found.0) heights (subst (λ (ws : List Wanted). CutsExactly p.safe ws found.0) wants (stroke_law p found.0 program runnable found.2)))
