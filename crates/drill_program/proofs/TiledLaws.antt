-- What the run of a drill list's program in tiles drills.
use Rattle.std.proofs.Common.{◌≡◌, refl, ℕ, ◌+◌, ℤ, pos, ◌+ℤ◌, ◌*ℤ◌, List, [], ◌∷◌, ◌++◌, map, append-nil, subst, ◌∙◌, arith}
use Rattle.std.specs.List.{flat_map, enumerate_from}
use Rattle.std.proofs.lemmas.Int.{ints}
use Rattle.board_base.specs.declared.places.Point.{Point}
use Rattle.board_base.specs.declared.places.Pos.{Pos}
use Rattle.rs274_sim.specs.Cutter.{nanometre}
use Rattle.rs274_sim.specs.Runs.{RunsTo}
use Rattle.job_file.specs.declared.job.Job.{Job}
use Rattle.drill_plan.specs.declared.plans.ToolPlan.{ToolPlan}
use Rattle.drill_plan.specs.Laws.{EntriesLaw}
use Rattle.mill_program.specs.RunLaw.{RunLaw}
use Rattle.mill_program.specs.Strokes.{StrokeLaw, Wanted, CutsExactly, wanted}
use Rattle.tiling.specs.Tiles.{tiled}
use Rattle.tiling.specs.Copies.{pos_in}
use Rattle.tiling.specs.Laws.{wanted_in, wanted_in_tiles, WantedLaw}
use Rattle.tiling.proofs.ProgramLaws.{runnable_in}
use Rattle.board_base.specs.Places.{origin}
use Rattle.drill_program.specs.Program.{tool_run, program_of}
use Rattle.drill_program.specs.Holes.{tool_wants}
use Rattle.drill_program.specs.Tiled.{wants_in, TiledHolesLaw, OneTileWantsLaw}
use Rattle.drill_program.proofs.ProgramLaws.{program_runs}
use Rattle.drill_program.proofs.HoleLaws.{tool_wanted}

-- what tools numbered from n on have to cut in tiles
wanted_from : (job : Job) (shifts : List Point) (n : ℕ) (plan : List ToolPlan)
    → wanted_in_tiles shifts (map (λ t. tool_run job t.0 t.1) (enumerate_from n plan)) ≡ flat_map (λ t. flat_map (λ by. map (wanted_in by) (tool_wants job t.0 t.1)) shifts) (enumerate_from n plan)
wanted_from job shifts n [] = refl
wanted_from job shifts n (t ∷ plan) = λ i. flat_map (λ by. map (wanted_in by) (tool_wanted job n t i)) shifts ++ wanted_from job shifts (n + 1) plan i

-- what the program in tiles has to cut
program_wanted : WantedLaw → (job : Job) (shifts : List Point) (plan : List ToolPlan) → wanted (tiled shifts (program_of job plan)).runs ≡ wants_in job shifts plan
unfolding program_of
program_wanted law job shifts plan = law shifts (program_of job plan) ∙ wanted_from job shifts 1 plan

-- it moves at the job's safe height
safe_is : (job : Job) (shifts : List Point) (plan : List ToolPlan) → (tiled shifts (program_of job plan)).safe ≡ job.zsafe
unfolding tiled program_of
safe_is job shifts plan = refl

-- by the laws of runs, of strokes, of drill lists and of what is to be cut in tiles
pub tiled_holes : RunLaw → StrokeLaw → EntriesLaw → WantedLaw → TiledHolesLaw
unfolding RunsTo
tiled_holes run_law stroke_law entries_law wanted_law job file plan shifts ok high limits d valid answers =
    let program = tiled shifts (program_of job plan) in
    let can_run = runnable_in shifts (program_of job plan) (program_runs job ok plan high) in
    let run = run_law answers program valid can_run in
    let strokes : CutsExactly program.safe (wanted program.runs) run.0 = stroke_law program run.0 valid can_run run.2 in (
      run.0,
      run.1,
      record {
        strokes =
            subst (λ z. CutsExactly z (wants_in job shifts plan) run.0) (safe_is job shifts plan)
            (subst (λ (wants : List Wanted). CutsExactly program.safe wants run.0) (program_wanted wanted_law job shifts plan) strokes);
        listed = entries_law file job.drills_available plan d;
      },
    )

-- ---- one tile

unmoved : (a : ℤ) → a +ℤ pos 0 *ℤ nanometre ≡ a
unmoved a = omega (arith, ints)

same_places : (places : List Pos) → map (pos_in origin) places ≡ places
same_places [] = refl
same_places (p ∷ places) = λ i. record { x = unmoved p.x i; y = unmoved p.y i; z = p.z } ∷ same_places places i

same_wants : (wants : List Wanted) → map (wanted_in origin) wants ≡ wants
same_wants [] = refl
same_wants (want ∷ wants) = λ i. record { tool = want.tool; places = same_places want.places i } ∷ same_wants wants i

one_tile_from : (job : Job) (n : ℕ) (plan : List ToolPlan)
    → flat_map (λ t. flat_map (λ by. map (wanted_in by) (tool_wants job t.0 t.1)) (origin ∷ [])) (enumerate_from n plan) ≡ flat_map (λ t. tool_wants job t.0 t.1) (enumerate_from n plan)
one_tile_from job n [] = refl
one_tile_from job n (t ∷ plan) =
    let wants = tool_wants job n t in
    let first : map (wanted_in origin) wants ++ [] ≡ wants = append-nil (map (wanted_in origin) wants) ∙ same_wants wants in
    λ i. first i ++ one_tile_from job (n + 1) plan i

pub one_tile_wants : OneTileWantsLaw
one_tile_wants job plan = one_tile_from job 1 plan
