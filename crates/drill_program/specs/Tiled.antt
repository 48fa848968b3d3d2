-- What the run of a drill list's program in tiles drills.
use Rattle.std.specs.Prelude.{◌≡◌, ◌≤ℤ◌, List, [], ◌∷◌, map}
use Rattle.std.specs.List.{flat_map, enumerate_from}
use Rattle.board_base.specs.declared.places.Point.{Point}
use Rattle.board_base.specs.declared.places.Move.{Move}
use Rattle.excellon.specs.declared.file.DrillFile.{DrillFile}
use Rattle.rs274_sim.specs.Runs.{RunsTo}
use Rattle.job_file.specs.declared.job.Job.{Job}
use Rattle.job_file.specs.Ranges.{IsInRanges}
use Rattle.drill_plan.specs.declared.plans.ToolPlan.{ToolPlan}
use Rattle.drill_plan.specs.Plan.{IsDrillPlan}
use Rattle.drill_plan.specs.Listed.{ListsFile}
use Rattle.drill_plan.specs.Limits.{IsWithinLimits}
use Rattle.mill_program.specs.Conditions.{IsProgram}
use Rattle.mill_program.specs.Lines.{lines_of}
use Rattle.mill_program.specs.Strokes.{Wanted, CutsExactly}
use Rattle.tiling.specs.Tiles.{tiled}
use Rattle.tiling.specs.Laws.{wanted_in}
use Rattle.board_base.specs.Places.{origin}
use Rattle.drill_program.specs.Program.{program_of}
use Rattle.drill_program.specs.Holes.{tool_wants, wants_of}

-- what the tools have to cut in tiles: each tool its holes and its slots, tile after tile
abbrev pub wants_in : Job → List Point → List ToolPlan → List Wanted
wants_in job shifts plan = flat_map (λ t. flat_map (λ by. map (wanted_in by) (tool_wants job t.0 t.1)) shifts) (enumerate_from 1 plan)

-- The moves cut what the tools of the plan have to cut in each tile, stroke by stroke, and nothing else; and the plan has
-- each hole and each slot that the file gives a tool, once, and nothing else.
pub record AreDrilledIn (job : Job) (file : DrillFile) (plan : List ToolPlan) (shifts : List Point) (moves : List Move) : Type 0 where
  pub strokes : CutsExactly job.zsafe (wants_in job shifts plan) moves
  pub listed : ListsFile file job.drills_available plan

-- the run of the program of a file's drill list in tiles drills the file in each tile
abbrev pub TiledHolesLaw : Type 0
TiledHolesLaw =
    (job : Job) (file : DrillFile) (plan : List ToolPlan) (shifts : List Point) → IsInRanges job → job.zsafe ≤ℤ job.zchange → IsWithinLimits plan → IsDrillPlan file job.drills_available plan
    → IsProgram (tiled shifts (program_of job plan)) → RunsTo (lines_of (tiled shifts (program_of job plan))) (AreDrilledIn job file plan shifts)

-- in one tile the tools have to cut what they have to cut on the board alone
abbrev pub OneTileWantsLaw : Type 0
OneTileWantsLaw = (job : Job) (plan : List ToolPlan) → wants_in job (origin ∷ []) plan ≡ wants_of job plan
