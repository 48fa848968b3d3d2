-- What the run of a drill list's program drills.
use Rattle.std.specs.Prelude.{ℕ, ◌*ℤ◌, ◌≤ℤ◌, List, [], ◌∷◌, ◌++◌, map}
use Rattle.std.specs.List.{flat_map, enumerate_from}
use Rattle.board_base.specs.declared.places.Point.{Point}
use Rattle.board_base.specs.declared.places.Pos.{Pos}
use Rattle.board_base.specs.declared.places.Move.{Move}
use Rattle.excellon.specs.declared.file.DrillFile.{DrillFile}
use Rattle.rs274_sim.specs.Cutter.{nanometre}
use Rattle.rs274_sim.specs.Runs.{RunsTo}
use Rattle.job_file.specs.declared.job.Job.{Job}
use Rattle.job_file.specs.Ranges.{IsInRanges}
use Rattle.drill_plan.specs.declared.plans.ToolPlan.{ToolPlan}
use Rattle.drill_plan.specs.Plan.{IsDrillPlan}
use Rattle.drill_plan.specs.Listed.{ListsFile}
use Rattle.drill_plan.specs.Limits.{IsWithinLimits}
use Rattle.mill_program.specs.Lines.{lines_of}
use Rattle.mill_program.specs.Strokes.{Wanted, CutsExactly}
use Rattle.drill_program.specs.Program.{program_of}

-- a place at the depth of the drill, in the units of a machine's position
abbrev pub down_at : Job → Point → Pos
down_at job p = record { x = p.x *ℤ nanometre; y = p.y *ℤ nanometre; z = job.zdrill *ℤ nanometre }

-- what a tool with this number has to cut: down at each hole, and from end to end of each slot
abbrev pub tool_wants : Job → ℕ → ToolPlan → List Wanted
tool_wants job number t =
    map (λ p. record { tool = number; places = down_at job p ∷ [] }) t.holes
    ++ map (λ s. record { tool = number; places = down_at job s.0 ∷ down_at job s.1 ∷ [] }) t.slots

-- what all tools have to cut, numbered from 1
abbrev pub wants_of : Job → List ToolPlan → List Wanted
wants_of job plan = flat_map (λ t. tool_wants job t.0 t.1) (enumerate_from 1 plan)

-- The moves cut what the tools of the plan have to cut, stroke by stroke, and nothing else; and the plan has each hole
-- and each slot that the file gives a tool, once, and nothing else.
pub record HolesAreDrilled (job : Job) (file : DrillFile) (plan : List ToolPlan) (moves : List Move) : Type 0 where
  pub strokes : CutsExactly job.zsafe (wants_of job plan) moves
  pub listed : ListsFile file job.drills_available plan

-- the run of the program of a file's drill list drills the file
abbrev pub HolesLaw : Type 0
HolesLaw =
    (job : Job) (file : DrillFile) (plan : List ToolPlan) → IsInRanges job → job.zsafe ≤ℤ job.zchange → IsWithinLimits plan → IsDrillPlan file job.drills_available plan
    → RunsTo (lines_of (program_of job plan)) (HolesAreDrilled job file plan)
