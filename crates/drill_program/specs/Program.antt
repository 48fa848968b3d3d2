-- The program of a drill list.
use Rattle.std.specs.Prelude.{ℕ, List, [], ◌∷◌, ◌++◌, map, None}
use Rattle.std.specs.List.{enumerate_from}
use Rattle.board_base.specs.declared.places.Point.{Point}
use Rattle.job_file.specs.declared.job.Job.{Job}
use Rattle.drill_plan.specs.declared.plans.ToolPlan.{ToolPlan}
use Rattle.mill_program.specs.declared.cuts.Corner.{Corner}
use Rattle.mill_program.specs.declared.cuts.ToolRun.{ToolRun}
use Rattle.mill_program.specs.declared.cuts.Program.{Program}

-- a place at the depth of the drill
abbrev pub at_depth : Job → Point → Corner
at_depth job p = record { x = p.x; y = p.y; z = job.zdrill }

-- the cut of a hole
abbrev pub hole_cut : Job → Point → List Corner
hole_cut job p = at_depth job p ∷ []

-- the cut of a slot
abbrev pub slot_cut : Job → Point × Point → List Corner
slot_cut job ends = at_depth job ends.0 ∷ at_depth job ends.1 ∷ []

-- the run of a tool with this number: its holes, and then its slots
unfoldable pub tool_run : Job → ℕ → ToolPlan → ToolRun
tool_run job number t = record {
  tool = number;
  speed = job.drill_speed;
  feed = job.drill_feed;
  plunge = job.drill_feed;
  cuts = map (hole_cut job) t.holes ++ map (slot_cut job) t.slots;
}

-- the runs of all tools, numbered from 1, over the job's heights
unfoldable pub program_of : Job → List ToolPlan → Program
program_of job plan = record { safe = job.zsafe; change = job.zchange; runs = map (λ t. tool_run job t.0 t.1) (enumerate_from 1 plan); grid = None }
