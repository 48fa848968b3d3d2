-- How much a drill list may have, and where.
use Rattle.std.specs.Prelude.{◌≡◌, ℕ, ◌+◌, ◌≤◌, ℤ, List, length, Ok}
use Rattle.std.specs.List.{All, sum_by}
use Rattle.board_base.specs.Places.{IsPlace}
use Rattle.excellon.specs.Drill.{drill_of}
use Rattle.excellon.specs.declared.file.DrillFile.{DrillFile}
use Rattle.drill_plan.specs.Sets.{Has}
use Rattle.drill_plan.specs.declared.plans.ToolPlan.{ToolPlan}
use Rattle.drill_plan.specs.declared.plans.DrillCounts.{DrillCounts}

-- the holes and the slots have at most 9,999 diameters, as many as there are numbers for tools
pub record HasFewDiameters (file : DrillFile) : Type 0 where
  pub diameters : List ℤ
  pub few : length diameters ≤ 9999
  pub holes : All (λ h. Has diameters h.diameter) file.holes
  pub slots : All (λ s. Has diameters s.diameter) file.slots

-- each file that bytes stand for has no more
abbrev pub FewDiametersLaw : Type 0
FewDiametersLaw = (bytes : List ℕ) (file : DrillFile) → drill_of bytes ≡ Ok file → HasFewDiameters file

-- how many tools, holes and slots there are
abbrev pub counts_of : List ToolPlan → DrillCounts
counts_of plan = record { tools = length plan; holes = sum_by (λ t. length t.holes) plan; slots = sum_by (λ t. length t.slots) plan }

-- the holes and the slots' ends are places of the board
pub record IsOnBoard (t : ToolPlan) : Type 0 where
  pub holes : All IsPlace t.holes
  pub slots : All (λ s. IsPlace s.0 × IsPlace s.1) t.slots

-- at most 9,999 tools and 10,000 holes and slots, on the board
pub record IsWithinLimits (plan : List ToolPlan) : Type 0 where
  pub tools : length plan ≤ 9999
  pub few : (counts_of plan).holes + (counts_of plan).slots ≤ 10000
  pub placed : All IsOnBoard plan
