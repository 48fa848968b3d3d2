-- Laws of the drill list.
use Rattle.std.specs.Prelude.{◌≡◌, ℤ, List}
use Rattle.excellon.specs.Fits.{IsDrilled}
use Rattle.excellon.specs.declared.file.DrillFile.{DrillFile}
use Rattle.drill_plan.specs.Plan.{IsDrillPlan}
use Rattle.drill_plan.specs.Listed.{ListsFile}
use Rattle.drill_plan.specs.Limits.{HasFewDiameters, IsWithinLimits}
use Rattle.drill_plan.specs.declared.plans.ToolPlan.{ToolPlan}

-- a file has one drill list
abbrev pub OnePlan : Type 0
OnePlan = (file : DrillFile) (available : List ℤ) (one other : List ToolPlan) → IsDrillPlan file available one → IsDrillPlan file available other → one ≡ other

-- what the file gives each tool stands in the drill list once, and nothing else does
abbrev pub EntriesLaw : Type 0
EntriesLaw = (file : DrillFile) (available : List ℤ) (plan : List ToolPlan) → IsDrillPlan file available plan → ListsFile file available plan

-- the drill list has no more than the file, and no more tools than the file has diameters
abbrev pub LimitsLaw : Type 0
LimitsLaw = (file : DrillFile) (available : List ℤ) (plan : List ToolPlan) → IsDrilled file → HasFewDiameters file → IsDrillPlan file available plan → IsWithinLimits plan
