use Rattle.std.proofs.Common.{◌≡◌, length, take}
use Rattle.std.specs.List.{sum_by}
use Rattle.drill_plan.specs.declared.plans.ToolPlan.{ToolPlan}
use Rattle.drill_plan.proofs.plans.counts.Given as goal

abbrev pub invariant-tools : goal.invariant-tools
invariant-tools l = record {
  holes : l.holes ≡ sum_by (λ (t : ToolPlan). length t.holes) (take l.tool-index l.plan);
  slots : l.slots ≡ sum_by (λ (t : ToolPlan). length t.slots) (take l.tool-index l.plan);
}
