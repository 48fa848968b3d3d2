use Rattle.drill_plan.proofs.OnePlan.{one_plan}
use Rattle.drill_plan.proofs.laws.one_plan_law.Goals as goal

pub returns : goal.returns
returns c = one_plan
