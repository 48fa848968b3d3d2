use Rattle.drill_plan.proofs.LimitLaws.{limits_law}
use Rattle.drill_plan.proofs.laws.limits_law.Goals as goal

pub returns : goal.returns
returns c = limits_law
