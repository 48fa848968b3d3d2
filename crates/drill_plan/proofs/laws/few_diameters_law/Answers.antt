use Rattle.drill_plan.proofs.DiameterLaws.{few_diameters_law}
use Rattle.drill_plan.proofs.laws.few_diameters_law.Goals as goal

pub returns : goal.returns
returns c = few_diameters_law c.keeps_pace.ensures
