use Rattle.drill_plan.proofs.ListedLaws.{entries_law}
use Rattle.drill_plan.proofs.laws.entries_law.Goals as goal

pub returns : goal.returns
returns c = entries_law
