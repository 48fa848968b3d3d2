use Rattle.program_check.proofs.PlaneLaws.{flat_holds}
use Rattle.program_check.proofs.laws.flat_law.Goals as goal

pub returns : goal.returns
returns c = flat_holds
