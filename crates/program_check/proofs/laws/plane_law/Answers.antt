use Rattle.program_check.proofs.PlaneLaws.{plane_holds}
use Rattle.program_check.proofs.laws.plane_law.Goals as goal

pub returns : goal.returns
returns c = plane_holds
