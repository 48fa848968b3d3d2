use Rattle.program_check.proofs.OwnLaws.{own_holds}
use Rattle.program_check.proofs.laws.own_law.Goals as goal

pub returns : goal.returns
returns c = own_holds
