use Rattle.program_check.proofs.OwnLaws.{own_clear_holds}
use Rattle.program_check.proofs.laws.own_clear_law.Goals as goal

pub returns : goal.returns
returns c = own_clear_holds
