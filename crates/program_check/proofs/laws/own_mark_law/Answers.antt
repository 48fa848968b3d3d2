use Rattle.program_check.proofs.OwnLaws.{own_mark_holds}
use Rattle.program_check.proofs.laws.own_mark_law.Goals as goal

pub returns : goal.returns
returns c = own_mark_holds
