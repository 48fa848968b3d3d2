use Rattle.program_check.proofs.WholeLaws.{whole_holds}
use Rattle.program_check.proofs.laws.whole_law.Goals as goal

pub returns : goal.returns
returns c = whole_holds
