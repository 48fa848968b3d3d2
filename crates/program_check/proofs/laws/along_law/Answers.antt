use Rattle.program_check.proofs.AlongLaws.{along_holds}
use Rattle.program_check.proofs.laws.along_law.Goals as goal

pub returns : goal.returns
returns c = along_holds
