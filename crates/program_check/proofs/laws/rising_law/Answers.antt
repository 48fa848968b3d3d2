use Rattle.program_check.proofs.ScanLaws.{rising_holds}
use Rattle.program_check.proofs.laws.rising_law.Goals as goal

pub returns : goal.returns
returns c = rising_holds
