use Rattle.program_check.proofs.ScanLaws.{scan_holds}
use Rattle.program_check.proofs.laws.scan_law.Goals as goal

pub returns : goal.returns
returns c = scan_holds
