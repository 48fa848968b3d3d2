use Rattle.one_programs.proofs.SideLaws.{one_side_report}
use Rattle.one_programs.proofs.laws.one_side_report_law.Goals as goal

pub returns : goal.returns
returns c = one_side_report
