use Rattle.one_programs.proofs.OutlineLaws.{one_outline_report}
use Rattle.one_programs.proofs.laws.one_outline_report_law.Goals as goal

pub returns : goal.returns
returns c = one_outline_report
