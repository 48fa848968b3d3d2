use Rattle.side_runs.proofs.SideLaws.{side_tests_holds}
use Rattle.side_runs.proofs.laws.side_tests_law.Goals as goal

pub returns : goal.returns
returns c = side_tests_holds
