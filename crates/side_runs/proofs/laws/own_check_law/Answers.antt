use Rattle.side_runs.proofs.SideLaws.{own_check_holds}
use Rattle.side_runs.proofs.laws.own_check_law.Goals as goal

pub returns : goal.returns
returns c = own_check_holds
