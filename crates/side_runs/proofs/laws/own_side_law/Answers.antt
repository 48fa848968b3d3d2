use Rattle.side_runs.proofs.SideLaws.{own_side_holds}
use Rattle.side_runs.proofs.laws.own_side_law.Goals as goal

pub returns : goal.returns
returns c = own_side_holds
