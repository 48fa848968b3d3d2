use Rattle.side_runs.proofs.SideLaws.{own_moves_holds}
use Rattle.side_runs.proofs.laws.own_moves_law.Goals as goal

pub returns : goal.returns
returns c = own_moves_holds
