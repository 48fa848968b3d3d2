use Rattle.side_runs.proofs.AloneLaws.{alone_holds}
use Rattle.side_runs.proofs.laws.alone_law.Goals as goal

pub returns : goal.returns
returns c = alone_holds c.one_tile_law.ensures
