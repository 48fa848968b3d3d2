use Rattle.side_runs.proofs.RunLaws.{tiled_side_holds}
use Rattle.side_runs.proofs.laws.tiled_side_law.Goals as goal

pub returns : goal.returns
returns c = tiled_side_holds c.copies_law.ensures
