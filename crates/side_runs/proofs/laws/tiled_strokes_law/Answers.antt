use Rattle.side_runs.proofs.RunLaws.{tiled_strokes_holds}
use Rattle.side_runs.proofs.laws.tiled_strokes_law.Goals as goal

pub returns : goal.returns
returns c = tiled_strokes_holds c.wanted_law.ensures
