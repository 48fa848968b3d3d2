use Rattle.side_runs.proofs.StretchLaws.{tile_stretches_holds}
use Rattle.side_runs.proofs.laws.tile_stretches_law.Goals as goal

pub returns : goal.returns
returns c = tile_stretches_holds c.stretch_law.ensures c.alike_law.ensures.cuts c.alike_law.ensures.low
