use Rattle.outline_tiles.proofs.OutlineLaws.{tiled_outline}
use Rattle.outline_tiles.proofs.tiled_outline_law.Goals as goal

pub returns : goal.returns
returns c = tiled_outline c.run_law.ensures c.over_law.ensures c.stretch_law.ensures c.alike_law.ensures.cuts c.alike_law.ensures.low
