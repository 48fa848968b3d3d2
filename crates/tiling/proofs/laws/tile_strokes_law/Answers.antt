use Rattle.tiling.proofs.RunsLaws.{tile_strokes}
use Rattle.tiling.proofs.laws.tile_strokes_law.Goals as goal

pub returns : goal.returns
returns c = tile_strokes c.run_law.ensures c.stroke_law.ensures c.stretch_law.ensures c.alike_law.ensures.cuts
