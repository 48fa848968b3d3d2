use Rattle.drill_program.proofs.TiledLaws.{tiled_holes, one_tile_wants}
use Rattle.drill_program.proofs.program.tiled_holes_law.Goals as goal

pub returns-clause-tiles : goal.returns-clause-tiles
returns-clause-tiles c = tiled_holes c.run_law.ensures c.stroke_law.ensures c.entries_law.ensures c.wanted_law.ensures

pub returns-clause-one_tile : goal.returns-clause-one_tile
returns-clause-one_tile c = one_tile_wants
