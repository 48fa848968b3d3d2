use Rattle.tiling.proofs.ProgramLaws.{tile_value}
use Rattle.tiling.proofs.laws.tile_value_law.Goals as goal

pub returns : goal.returns
returns c = tile_value
