use Rattle.tiling.proofs.ProgramLaws.{one_tile}
use Rattle.tiling.proofs.laws.one_tile_law.Goals as goal

pub returns : goal.returns
returns c = one_tile
