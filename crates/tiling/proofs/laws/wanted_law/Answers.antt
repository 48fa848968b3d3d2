use Rattle.tiling.proofs.ProgramLaws.{tiled_wanted}
use Rattle.tiling.proofs.laws.wanted_law.Goals as goal

pub returns : goal.returns
returns c = tiled_wanted
