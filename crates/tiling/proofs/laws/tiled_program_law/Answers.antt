use Rattle.tiling.proofs.ProgramLaws.{tiled_program}
use Rattle.tiling.proofs.laws.tiled_program_law.Goals as goal

pub returns : goal.returns
returns c = tiled_program
