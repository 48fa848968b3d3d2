use Rattle.tiling.proofs.StretchLaws.{stretches}
use Rattle.tiling.proofs.laws.stretch_law.Goals as goal

pub returns : goal.returns
returns c = stretches
