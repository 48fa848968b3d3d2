use Rattle.cell_sets.proofs.Guards.{passes}
use Rattle.cell_sets.proofs.passes_law.Goals as goal

pub returns : goal.returns
returns c = passes
