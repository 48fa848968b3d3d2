use Rattle.cell_sets.proofs.Guards.{passes_part}
use Rattle.cell_sets.proofs.passes_part_law.Goals as goal

pub returns : goal.returns
returns c = passes_part
