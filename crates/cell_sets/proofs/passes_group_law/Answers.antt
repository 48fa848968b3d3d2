use Rattle.cell_sets.proofs.Guards.{passes_group}
use Rattle.cell_sets.proofs.passes_group_law.Goals as goal

pub returns : goal.returns
returns c = passes_group
