use Rattle.cell_sets.proofs.Barriers.{groups_past}
use Rattle.cell_sets.proofs.groups_law.Goals as goal

pub returns : goal.returns
returns c = groups_past
