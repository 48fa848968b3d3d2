use Rattle.cell_sets.proofs.Counts.{one_count}
use Rattle.cell_sets.proofs.one_count_law.Goals as goal

pub returns : goal.returns
returns c = one_count
