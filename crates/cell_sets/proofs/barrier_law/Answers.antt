use Rattle.cell_sets.proofs.Barriers.{barrier}
use Rattle.cell_sets.proofs.barrier_law.Goals as goal

pub returns : goal.returns
returns c = barrier
