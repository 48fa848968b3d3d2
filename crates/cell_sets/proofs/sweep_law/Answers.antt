use Rattle.cell_sets.proofs.Sweeps.{sweep}
use Rattle.cell_sets.proofs.sweep_law.Goals as goal

pub returns : goal.returns
returns c = sweep
