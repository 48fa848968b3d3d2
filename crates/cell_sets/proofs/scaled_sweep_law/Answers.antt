use Rattle.cell_sets.proofs.Sweeps.{scaled_sweep}
use Rattle.cell_sets.proofs.scaled_sweep_law.Goals as goal

pub returns : goal.returns
returns c = scaled_sweep
