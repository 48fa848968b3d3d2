use Rattle.grid_runs.proofs.GridRunLaws.{grid_run}
use Rattle.grid_runs.proofs.grid_run_law.Goals as goal

pub returns : goal.returns
returns c = grid_run c.height_law.ensures
