use Rattle.chain_walk.proofs.OneRuns.{one_row_runs}
use Rattle.chain_walk.proofs.rows.one_row_runs_law.Goals as goal

pub returns : goal.returns
returns c = one_row_runs
