use Rattle.chain_walk.proofs.RowRunLaws.{row_run_law}
use Rattle.chain_walk.proofs.rows.row_run_law.Goals as goal

pub returns : goal.returns
returns c = row_run_law
