use Rattle.cell_sets.proofs.Guards.{rows_clear}
use Rattle.cell_sets.proofs.rows_clear_law.Goals as goal

pub returns : goal.returns
returns c = rows_clear
