use Rattle.cell_sets.proofs.Rows.{clearing}
use Rattle.cell_sets.proofs.clearing_law.Goals as goal

pub returns : goal.returns
returns c = clearing
