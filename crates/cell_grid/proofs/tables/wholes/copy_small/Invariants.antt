use Rattle.cell_grid.proofs.Copying.{IsCopied}
use Rattle.cell_grid.proofs.tables.wholes.copy_small.Given as goal

abbrev pub invariant-numbers : goal.invariant-numbers
invariant-numbers l = IsCopied l.from l.to l.at
