use Rattle.cell_grid.proofs.PlaneLaws.{IsBitCleared}
use Rattle.cell_grid.proofs.tables.wholes.clear_bit.Given as goal

abbrev pub invariant-flags : goal.invariant-flags
invariant-flags l = IsBitCleared l.k l.fn.flags l.flags l.at
