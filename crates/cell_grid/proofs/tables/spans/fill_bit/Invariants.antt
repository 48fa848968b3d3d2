use Rattle.cell_grid.proofs.SpanLaws.{IsBitFilled}
use Rattle.cell_grid.proofs.tables.spans.fill_bit.Given as goal

abbrev pub invariant-flags : goal.invariant-flags
invariant-flags l = IsBitFilled l.k l.fn.flags l.flags l.from l.at l.on
