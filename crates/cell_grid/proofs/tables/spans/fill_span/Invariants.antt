use Rattle.cell_grid.proofs.SpanLaws.{IsFilled}
use Rattle.cell_grid.proofs.tables.spans.fill_span.Given as goal

abbrev pub invariant-places : goal.invariant-places
invariant-places l = IsFilled l.fn.numbers l.numbers l.from l.at l.v
