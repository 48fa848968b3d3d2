use Rattle.std.proofs.Common.{◌-◌}
use Rattle.cell_grid.proofs.SpanLaws.{IsUnlike}
use Rattle.cell_grid.proofs.tables.spans.next_bit.Given as goal

abbrev pub invariant-cells : goal.invariant-cells
invariant-cells l = IsUnlike l.flags l.k l.on l.from l.at l.end

abbrev pub decreases-cells : goal.decreases-cells
decreases-cells l = l.end - l.at
