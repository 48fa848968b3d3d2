use Rattle.std.proofs.Common.{◌-◌}
use Rattle.cell_grid.proofs.SpanLaws.{IsUnlike}
use Rattle.cell_grid.proofs.tables.spans.pass_eights.Given as goal

abbrev pub invariant-eights : goal.invariant-eights
invariant-eights l = IsUnlike l.flags l.k l.on l.from l.at l.end

abbrev pub decreases-eights : goal.decreases-eights
decreases-eights l = l.end - l.at
