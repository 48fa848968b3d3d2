use Rattle.std.proofs.Common.{◌-◌}
use Rattle.cell_grid.specs.Cells.{in_plane}
use Rattle.chain_walk.specs.RowsDone.{cell_by, AreRunsBefore}
use Rattle.chain_walk.proofs.rows.add_row.Given as goal

abbrev pub invariant-columns : goal.invariant-columns
invariant-columns l = AreRunsBefore (in_plane l.bench.frame l.bench.pass) (cell_by l.bench.frame l.x l.y) l.runs.items

abbrev pub decreases-columns : goal.decreases-columns
decreases-columns l = l.frame.width - l.x
