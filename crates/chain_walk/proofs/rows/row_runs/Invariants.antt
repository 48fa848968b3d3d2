use Rattle.cell_grid.specs.Cells.{in_plane}
use Rattle.chain_walk.specs.RowsDone.{cell_by, AreRunsBefore}
use Rattle.chain_walk.proofs.rows.row_runs.Given as goal

abbrev pub invariant-rows : goal.invariant-rows
invariant-rows l = AreRunsBefore (in_plane l.bench.frame l.bench.pass) (cell_by l.bench.frame 0 l.y) l.runs.items
