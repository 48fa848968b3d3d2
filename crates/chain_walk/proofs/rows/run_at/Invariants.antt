use Rattle.std.proofs.Common.{◌≡◌, ◌+◌, length}
use Rattle.cell_grid.specs.Cells.{in_plane}
use Rattle.chain_walk.specs.RowsDone.{cell_by, AreTakenFrom}
use Rattle.chain_walk.proofs.rows.run_at.Given as goal

abbrev pub invariant-columns : goal.invariant-columns
invariant-columns l = record {
  from : AreTakenFrom (in_plane l.bench.frame l.bench.pass) (cell_by l.bench.frame l.x l.y) l.cells.items;
  there : l.x + length l.cells.items ≡ l.at;
}
