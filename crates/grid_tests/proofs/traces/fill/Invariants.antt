use Rattle.std.proofs.Common.{◌≡◌, true}
use Rattle.board_base.specs.declared.places.Cell.{Cell}
use Rattle.cell_grid.specs.Cells.{is_above, IsOnBorder}
use Rattle.grid_tests.proofs.traces.fill.Given as goal

abbrev pub invariant-rows : goal.invariant-rows
invariant-rows l = ((l.bench).frame ≡ (l.fn.bench).frame) × ((c : Cell) → IsOnBorder (l.bench).frame c → is_above (l.bench).frame (l.bench).clearances 8 c ≡ true)

abbrev pub invariant-cells : goal.invariant-cells
invariant-cells l = ((l.bench).frame ≡ (l.fn.bench).frame) × ((c : Cell) → IsOnBorder (l.bench).frame c → is_above (l.bench).frame (l.bench).clearances 8 c ≡ true)
