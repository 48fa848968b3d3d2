use Rattle.std.proofs.Common.{◌≡◌, ◌+◌, ◌*◌, pos, ◌+ℤ◌}
use Rattle.cell_grid.specs.Cells.{in_plane}
use Rattle.contours.specs.Rows.{is_cleared, is_cleared_row}
use Rattle.contours.proofs.Traces.{IsTraced}
use Rattle.contours.proofs.cleared.rows.Given as goal

abbrev pub invariant-rows : goal.invariant-rows
invariant-rows l = IsTraced l.fn.bench l.frame (is_cleared l.stride l.inner (in_plane (l.fn.bench).frame (l.fn.bench).allowed)) l.bench l.count (l.y * l.frame.width)

abbrev pub invariant-cells : goal.invariant-cells
invariant-cells l = IsTraced l.fn.bench l.frame (is_cleared l.stride l.inner (in_plane (l.fn.bench).frame (l.fn.bench).allowed)) l.bench l.count (l.y * l.frame.width + l.x) × (l.cleared ≡ is_cleared_row l.stride l.inner (l.frame.j0 +ℤ pos l.y))
