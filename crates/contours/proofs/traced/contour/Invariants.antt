use Rattle.std.proofs.Common.{◌-◌, ◌*◌}
use Rattle.cell_grid.specs.Cells.{is_above}
use Rattle.contours.specs.Contour.{on_contour}
use Rattle.contours.proofs.Traces.{IsTraced, IsBlankFrom, IsFound}
use Rattle.contours.proofs.traced.contour.Given as goal

abbrev pub invariant-rows : goal.invariant-rows
invariant-rows l = record {
  traced : IsTraced l.fn.bench l.frame (on_contour (is_above (l.fn.bench).frame (l.fn.bench).clearances l.g)) l.bench l.size (l.y * l.frame.width);
  blank : IsBlankFrom l.bench (l.y * l.frame.width);
}

abbrev pub invariant-cells : goal.invariant-cells
invariant-cells l = IsFound l.fn.bench l.frame l.g l.bench l.size l.y l.x

abbrev pub decreases-cells : goal.decreases-cells
decreases-cells l = l.frame.width - l.x
