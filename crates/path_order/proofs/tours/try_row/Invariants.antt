use Rattle.path_order.specs.Trials.{IsStart}
use Rattle.path_order.proofs.Sweeping.{IsInRow}
use Rattle.path_order.proofs.tours.try_row.Given as goal

abbrev pub invariant-ends : goal.invariant-ends
invariant-ends l = IsInRow l.points.items l.i l.fn.order l.order l.any l.j × IsStart l.points.items l.order l.i l.start
