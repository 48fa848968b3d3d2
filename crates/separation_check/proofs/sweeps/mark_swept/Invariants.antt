use Rattle.separation_check.proofs.Sweeping.{IsMarking}
use Rattle.separation_check.proofs.sweeps.mark_swept.Given as goal

abbrev pub invariant-rows : goal.invariant-rows
invariant-rows l = IsMarking l.fn.bench l.bench l.frame l.a l.b l.fn.d l.y 0

abbrev pub invariant-cells : goal.invariant-cells
invariant-cells l = IsMarking l.fn.bench l.bench l.frame l.a l.b l.fn.d l.y l.x
