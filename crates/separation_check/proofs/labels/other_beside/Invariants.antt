use Rattle.separation_check.proofs.Tears.{AreOfClass}
use Rattle.separation_check.proofs.labels.other_beside.Given as goal

abbrev pub invariant-rows : goal.invariant-rows
invariant-rows l = AreOfClass l.bench l.c l.class l.y 0

abbrev pub invariant-cells : goal.invariant-cells
invariant-cells l = AreOfClass l.bench l.c l.class l.y l.x
