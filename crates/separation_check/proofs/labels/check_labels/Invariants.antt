use Rattle.std.proofs.Common.{◌+◌, ◌*◌}
use Rattle.separation_check.proofs.Tears.{AreAgreed}
use Rattle.separation_check.proofs.labels.check_labels.Given as goal

abbrev pub invariant-rows : goal.invariant-rows
invariant-rows l = AreAgreed l.bench l.frame (l.y * l.frame.width)

abbrev pub invariant-cells : goal.invariant-cells
invariant-cells l = AreAgreed l.bench l.frame (l.y * l.frame.width + l.x)
