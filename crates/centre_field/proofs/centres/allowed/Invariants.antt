use Rattle.std.proofs.Common.{◌+◌, ◌*◌}
use Rattle.centre_field.proofs.AllowedLaws.{IsDoneBelow}
use Rattle.centre_field.proofs.centres.allowed.Given as goal

abbrev pub invariant-cells : goal.invariant-cells
invariant-cells l = IsDoneBelow l.fn.bench l.frame l.g l.bench (l.y * l.frame.width + l.x)

abbrev pub invariant-rows : goal.invariant-rows
invariant-rows l = IsDoneBelow l.fn.bench l.frame l.g l.bench (l.y * l.frame.width)
