use Rattle.std.proofs.Common.{◌+◌, ◌*◌}
use Rattle.centre_field.proofs.PlainLaws.{IsLeastAt}
use Rattle.centre_field.proofs.WrittenLaws.{IsWrittenBelow}
use Rattle.centre_field.proofs.plain.plain_clearance.Given as goal

abbrev pub invariant-cells : goal.invariant-cells
invariant-cells l = IsWrittenBelow (IsLeastAt l.fn.bench l.frame) l.fn.bench l.frame l.bench (l.y * l.frame.width + l.x)

abbrev pub invariant-rows : goal.invariant-rows
invariant-rows l = IsWrittenBelow (IsLeastAt l.fn.bench l.frame) l.fn.bench l.frame l.bench (l.y * l.frame.width)
