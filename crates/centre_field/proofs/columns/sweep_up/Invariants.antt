use Rattle.std.proofs.Common.{◌+◌, ◌*◌}
use Rattle.centre_field.proofs.WrittenLaws.{IsWrittenBelow}
use Rattle.centre_field.proofs.ColumnLaws.{IsUpwardAt}
use Rattle.centre_field.proofs.columns.sweep_up.Given as goal

abbrev pub invariant-cells : goal.invariant-cells
invariant-cells l = IsWrittenBelow (IsUpwardAt l.fn.bench l.frame) l.fn.bench l.frame l.bench (l.y * l.frame.width + l.x)

abbrev pub invariant-rows : goal.invariant-rows
invariant-rows l = IsWrittenBelow (IsUpwardAt l.fn.bench l.frame) l.fn.bench l.frame l.bench (l.y * l.frame.width)
