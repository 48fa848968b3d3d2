use Rattle.std.proofs.Common.{◌-◌}
use Rattle.centre_field.proofs.ColumnLaws.{IsSweptFrom}
use Rattle.centre_field.proofs.columns.sweep_down.Given as goal

abbrev pub invariant-rows : goal.invariant-rows
invariant-rows l = IsSweptFrom l.fn.bench l.frame l.bench (l.frame.height - l.turn)
