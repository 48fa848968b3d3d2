use Rattle.centre_field.proofs.RowLaws.{IsFinishedBelow}
use Rattle.centre_field.proofs.rows.finish_rows.Given as goal

abbrev pub invariant-rows : goal.invariant-rows
invariant-rows l = IsFinishedBelow l.fn.bench l.bench l.y
