use Rattle.centre_field.proofs.RowLaws.{IsListedTo}
use Rattle.centre_field.proofs.rows.list_span.Given as goal

abbrev pub invariant-columns : goal.invariant-columns
invariant-columns l = IsListedTo l.fn.bench l.frame l.y l.from l.bench l.n l.b
