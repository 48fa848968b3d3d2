use Rattle.centre_field.proofs.SpanLaws.{IsWritingSpan}
use Rattle.centre_field.proofs.rows.write_span.Given as goal

abbrev pub invariant-places : goal.invariant-places
invariant-places l = IsWritingSpan l.fn.bench l.frame l.y l.from l.to l.n l.k l.bench l.x
