use Rattle.side_check.specs.Struck.{is_struck}
use Rattle.side_check.proofs.RowLaws.{IsRowPast}
use Rattle.side_check.proofs.hits.struck_in_row.Given as goal

abbrev pub invariant-loop-x : goal.invariant-loop-x
invariant-loop-x l = IsRowPast l.fn.bench.frame (is_struck l.fn.bench l.fn.a l.fn.b l.fn.d) l.fn.y l.x
