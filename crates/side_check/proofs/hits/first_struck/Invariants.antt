use Rattle.side_check.specs.Struck.{is_struck}
use Rattle.side_check.proofs.RowLaws.{AreRowsPast}
use Rattle.side_check.proofs.hits.first_struck.Given as goal

abbrev pub invariant-loop-y : goal.invariant-loop-y
invariant-loop-y l = AreRowsPast l.fn.bench.frame (is_struck l.fn.bench l.fn.a l.fn.b l.fn.d) l.y
