use Rattle.islands.proofs.JoinLaws.{IsAround}
use Rattle.islands.proofs.joins.join_around.Given as goal

abbrev pub invariant-ways : goal.invariant-ways
invariant-ways l = IsAround l.fn.bench l.bench l.frame l.outer l.c l.node l.way
