use Rattle.islands.proofs.Climbs.{IsClimbing}
use Rattle.islands.proofs.forests.root_of.Given as goal

abbrev pub invariant-climb : goal.invariant-climb
invariant-climb l = IsClimbing l.fn.bench l.bench l.outer l.node l.at l.up

abbrev pub decreases-climb : goal.decreases-climb
decreases-climb l = l.at
