use Rattle.islands.proofs.JoinLaws.{around_on}
use Rattle.islands.proofs.joins.join_around.Goals as goal

pub ways-preserved : goal.ways-preserved
ways-preserved c = around_on _ _ _ _ _ _ _ _ c.ways.invariant c.requires.cell c.requires.node c.join_way.ensures.rest c.join_way.ensures.joined
