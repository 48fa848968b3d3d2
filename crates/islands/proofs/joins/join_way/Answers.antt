use Rattle.islands.proofs.JoinLaws.{met_or_lone}
use Rattle.islands.proofs.joins.join_way.Goals as goal

pub returns-then-up-ne0-clause-joined : goal.returns-then-up-ne0-clause-joined
returns-then-up-ne0-clause-joined c = met_or_lone _ _ _ _ _ c.pointed_beside-up.ensures c.if-up-ne0.true c.unite.ensures.united
