use Rattle.islands.proofs.JoinLaws.{pointed_at}
use Rattle.islands.proofs.joins.pointed_beside.Goals as goal

pub returns-in-Some : goal.returns-in-Some
returns-in-Some c = pointed_at _ _ _ _ _ _ _ c.requires.frame c.in-Some.ensures.some.0 c.in-Some.ensures.some.1 c.work.ensures
