use Rattle.std.proofs.Common.{Err, ap}
use Rattle.side_check.proofs.CheckLaws.{reach_is}
use Rattle.side_check.proofs.FoundLaws.{plan_refused}
use Rattle.side_check.proofs.side.side_bench.Goals as goal

pub returns-in-Ok-clause-reach : goal.returns-in-Ok-clause-reach
returns-in-Ok-clause-reach c = reach_is c.args.cutting c.args.painted.now.items c.in-Ok.bench.frame c.requires c.in-Ok.ensures.numbered.1.framed

pub returns-in-Err-clause-numbered : goal.returns-in-Err-clause-numbered
returns-in-Err-clause-numbered c = plan_refused c.args.cutting c.args.painted.now.items c.in-Err.error c.refused.result c.refused.ensures (λ hit e. c.in-Err.ensures.limit hit (ap Err e))
