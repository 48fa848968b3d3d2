use Rattle.std.proofs.Common.{rules}
use Rattle.mill_outputs.proofs.PlanLaws.{side_refused}
use Rattle.mill_outputs.proofs.planned.plan_side.Goals as goal

pub returns-in-Err-Limit : goal.returns-in-Err-Limit
returns-in-Err-Limit c =
    side_refused c.args.job.now c.args.painted.now.items c.in-Err-Limit.hit (c.isolate.ensures.limit c.in-Err-Limit.hit (search rules))
    (λ other. c.isolate.ensures.one_limit c.in-Err-Limit.hit other (search rules))
