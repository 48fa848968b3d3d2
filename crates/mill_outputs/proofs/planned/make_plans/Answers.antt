use Rattle.mill_inputs.specs.Accepted.{accepts_of}
use Rattle.mill_outputs.proofs.PlanLaws.{outline_refused_last}
use Rattle.mill_outputs.proofs.planned.make_plans.Goals as goal

pub returns-in-Err-plan_outline_if : goal.returns-in-Err-plan_outline_if
returns-in-Err-plan_outline_if c =
    outline_refused_last (accepts_of c.args.accepted.now) c.in-Ok.front c.in-Ok-plan_side_if.back c.in-Ok-plan_drill_if.drill c.in-Err-plan_outline_if.status
    c.in-Ok.ensures c.in-Ok-plan_side_if.ensures c.in-Ok-plan_drill_if.ensures c.in-Err-plan_outline_if.ensures
