use Rattle.mill_outputs.proofs.PlanLaws.{outline_one}
use Rattle.mill_outputs.proofs.planned.plan_outline.Goals as goal

pub returns-in-Err : goal.returns-in-Err
returns-in-Err c = rw c.outline_refusal.ensures (outline_one c.args.job.now c.args.painted.now.items c.in-Err.error c.in-Err.ensures)
