use Rattle.mill_outputs.specs.Planned.{IsSide}
use Rattle.mill_outputs.proofs.PlanLaws.{given_refused}
use Rattle.mill_outputs.proofs.planned.plan_side_if.Goals as goal

pub returns-in-Err : goal.returns-in-Err
returns-in-Err c = rw c.in-Some.is (given_refused (IsSide c.args.job.now) c.in-Some.painted.items c.in-Err.status c.in-Err.ensures)
