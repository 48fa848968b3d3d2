use Rattle.std.proofs.Common.{Err, ap}
use Rattle.mill_plan.specs.declared.limits.PlanError.TheVariants.{Limit}
use Rattle.mill_plan.proofs.FrameLaws.{frame_places}
use Rattle.mill_plan.proofs.IsolationLaws.{error_in}
use Rattle.mill_plan.proofs.LimitLaws.{no_limit, one_limit}
use Rattle.mill_plan.proofs.side.numbered_side.Goals as goal

pub returns-in-Err-clause-one_limit : goal.returns-in-Err-clause-one_limit
returns-in-Err-clause-one_limit c = λ hit other e k.
    one_limit c.args.cutting c.args.painted.now.items hit other (c.in-Err.ensures.limit hit (ap Err (error_in c.in-Err.error (Limit hit) e))) k

pub returns-clause-places : goal.returns-clause-places
returns-clause-places c = λ d inside. frame_places c.args.cutting c.args.painted.now.items c.in-Ok.made.0.frame c.requires c.in-Ok.ensures.numbered.framed d inside

pub returns-clause-within : goal.returns-clause-within
returns-clause-within c =
    let s = c.in-Ok.ensures.numbered in
    no_limit c.args.cutting c.args.painted.now.items c.in-Ok.made.0.frame _ c.in-Ok.made.1 c.one_count_law.ensures s.framed s.islands s.few
