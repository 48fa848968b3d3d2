use Rattle.std.proofs.Common.{Err, ap, sym, subst, rules}
use Rattle.std.proofs.lemmas.Int.{to_z-of_z}
use mir.Syntax.{w64}
use mir.Val.{SFits}
use Rattle.mill_plan.specs.declared.cutting.Cutting.{Cutting}
use Rattle.mill_plan.specs.Frame.{HitsLimit}
use Rattle.outline_plan.specs.declared.errors.OutlinePlanError.{OutlinePlanError}
use Rattle.outline_plan.specs.Job.{outline_cutting}
use Rattle.outline_plan.specs.Made.{IsFrameRefusal}
use Rattle.outline_plan.proofs.RefusalLaws.{grid_refused, places_at, made_walks, made_chains}
use Rattle.outline_plan.proofs.plan.walks.Goals as goal

pub returns-in-Err-clause-refused : goal.returns-in-Err-clause-refused
returns-in-Err-clause-refused c =
    let k : Cutting = outline_cutting c.args.job.now in
    subst (λ (e : OutlinePlanError). IsFrameRefusal k c.args.board.now.items e) (sym c.plan_error.ensures)
    (grid_refused k c.args.board.now.items c.in-Err.error
    (λ hit e. subst (λ (j : Cutting). HitsLimit j c.args.board.now.items hit) c.outline_cutting.ensures.value (c.in-Err.ensures.limit hit (ap Err e)))
    (λ e. c.in-Err.ensures.frame (ap Err e)))

pub ordered_walks-requires-clause-places : goal.ordered_walks-requires-clause-places
ordered_walks-requires-clause-places c =
    let wide : SFits w64 c.args.job.now.pitch = search rules in
    places_at c.args.job.now c.outline_cutting.result _ c.outline_cutting.ensures.value (to_z-of_z w64 c.args.job.now.pitch wide) c.in-Ok.bench.frame c.in-Ok.ensures.places

pub returns-clause-walks : goal.returns-clause-walks
returns-clause-walks c =
    let wide : SFits w64 c.args.job.now.pitch = search rules in
    made_walks c.args.job.now c.outline_cutting.result _ c.outline_cutting.ensures.value (to_z-of_z w64 c.args.job.now.pitch wide) c.args.board.now.items c.in-Ok.bench.frame c.in-Ok.bench.pass c.in_ok-walks.walks.items c.in-Ok.ensures.contour c.in_ok-walks.ensures.walks

pub returns-clause-chains : goal.returns-clause-chains
returns-clause-chains c =
    let wide : SFits w64 c.args.job.now.pitch = search rules in
    made_chains c.args.job.now c.outline_cutting.result _ c.outline_cutting.ensures.value (to_z-of_z w64 c.args.job.now.pitch wide) c.args.board.now.items c.in-Ok.bench.frame c.in-Ok.bench.pass c.in_ok-walks.walks.items c.in-Ok.ensures.contour c.in_ok-walks.ensures.walks c.in-Ok.ensures.places c.walk_law.ensures
