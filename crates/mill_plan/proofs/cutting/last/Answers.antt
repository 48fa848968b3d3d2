use Rattle.std.proofs.Common.{ℤ, subst, rules}
use Rattle.std.proofs.lemmas.Int.{to_z-of_z}
use mir.Syntax.{w64}
use mir.Val.{SFits}
use Rattle.mill_plan.specs.Cutting.{step_of}
use Rattle.mill_plan.specs.Passes.{IsEnough}
use Rattle.mill_plan.proofs.JobLaws.{last_max}
use Rattle.mill_plan.proofs.cutting.last.Goals as goal

pub returns : goal.returns
returns c =
    let wanting : SFits w64 c.wanting.result = search rules in
    let step : SFits w64 c.step.result = search rules in
    let enough = simp to_z-of_z at c.steps_over.ensures.enough in
    last_max c.args.job.now c.steps_over.result c.max.result c.requires
    (subst (λ (w : ℤ). IsEnough w (step_of c.args.job.now) c.steps_over.result) c.wanting.ensures.value (subst (λ (s : ℤ). IsEnough c.wanting.result s c.steps_over.result) c.step.ensures.value enough))
    c.steps_over.ensures.few c.max.ensures
