use Rattle.std.proofs.Common.{ℤ, pos, ◌-ℤ◌, ◌*ℤ◌, ◌≤ℤ◌, ap, sym, subst, ◌∙◌, rules}
use Rattle.std.specs.Int.{int_div_euclid}
use Rattle.std.proofs.lemmas.Int.{to_z-of_z}
use mir.Syntax.{w64}
use mir.Val.{SFits}
use Rattle.mill_plan.specs.Cutting.{step_of}
use Rattle.mill_plan.proofs.JobLaws.{job_step}
use Rattle.mill_plan.proofs.cutting.step.Goals as goal

pub returns-clause-value : goal.returns-clause-value
unfolding step_of
returns-clause-value c =
    let radius : SFits w64 c.radius.result = search rules in
    let twice : SFits w64 (pos 2 *ℤ c.radius.result) = search rules in
    let made : SFits w64 c.less_overlap.result = search rules in
    to_z-of_z w64 c.less_overlap.result made ∙ (simp to_z-of_z at c.less_overlap.ensures.value)
    ∙ ap (λ (r : ℤ). int_div_euclid (pos 2 *ℤ r *ℤ (pos 100 -ℤ pos c.args.job.now.milling_overlap)) (pos 100)) c.radius.ensures.value

pub returns-clause-low : goal.returns-clause-low
returns-clause-low c = subst (λ (r : ℤ). pos 200 ≤ℤ r) (sym (returns-clause-value c)) (job_step c.args.job.now c.requires).low

pub returns-clause-high : goal.returns-clause-high
returns-clause-high c = subst (λ (r : ℤ). r ≤ℤ pos 10000000) (sym (returns-clause-value c)) (job_step c.args.job.now c.requires).high
