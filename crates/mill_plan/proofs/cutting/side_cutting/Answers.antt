use Rattle.std.proofs.Common.{◌≡◌, sym, subst, ◌∙◌, rules}
use Rattle.std.proofs.lemmas.Int.{to_z-of_z}
use mir.Syntax.{w64}
use mir.Val.{SFits, to_z, of_z}
use Rattle.job_file.specs.Checks.{radius_of}
use Rattle.mill_plan.specs.declared.cutting.Cutting.{Cutting}
use Rattle.mill_plan.specs.Cutting.{IsCutting, side_cutting, step_of}
use Rattle.mill_plan.proofs.JobLaws.{side_is}
use Rattle.mill_plan.proofs.cutting.side_cutting.Goals as goal

pub returns-clause-cutting : goal.returns-clause-cutting
unfolding side_cutting
returns-clause-cutting c =
    let pitch_fits : SFits w64 c.args.job.now.pitch = search rules in
    let radius_fits : SFits w64 c.radius.result = search rules in
    let tolerance_fits : SFits w64 c.args.job.now.tolerance = search rules in
    let step_fits : SFits w64 c.step.result = search rules in
    let pitch : to_z w64 (of_z w64 c.args.job.now.pitch) ≡ c.args.job.now.pitch = to_z-of_z w64 c.args.job.now.pitch pitch_fits in
    let radius : to_z w64 (of_z w64 c.radius.result) ≡ radius_of c.args.job.now.mill_diameters = to_z-of_z w64 c.radius.result radius_fits ∙ c.radius.ensures.value in
    let tolerance : to_z w64 (of_z w64 c.args.job.now.tolerance) ≡ c.args.job.now.tolerance = to_z-of_z w64 c.args.job.now.tolerance tolerance_fits in
    let step : to_z w64 (of_z w64 c.step.result) ≡ step_of c.args.job.now = to_z-of_z w64 c.step.result step_fits ∙ c.step.ensures.value in
    subst (λ (k : Cutting). IsCutting k) (λ i. record { pitch = sym pitch i; radius = sym radius i; tolerance = sym tolerance i; step = sym step i; last = sym c.last.ensures i; stride = sym c.clearing_stride.ensures i })
    (side_is c.args.job.now c.requires)
