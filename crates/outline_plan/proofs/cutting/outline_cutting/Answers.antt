use Rattle.std.proofs.Common.{◌∙◌, rules}
use Rattle.std.proofs.lemmas.Int.{to_z-of_z}
use mir.Syntax.{w64}
use mir.Val.{SFits}
use Rattle.outline_plan.proofs.JobLaws.{cutting_by}
use Rattle.outline_plan.proofs.cutting.outline_cutting.Goals as goal

pub returns-clause-cutting : goal.returns-clause-cutting
returns-clause-cutting c =
    let wide : SFits w64 c.args.job.now.pitch = search rules in
    let half : SFits w64 c.radius.result = search rules in
    cutting_by c.args.job.now _ _ (to_z-of_z w64 c.args.job.now.pitch wide) (to_z-of_z w64 c.radius.result half ∙ c.radius.ensures) c.requires
