use Rattle.std.proofs.Common.{pos, ◌-ℤ◌, ◌∙◌, rules}
use Rattle.std.proofs.lemmas.Int.{to_z-of_z}
use mir.Syntax.{w64}
use mir.Val.{SFits}
use Rattle.outline_plan.proofs.JobLaws.{level_is}
use Rattle.outline_plan.proofs.cutting.level.Goals as goal

pub returns : goal.returns
returns c =
    let a : SFits w64 c.args.job.now.zcut = search rules in
    let b : SFits w64 c.args.job.now.cut_infeed = search rules in
    let d : SFits w64 c.infeeds.result = search rules in
    let n : SFits w64 (pos 0 -ℤ c.infeeds.result) = search rules in
    let h : SFits w64 c.higher.result = search rules in
    let high = simp to_z-of_z at c.higher.ensures in
    let down = simp to_z-of_z at c.infeeds.ensures.value in
    to_z-of_z w64 c.higher.result h ∙ level_is c.args.job.now c.args.k c.higher.result c.infeeds.result _ high down (search rules)
