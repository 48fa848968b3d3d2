use Rattle.std.proofs.lemmas.Int.{to_z-of_z}
use mir.Syntax.{w64}
use mir.Val.{SFits}
use Rattle.mill_plan.proofs.StepLaws.{steps_for}
use Rattle.mill_plan.proofs.cutting.steps_over.Goals as goal

pub returns-clause-enough : goal.returns-clause-enough
returns-clause-enough c =
    let wanting : SFits w64 c.args.wanting = c.ranges.wanting in
    let step : SFits w64 c.args.step = c.ranges.step in
    steps_for c.args.wanting c.args.step c.quotient_up.result (simp to_z-of_z at c.if-wanting-le0.false) c.requires.low (simp to_z-of_z at c.quotient_up.ensures.value)
