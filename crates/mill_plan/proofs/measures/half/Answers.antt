use Rattle.std.proofs.Common.{arith, rules}
use Rattle.std.proofs.lemmas.Int.{ints, to_z-of_z}
use mir.Syntax.{w64}
use mir.Val.{SFits}
use Rattle.mill_plan.proofs.measures.half.Goals as goal

pub returns-clause-low : goal.returns-clause-low
returns-clause-low c =
    let fits : SFits w64 c.half_diagonal.result = search rules in
    rw (to_z-of_z w64 c.half_diagonal.result fits) (omega (arith, ints, c.half_diagonal.ensures.diagonal))
