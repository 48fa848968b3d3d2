use Rattle.std.proofs.Common.{ap, ◌∙◌, rules}
use Rattle.std.specs.Prelude.{unsigned_abs}
use Rattle.std.proofs.lemmas.Int.{to_z-of_z}
use mir.Syntax.{w128}
use mir.Val.{SFits}
use Rattle.plane_arcs.proofs.VectorLaws.{length_is, sides_within}
use Rattle.plane_arcs.proofs.vectors.length_of.Goals as goal

pub returns-clause-value : goal.returns-clause-value
returns-clause-value c =
    let f : SFits w128 c.dot.result = search rules in
    let e = simp to_z-of_z at c.unsigned_abs.ensures.value in
    length_is c.args.v c.unsigned_abs.result c.isqrt.result (e ∙ ap unsigned_abs c.dot.ensures) c.isqrt.ensures.square c.isqrt.ensures.next

pub returns-clause-sides : goal.returns-clause-sides
returns-clause-sides c =
    let f : SFits w128 c.dot.result = search rules in
    let e = simp to_z-of_z at c.unsigned_abs.ensures.value in
    sides_within c.args.v c.unsigned_abs.result c.isqrt.result (e ∙ ap unsigned_abs c.dot.ensures) c.isqrt.ensures.next
