use Rattle.std.proofs.Common.{ℤ, sym, subst, ◌∙◌, rules}
use Rattle.std.proofs.lemmas.Int.{to_z-of_z}
use mir.Syntax.{w64}
use mir.Val.{SFits}
use Rattle.cell_grid.specs.Boxes.{HoldsCentres}
use Rattle.mill_plan.proofs.PassLaws.{rows_made}
use Rattle.mill_plan.proofs.passes.clearing.Goals as goal

pub returns-clause-some : goal.returns-clause-some
returns-clause-some c =
    let pitch : SFits w64 c.args.cutting.pitch = search rules in
    let half : SFits w64 c.half_diagonal.result = search rules in
    rows_made c.args.cutting c.args.painted.now.items c.in-Some.stride c.in-Some-dark_rectangle.bounds c.cells_within.result c.in-Some.is (sym c.dark_rectangle.ensures.value ∙ c.in-Some-dark_rectangle.is)
    (subst (λ (h : ℤ). HoldsCentres c.args.cutting.pitch h c.in-Some-dark_rectangle.bounds c.cells_within.result) (simp to_z-of_z at c.half_diagonal.ensures.value) (simp to_z-of_z at c.cells_within.ensures.centres))
