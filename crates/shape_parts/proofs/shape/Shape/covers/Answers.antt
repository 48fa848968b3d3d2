use Rattle.std.proofs.Common.{◌∙◌, ap, ℤ, rules}
use Rattle.std.proofs.lemmas.Int.{to_z-of_z}
use mir.Val.{SFits}
use mir.Syntax.{w64}
use Rattle.board_base.specs.declared.places.Point.{Point}
use Rattle.board_base.specs.Lattice.{centre_of}
use Rattle.shape_parts.specs.Shapes.{shape_covers}
use Rattle.shape_parts.proofs.CellLaws.{half_unique}
use Rattle.shape_parts.proofs.shape.Shape.covers.Goals as goal

pub returns-clause-diagonal : goal.returns-clause-diagonal
returns-clause-diagonal c =
    let g : SFits w64 c.args.pitch = c.ranges.pitch in
    let f : SFits w64 c.half_diagonal.result = search rules in
    let there = centre_of c.args.pitch c.args.c in
    λ h d. (simp to_z-of_z at c.covers_at.ensures)
    ∙ ap (λ (p : Point). shape_covers p c.half_diagonal.result c.args.self.now) (simp to_z-of_z at c.centre.ensures)
    ∙ ap (λ (k : ℤ). shape_covers there k c.args.self.now) (half_unique c.args.pitch c.half_diagonal.result h (simp to_z-of_z at c.half_diagonal.ensures.diagonal) d)
