use Rattle.std.proofs.Common.{ap, ◌∙◌, rules}
use Rattle.std.proofs.lemmas.Int.{to_z-of_z}
use mir.Val.{SFits}
use mir.Syntax.{w64}
use Rattle.board_base.specs.declared.places.Point.{Point}
use Rattle.poly_area.specs.Area.{area_holds}
use Rattle.copper_cover.proofs.ColumnLaws.{first_near, same_centre}
use Rattle.copper_cover.proofs.rows.held_row.Goals as goal

pub row_bits-requires-clause-first : goal.row_bits-requires-clause-first
row_bits-requires-clause-first c =
    let f : SFits w64 c.args.row.pitch = search rules in
    first_near c.args.row _ _ c.requires.row (simp to_z-of_z at c.centre.ensures)

pub returns : goal.returns
returns c k l =
    let f : SFits w64 c.args.row.pitch = search rules in
    (simp to_z-of_z at (c.row_bits.ensures k l)) ∙ ap (λ (q : Point). area_holds q c.args.poly.now) (same_centre c.args.row k c.centre.result (simp to_z-of_z at c.centre.ensures))
