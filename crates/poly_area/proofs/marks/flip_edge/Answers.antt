use Rattle.std.proofs.Common.{◌∙◌, sym, ap, refl}
use Rattle.std.proofs.lemmas.Int.{to_z-of_z}
use mir.Val.{SFits}
use mir.Syntax.{w64}
use Rattle.poly_area.specs.Crossing.{xor}
use Rattle.poly_area.specs.Area.{edge_at}
use Rattle.poly_area.specs.Rows.{column_x, running}
use Rattle.poly_area.proofs.Running.{toggle_none, xor_false}
use Rattle.poly_area.proofs.marks.flip_edge.Goals as goal

pub returns-in-None : goal.returns-in-None
returns-in-None c =
    let g : SFits w64 c.args.y = c.ranges.y in
    let g2 : SFits w64 c.args.pitch = c.ranges.pitch in
    let g3 : SFits w64 c.args.west = c.ranges.west in
    let h = simp to_z-of_z at (c.in-None.ensures.none.0 refl) in
    λ k l. xor_false (running c.args.marks.now k) ∙ ap (xor (running c.args.marks.now k)) (sym (toggle_none (edge_at c.args.poly.now c.args.edge) c.args.y h (column_x c.args.west c.args.pitch k)))
