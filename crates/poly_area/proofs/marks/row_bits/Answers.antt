use Rattle.std.proofs.Common.{◌∙◌, ap, Bool, List, length, rules}
use Rattle.std.proofs.lemmas.Int.{to_z-of_z}
use mir.Val.{SFits}
use mir.Syntax.{w64}
use Rattle.poly_area.specs.Rows.{running}
use Rattle.poly_area.proofs.Running.{bit_is, running_clean}
use Rattle.poly_area.proofs.marks.row_bits.Goals as goal

pub returns : goal.returns
returns c =
    let g1 : SFits w64 c.args.first.x = search rules in
    let g2 : SFits w64 c.args.first.y = search rules in
    let g3 : SFits w64 c.args.pitch = c.ranges.pitch in
    let turned = simp to_z-of_z at c.flip_edges.ensures in
    λ k l. bit_is _ _ _ _ (c.run_parity.ensures k l) (turned k (search rules)) (ap (λ (marks : List Bool). running marks k) c.clear.ensures ∙ running_clean (length c.args.marks.now) k)
