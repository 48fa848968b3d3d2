use Rattle.std.proofs.Common.{◌≤◌, ◌*◌, ◌∙◌, List, length, ap, rules}
use Rattle.std.proofs.lemmas.Int.{to_z-of_z}
use Rattle.std.proofs.lemmas.List.{take_all}
use mir.Val.{SFits}
use mir.Syntax.{w64}
use Rattle.poly_area.specs.declared.edges.Edge.{Edge}
use Rattle.poly_area.specs.Crossing.{xor}
use Rattle.poly_area.specs.Area.{edges_of, crosses, on_row, odd_of}
use Rattle.poly_area.proofs.BlockSteps.{odd_block}
use Rattle.poly_area.specs.Rows.{column_x, running}
use Rattle.poly_area.proofs.Running.{one_more}
use Rattle.poly_area.proofs.marks.flip_edges.Goals as goal

pub all-preserved : goal.all-preserved
all-preserved c =
    let g1 : SFits w64 c.args.y = c.ranges.y in
    let g2 : SFits w64 c.args.west = c.ranges.west in
    let g3 : SFits w64 c.args.pitch = c.ranges.pitch in
    let before = simp to_z-of_z at c.all.invariant in
    let step = simp to_z-of_z at c.flip_block.ensures in
    simp to_z-of_z (λ k l. one_more _ _ _ _ _ _ (before k (search rules)) (step k l) (odd_block (crosses (on_row (column_x c.args.west c.args.pitch k) c.args.y)) (edges_of c.args.poly.now) c.all.block))

pub returns : goal.returns
returns c =
    let g1 : SFits w64 c.args.y = c.ranges.y in
    let g2 : SFits w64 c.args.west = c.ranges.west in
    let g3 : SFits w64 c.args.pitch = c.ranges.pitch in
    let all : length (edges_of c.args.poly.now) ≤ 16 * c.all.block = search rules in
    let before = simp to_z-of_z at c.all.invariant in
    λ k l. before k l
    ∙ ap (λ (es : List Edge). xor (running c.args.marks.now k) (odd_of (crosses (on_row (column_x c.args.west c.args.pitch k) c.args.y)) es)) (take_all (16 * c.all.block) (edges_of c.args.poly.now) all)
