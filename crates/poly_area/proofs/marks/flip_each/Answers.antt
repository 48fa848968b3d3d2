use Rattle.std.proofs.Common.{◌<◌, ◌≤◌, ◌+◌, ◌*◌, ◌≡◌, ◌∙◌, List, min, length, ap, rules}
use Rattle.std.proofs.lemmas.Int.{to_z-of_z}
use mir.Val.{SFits}
use mir.Syntax.{w64}
use Rattle.poly_area.specs.declared.edges.Edge.{Edge}
use Rattle.poly_area.specs.Crossing.{xor}
use Rattle.poly_area.specs.Area.{edges_of, crosses, on_row, odd_of}
use Rattle.poly_area.proofs.BlockSteps.{odd_next, block_taken}
use Rattle.poly_area.specs.Rows.{column_x, running}
use Rattle.poly_area.proofs.Running.{one_more}
use Rattle.poly_area.proofs.marks.flip_each.Goals as goal

pub edges-preserved : goal.edges-preserved
edges-preserved c =
    let g1 : SFits w64 c.args.y = c.ranges.y in
    let g2 : SFits w64 c.args.west = c.ranges.west in
    let g3 : SFits w64 c.args.pitch = c.ranges.pitch in
    let inside : c.edges.edge < length (edges_of c.args.poly.now) = search rules in
    let before = simp to_z-of_z at c.edges.invariant.turned in
    let step = simp to_z-of_z at c.flip_edge.ensures in
    record {
      turned = simp to_z-of_z (λ k l. one_more _ _ _ _ _ _ (before k (search rules)) (step k l) (odd_next (crosses (on_row (column_x c.args.west c.args.pitch k) c.args.y)) (edges_of c.args.poly.now) (16 * c.args.block) c.edges.edge _ c.edges.invariant.from inside));
      from = search rules;
      end = search rules;
    }

pub returns : goal.returns
returns c =
    let g1 : SFits w64 c.args.y = c.ranges.y in
    let g2 : SFits w64 c.args.west = c.ranges.west in
    let g3 : SFits w64 c.args.pitch = c.ranges.pitch in
    let done : c.edges.edge ≡ min (16 * c.args.block + 16) (length (edges_of c.args.poly.now)) = search rules in
    let from : 16 * c.args.block ≤ length (edges_of c.args.poly.now) = search rules in
    let before = simp to_z-of_z at c.edges.invariant.turned in
    λ k l. before k l
    ∙ ap (λ (es : List Edge). xor (running c.args.marks.now k) (odd_of (crosses (on_row (column_x c.args.west c.args.pitch k) c.args.y)) es)) (block_taken (edges_of c.args.poly.now) (16 * c.args.block) c.edges.edge done from)
