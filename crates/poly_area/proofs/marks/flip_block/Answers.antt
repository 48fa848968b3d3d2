use Rattle.std.proofs.Common.{◌≡◌, ◌||◌, ◌∙◌, true, int_le, int_lt, ap, sym, rules}
use Rattle.std.proofs.lemmas.Int.{to_z-of_z}
use mir.Val.{SFits}
use mir.Syntax.{w64}
use Rattle.poly_area.specs.Crossing.{xor}
use Rattle.poly_area.specs.Area.{edges_of}
use Rattle.poly_area.specs.Blocks.{block_edges}
use Rattle.poly_area.specs.Rows.{column_x, running}
use Rattle.poly_area.proofs.BlockSteps.{none_cross}
use Rattle.poly_area.proofs.Running.{xor_false}
use Rattle.poly_area.proofs.marks.flip_block.Goals as goal

pub returns-then-passes : goal.returns-then-passes
returns-then-passes c =
    let g1 : SFits w64 c.args.y = c.ranges.y in
    let g2 : SFits w64 c.args.west = c.ranges.west in
    let g3 : SFits w64 c.args.pitch = c.ranges.pitch in
    let g4 : SFits w64 c.block.result.low = search rules in
    let g5 : SFits w64 c.block.result.high = search rules in
    let b = c.block.result in
    let side : (int_le b.high c.args.y || int_lt c.args.y b.low) ≡ true = sym (simp to_z-of_z at c.passes.ensures) ∙ c.if-passes.true in
    λ k l. xor_false (running c.args.marks.now k)
    ∙ ap (xor (running c.args.marks.now k)) (sym (none_cross b (block_edges (edges_of c.args.poly.now) c.args.block) c.args.y (column_x c.args.west c.args.pitch k) c.block.ensures.within side))
