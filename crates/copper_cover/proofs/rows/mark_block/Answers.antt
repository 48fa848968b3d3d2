use Rattle.std.proofs.Common.{◌≡◌, ◌∙◌, true, sym, rules}
use Rattle.std.proofs.lemmas.Int.{to_z-of_z}
use mir.Val.{SFits}
use mir.Syntax.{w64}
use Rattle.poly_area.specs.Area.{edges_of}
use Rattle.poly_area.specs.Blocks.{block_edges}
use Rattle.copper_cover.specs.Rows.{centre_in, misses}
use Rattle.copper_cover.proofs.ColumnLaws.{level, at_height, none_near}
use Rattle.copper_cover.proofs.RowLaws.{unmarked}
use Rattle.copper_cover.proofs.rows.mark_block.Goals as goal

pub misses_row-requires-clause-y : goal.misses_row-requires-clause-y
misses_row-requires-clause-y c =
    let f : SFits w64 c.args.row.y = search rules in
    simp to_z-of_z (level c.args.row _ c.requires.row)

pub returns-then-misses_row : goal.returns-then-misses_row
returns-then-misses_row c k l =
    let f1 : SFits w64 c.args.row.y = search rules in
    let f2 : SFits w64 c.args.d = c.ranges.d in
    let f3 : SFits w64 c.block-bounds.result.low = search rules in
    let f4 : SFits w64 c.block-bounds.result.high = search rules in
    let b = c.block-bounds.result in
    let m : misses c.args.row.y c.args.d b.low b.high ≡ true = sym (simp to_z-of_z at c.misses_row.ensures) ∙ c.if-misses_row.true in
    sym (unmarked _ _ (none_near (centre_in c.args.row k) b (block_edges (edges_of c.args.poly.now) c.args.block) c.args.row.y c.args.d (at_height c.args.row _ k c.requires.row) c.requires.d.low c.block-bounds.ensures.within m))
