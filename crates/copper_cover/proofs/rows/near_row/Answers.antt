use Rattle.std.proofs.Common.{◌<◌, ◌≤◌, ◌*◌, ◌||◌, Bool, length, sym, ap, ◌∙◌, rules}
use Rattle.std.proofs.lemmas.Int.{to_z-of_z}
use Rattle.std.proofs.lemmas.List.{take_all}
use Rattle.std.specs.List.{list_any}
use mir.Val.{SFits}
use mir.Syntax.{w64}
use Rattle.poly_area.specs.Area.{edges_of, is_near}
use Rattle.poly_area.specs.Blocks.{block_edges}
use Rattle.poly_area.proofs.BlockSteps.{any_block}
use Rattle.copper_cover.specs.Rows.{centre_in}
use Rattle.copper_cover.proofs.RowLaws.{off_at}
use Rattle.copper_cover.proofs.rows.near_row.Goals as goal

pub all-init : goal.all-init
all-init c k l = off_at _ _ k c.clear.ensures

pub all-preserved : goal.all-preserved
all-preserved c k l =
    let f : SFits w64 c.args.d = c.ranges.d in
    let before : k < length c.all.bits = search rules in
    let near = is_near (centre_in c.args.row k) c.args.d in
    let es = edges_of c.args.poly.now in
    simp to_z-of_z
    ((simp to_z-of_z at (c.mark_block.ensures k l)) ∙ ap (λ (b : Bool). b || list_any near (block_edges es c.all.block)) (simp to_z-of_z at (c.all.invariant k before)) ∙ sym (any_block near es c.all.block))

pub returns : goal.returns
returns c k l =
    let f : SFits w64 c.args.d = c.ranges.d in
    let all : length (edges_of c.args.poly.now) ≤ 16 * c.all.block = search rules in
    (simp to_z-of_z at (c.all.invariant k l)) ∙ ap (list_any (is_near (centre_in c.args.row k) c.args.d)) (take_all (16 * c.all.block) (edges_of c.args.poly.now) all)
