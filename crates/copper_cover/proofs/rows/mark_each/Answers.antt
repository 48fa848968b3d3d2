use Rattle.std.proofs.Common.{◌<◌, ◌≤◌, ◌+◌, ◌*◌, ◌≡◌, ◌||◌, ◌∙◌, List, min, length, get_or, false, ap, rules}
use Rattle.std.proofs.lemmas.Int.{to_z-of_z}
use Rattle.std.specs.List.{list_any}
use mir.Val.{SFits}
use mir.Syntax.{w64}
use Rattle.poly_area.specs.declared.edges.Edge.{Edge}
use Rattle.poly_area.specs.Area.{edges_of, is_near}
use Rattle.poly_area.proofs.BlockSteps.{any_next, block_taken}
use Rattle.copper_cover.specs.Rows.{centre_in}
use Rattle.copper_cover.proofs.RowLaws.{or_more, or_none}
use Rattle.copper_cover.proofs.rows.mark_each.Goals as goal

pub edges-init : goal.edges-init
edges-init c = let f : SFits w64 c.args.d = c.ranges.d in record {
  marked = simp to_z-of_z (λ k l. or_none (centre_in c.args.row k) c.args.d (16 * c.args.block) (edges_of c.args.poly.now) (get_or c.args.bits.now k false));
  from = search rules;
  end = search rules;
}

pub edges-preserved : goal.edges-preserved
edges-preserved c =
    let f : SFits w64 c.args.d = c.ranges.d in
    let inside : c.edges.edge < length (edges_of c.args.poly.now) = search rules in
    let before = simp to_z-of_z at c.edges.invariant.marked in
    let step = simp to_z-of_z at c.mark_edge.ensures in
    record {
      marked = simp to_z-of_z (λ k l. or_more _ _ _ _ _ _ (before k (search rules)) (step k l) (any_next (is_near (centre_in c.args.row k) c.args.d) (edges_of c.args.poly.now) (16 * c.args.block) c.edges.edge _ c.edges.invariant.from inside));
      from = search rules;
      end = search rules;
    }

pub returns : goal.returns
returns c =
    let f : SFits w64 c.args.d = c.ranges.d in
    let done : c.edges.edge ≡ min (16 * c.args.block + 16) (length (edges_of c.args.poly.now)) = search rules in
    let from : 16 * c.args.block ≤ length (edges_of c.args.poly.now) = search rules in
    let before = simp to_z-of_z at c.edges.invariant.marked in
    λ k l. before k l ∙ ap (λ (es : List Edge). get_or c.args.bits.now k false || list_any (is_near (centre_in c.args.row k) c.args.d) es) (block_taken (edges_of c.args.poly.now) (16 * c.args.block) c.edges.edge done from)
