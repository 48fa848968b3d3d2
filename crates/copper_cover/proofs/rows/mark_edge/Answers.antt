use Rattle.std.proofs.Common.{◌≡◌, ◌||◌, ◌∙◌, true, sym, ap, get_or, false, rules}
use Rattle.std.proofs.lemmas.Int.{to_z-of_z}
use mir.Val.{SFits}
use mir.Syntax.{w64}
use Rattle.board_base.specs.declared.places.Point.{Point}
use Rattle.board_base.specs.Near.{near_of}
use Rattle.poly_area.specs.Area.{edge_at}
use Rattle.copper_cover.specs.Rows.{centre_in, misses}
use Rattle.copper_cover.proofs.ColumnLaws.{level, at_height, missed}
use Rattle.copper_cover.proofs.RowLaws.{unmarked}
use Rattle.copper_cover.proofs.rows.mark_edge.Goals as goal

pub misses_row-requires-clause-y : goal.misses_row-requires-clause-y
misses_row-requires-clause-y c =
    let f : SFits w64 c.args.row.y = search rules in
    simp to_z-of_z (level c.args.row _ c.requires.row)

pub returns-then-misses_row : goal.returns-then-misses_row
returns-then-misses_row c k l =
    let f1 : SFits w64 c.args.row.y = search rules in
    let f2 : SFits w64 c.args.d = c.ranges.d in
    let f3 : SFits w64 c.edge.result.0.y = search rules in
    let f4 : SFits w64 c.edge.result.1.y = search rules in
    let e = edge_at c.args.poly.now c.args.edge in
    let m : misses c.args.row.y c.args.d c.edge.result.0.y c.edge.result.1.y ≡ true = sym (simp to_z-of_z at c.misses_row.ensures) ∙ c.if-misses_row.true in
    let far = missed (centre_in c.args.row k) c.edge.result.0 c.edge.result.1 c.args.row.y c.args.d (at_height c.args.row _ k c.requires.row) c.requires.d.low m in
    sym (unmarked _ _
    (ap (λ (p : Point). near_of (centre_in c.args.row k) p e.to c.args.d) (sym c.edge.ensures.from)
    ∙ ap (λ (p : Point). near_of (centre_in c.args.row k) c.edge.result.0 p c.args.d) (sym c.edge.ensures.to) ∙ far))

pub returns : goal.returns
returns c k l =
    let f2 : SFits w64 c.args.d = c.ranges.d in
    let e = edge_at c.args.poly.now c.args.edge in
    (simp to_z-of_z at (c.mark_near.ensures k l))
    ∙ ap (λ (p : Point). get_or c.args.bits.now k false || near_of (centre_in c.args.row k) p c.edge.result.1 c.args.d) c.edge.ensures.from
    ∙ ap (λ (p : Point). get_or c.args.bits.now k false || near_of (centre_in c.args.row k) e.from p c.args.d) c.edge.ensures.to
