use Rattle.std.proofs.Common.{rules}
use Rattle.std.proofs.lemmas.Int.{to_z-of_z}
use mir.Val.{SFits}
use mir.Syntax.{w32, w64}
use Rattle.copper_cover.specs.Rows.{east_of}
use Rattle.copper_cover.proofs.ColumnLaws.{in_box}
use Rattle.copper_cover.proofs.columns.columns_near.Goals as goal

pub returns-clause-holds : goal.returns-clause-holds
returns-clause-holds c k l n =
    let a : SFits w64 c.args.row.pitch = search rules in
    let b : SFits w64 c.args.d = c.ranges.d in
    let d : SFits w32 c.args.row.first.i = search rules in
    let e : SFits w32 c.reach-cells.result.i0 = search rules in
    let f : SFits w32 c.reach-cells.result.i1 = search rules in
    in_box c.args.row k c.reach-cells.result c.span_of.result ((simp to_z-of_z at c.reach-cells.ensures.holds) (east_of c.args.row.first k) n) (simp to_z-of_z at (c.span_of.ensures.holds k l))
