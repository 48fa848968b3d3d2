use Rattle.std.proofs.Common.{rules}
use Rattle.std.proofs.lemmas.Int.{to_z-of_z}
use mir.Val.{SFits}
use mir.Syntax.{w32, w64}
use Rattle.copper_cover.proofs.Painting.{in_window}
use Rattle.copper_cover.proofs.cells.window_round.Goals as goal

pub returns-clause-holds : goal.returns-clause-holds
returns-clause-holds c d i =
    let f = c.args.frame in
    let b = c.args.bounds in
    let a1 : SFits w64 c.args.h = c.ranges.h in
    let a2 : SFits w64 f.pitch = search rules in
    let a3 : SFits w32 f.i0 = search rules in
    let a4 : SFits w32 f.j0 = search rules in
    let a5 : SFits w64 b.x0 = search rules in
    let a6 : SFits w64 b.x1 = search rules in
    let a7 : SFits w64 b.y0 = search rules in
    let a8 : SFits w64 b.y1 = search rules in
    let b1 : SFits w32 c.cells_within-cells.result.i0 = search rules in
    let b2 : SFits w32 c.cells_within-cells.result.i1 = search rules in
    let b3 : SFits w32 c.cells_within-cells.result.j0 = search rules in
    let b4 : SFits w32 c.cells_within-cells.result.j1 = search rules in
    in_window f c.args.h b c.cells_within-cells.result c.window_of.result d (simp to_z-of_z at c.cells_within-cells.ensures.centres) (c.window_of.ensures.holds d i)
