use Rattle.std.proofs.Common.{rules}
use Rattle.std.proofs.lemmas.Int.{to_z-of_z}
use mir.Val.{SFits}
use mir.Syntax.{w32}
use Rattle.cell_grid.proofs.WindowLaws.{in_window}
use Rattle.cell_grid.proofs.windows.window_of.Goals as goal

pub returns-clause-holds : goal.returns-clause-holds
returns-clause-holds c =
    let f = c.args.frame in
    let b = c.args.cells in
    let a1 : SFits w32 f.i0 = search rules in
    let a2 : SFits w32 f.j0 = search rules in
    let a3 : SFits w32 b.i0 = search rules in
    let a4 : SFits w32 b.i1 = search rules in
    let a5 : SFits w32 b.j0 = search rules in
    let a6 : SFits w32 b.j1 = search rules in
    in_window f b c.span_of-columns.result c.span_of-rows.result (λ k l. simp to_z-of_z at (c.span_of-columns.ensures.holds k l)) (λ k l. simp to_z-of_z at (c.span_of-rows.ensures.holds k l))
