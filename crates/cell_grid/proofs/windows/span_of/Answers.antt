use Rattle.std.proofs.Common.{pos, ◌+ℤ◌, refl, rules}
use Rattle.std.proofs.lemmas.Int.{to_z-of_z}
use mir.Val.{SFits}
use mir.Syntax.{w32, w64}
use Rattle.cell_grid.proofs.WindowLaws.{in_span}
use Rattle.cell_grid.proofs.windows.span_of.Goals as goal

pub returns-clause-holds : goal.returns-clause-holds
returns-clause-holds c k l =
    let a : SFits w32 c.args.low = c.ranges.low in
    let b : SFits w32 c.args.high = c.ranges.high in
    let d : SFits w32 c.args.first = c.ranges.first in
    let e : SFits w64 c.args.low = search rules in
    let f : SFits w64 c.args.first = search rules in
    let g : SFits w64 c.args.high = search rules in
    let h : SFits w64 (c.args.high +ℤ pos 1) = search rules in
    in_span c.steps_to.result c.steps_to-2.result k (c.args.first +ℤ pos k) c.args.low c.args.high c.args.low (c.args.high +ℤ pos 1) (simp to_z-of_z at (c.steps_to.ensures.past k l))
    (simp to_z-of_z at (c.steps_to-2.ensures.past k l)) refl refl
