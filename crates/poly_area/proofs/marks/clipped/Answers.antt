use Rattle.std.proofs.Common.{rules}
use Rattle.std.proofs.lemmas.Int.{to_z-of_z}
use mir.Val.{SFits}
use mir.Syntax.{w32}
use Rattle.poly_area.proofs.Running.{clip_none, clip_some, clip_all}
use Rattle.poly_area.proofs.marks.clipped.Goals as goal

pub returns-then-column-le0 : goal.returns-then-column-le0
returns-then-column-le0 c =
    let g : SFits w32 c.args.column = c.ranges.column in
    λ k l. clip_none c.args.column k (search rules)

pub returns-then-k-width : goal.returns-then-k-width
returns-then-k-width c =
    let g : SFits w32 c.args.column = c.ranges.column in
    λ k l. clip_some c.args.column c.number_of-k.result k (simp to_z-of_z at c.number_of-k.ensures)

pub returns-else-k-width : goal.returns-else-k-width
returns-else-k-width c =
    let g : SFits w32 c.args.column = c.ranges.column in
    λ k l. clip_all c.args.column c.number_of-k.result c.args.width k (simp to_z-of_z at c.number_of-k.ensures) l (search rules)
