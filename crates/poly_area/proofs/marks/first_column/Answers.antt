use Rattle.std.proofs.Common.{◌∙◌, rules}
use Rattle.std.proofs.lemmas.Int.{to_z-of_z}
use mir.Val.{SFits}
use mir.Syntax.{w32, w64}
use Rattle.poly_area.proofs.Running.{column_is}
use Rattle.poly_area.proofs.marks.first_column.Goals as goal

pub returns : goal.returns
returns c =
    let x : SFits w64 c.args.x = c.ranges.x in
    let w : SFits w64 c.args.west = c.ranges.west in
    let p : SFits w64 c.args.pitch = c.ranges.pitch in
    let l : SFits w64 c.limit_of-limit.result = search rules in
    let i : SFits w32 c.first_at.result = search rules in
    λ k h. (simp to_z-of_z at c.clipped.ensures) k h
    ∙ column_is c.args.pitch c.first_at.result c.limit_of-limit.result c.args.x c.args.west k (simp to_z-of_z at c.limit_of-limit.ensures.value) (simp to_z-of_z at c.first_at.ensures.first)
