use Rattle.std.proofs.Common.{pos, ◌-ℤ◌, ◌*ℤ◌, refl, rules}
use Rattle.std.proofs.lemmas.Int.{to_z-of_z}
use mir.Val.{SFits}
use mir.Syntax.{w64}
use Rattle.copper_cover.specs.Rows.{is_under}
use Rattle.copper_cover.proofs.columns.is_under.Goals as goal

pub returns : goal.returns
unfolding is_under
returns c =
    let f1 : SFits w64 c.args.y = c.ranges.y in
    let f2 : SFits w64 c.args.a = c.ranges.a in
    let f3 : SFits w64 c.args.d = c.ranges.d in
    let f4 : SFits w64 (pos 2 *ℤ c.args.y) = search rules in
    let f5 : SFits w64 (pos 2 *ℤ c.args.a) = search rules in
    let f6 : SFits w64 (pos 2 *ℤ c.args.y -ℤ c.args.d) = search rules in
    simp to_z-of_z refl
