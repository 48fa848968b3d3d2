use Rattle.std.proofs.Common.{◌≡◌, ℤ, ◌+ℤ◌, rules}
use Rattle.std.proofs.lemmas.Int.{to_z-of_z}
use mir.Val.{SFits}
use mir.Syntax.{w64}
use Rattle.plane_geom.proofs.cells.behind.Goals as goal

both : (a b x y : ℤ) → a ≡ x → b ≡ y → a +ℤ b ≡ x +ℤ y
both a b x y e f = cc

pub returns-clause-value : goal.returns-clause-value
returns-clause-value c =
    let a : SFits w64 c.args.a = c.ranges.a in
    let b : SFits w64 c.args.b = c.ranges.b in
    let d : SFits w64 c.args.d = c.ranges.d in
    let l : SFits w64 c.greatest.result = search rules in
    let h : SFits w64 c.half_cut.result = search rules in
    let s : SFits w64 (c.greatest.result +ℤ c.half_cut.result) = search rules in
    simp to_z-of_z (both _ _ _ _ (simp to_z-of_z at c.greatest.ensures.value) (simp to_z-of_z at c.half_cut.ensures.value))
