use Rattle.std.proofs.Common.{◌≡◌, ℤ, ◌+ℤ◌, ◌-ℤ◌, rules}
use Rattle.std.proofs.lemmas.Int.{to_z-of_z}
use mir.Val.{SFits}
use mir.Syntax.{w64}
use Rattle.board_base.specs.Lattice.{half_of}
use Rattle.poly_area.proofs.marks.limit_of.Goals as goal

further : (a h k : ℤ) → h ≡ k → a +ℤ h ≡ a +ℤ k
further a h k e = cc

pub returns-clause-value : goal.returns-clause-value
returns-clause-value c =
    let x : SFits w64 c.args.x = c.ranges.x in
    let w : SFits w64 c.args.west = c.ranges.west in
    let p : SFits w64 c.args.pitch = c.ranges.pitch in
    let h : SFits w64 c.half.result = search rules in
    let d : SFits w64 (c.args.x -ℤ c.args.west) = search rules in
    let s : SFits w64 ((c.args.x -ℤ c.args.west) +ℤ c.half.result) = search rules in
    simp to_z-of_z (further (c.args.x -ℤ c.args.west) c.half.result (half_of c.args.pitch) (simp to_z-of_z at c.half.ensures.value))
