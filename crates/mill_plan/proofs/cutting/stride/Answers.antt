use Rattle.std.proofs.Common.{pos, ◌*ℤ◌, rules}
use Rattle.std.proofs.lemmas.Int.{to_z-of_z}
use mir.Syntax.{w64}
use mir.Val.{SFits}
use Rattle.board_base.specs.Lattice.{half_diagonal_of}
use Rattle.mill_plan.proofs.StepLaws.{stride_by}
use Rattle.mill_plan.proofs.cutting.stride.Goals as goal

pub returns : goal.returns
returns c =
    let pitch : SFits w64 c.args.pitch = c.ranges.pitch in
    let radius : SFits w64 c.args.radius = c.ranges.radius in
    let pitches : SFits w64 c.pitches.result = search rules in
    let twice : SFits w64 (pos 2 *ℤ c.pitches.result) = search rules in
    let rows : SFits w64 c.less_overlap-rows.result = search rules in
    stride_by c.args.pitch (half_diagonal_of c.args.pitch) c.args.radius c.args.overlap c.max.result c.less_overlap-rows.result c.pitches.result c.requires.overlap (simp to_z-of_z at c.pitches.ensures.value) (simp to_z-of_z at c.less_overlap-rows.ensures.value) (simp to_z-of_z at c.max.ensures)
