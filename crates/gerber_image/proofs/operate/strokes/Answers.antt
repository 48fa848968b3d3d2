use Rattle.std.proofs.Common.{to_z-of_z, SFits, w64}
use Rattle.gerber_image.proofs.Points.{all_stroked}
use Rattle.gerber_image.proofs.operate.strokes.Goals as goal

pub returns : goal.returns
returns c = let d_in : SFits w64 c.args.d = c.ranges.d in all_stroked c.args.d c.args.points.now c.points.k c.points.shape c.points-test.false c.points.auto.k (simp to_z-of_z at c.points.invariant)
