use Rattle.std.proofs.Common.{◌∙◌}
use Rattle.gerber_image.proofs.Counts.{contour_corners}
use Rattle.gerber_image.proofs.contour.Contour.corners.Goals as goal

pub returns-then-count-ge3 : goal.returns-then-count-ge3
returns-then-count-ge3 c = contour_corners c.args.self.now c.deref.result.now c.kept_points-count.result (c.deref.ensures.value ∙ c.self.view_is) c.kept_points-count.ensures.count c.if-count-ge3.true
