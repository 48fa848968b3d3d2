use Rattle.gerber_image.proofs.Points.{last_at}
use Rattle.std.proofs.Common.{sym, ◌∙◌}
use Rattle.gerber_image.proofs.contour.last_behind.Goals as goal

pub returns-else-is_empty : goal.returns-else-is_empty
returns-else-is_empty c = last_at c.args.p c.args.points.now _ (sym c.is_empty.ensures ∙ c.if-is_empty.false)
