use Rattle.std.proofs.Common.{◌∙◌}
use Rattle.gerber_image.proofs.Shifts.{leaves_tells}
use Rattle.gerber_image.proofs.repeat.shape_leaves.Goals as goal

pub returns : goal.returns
returns c = c.leaves.ensures ∙ leaves_tells (record { dx = c.args.dx; dy = c.args.dy }) c.args.shape.now
