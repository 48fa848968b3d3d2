use Rattle.std.proofs.Common.{◌∙◌, ap, sym}
use Rattle.std.specs.Prelude.{is_none}
use Rattle.gerber_image.proofs.Shifts.{point_tells}
use Rattle.gerber_image.proofs.repeat.point_leaves.Goals as goal

pub returns-in-Some : goal.returns-in-Some
returns-in-Some c = ap is_none (sym c.in-Some.is ∙ c.moved.ensures.value) ∙ point_tells (record { dx = c.args.dx; dy = c.args.dy }) c.args.p

pub returns-in-None : goal.returns-in-None
returns-in-None c = ap is_none (sym c.in-None.is ∙ c.moved.ensures.value) ∙ point_tells (record { dx = c.args.dx; dy = c.args.dy }) c.args.p
