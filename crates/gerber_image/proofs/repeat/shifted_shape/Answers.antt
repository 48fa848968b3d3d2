use Rattle.std.proofs.Common.{sym, ◌∙◌}
use Rattle.gerber_image.proofs.Shifts.{shifted_some, not_none, the_shifted}
use Rattle.gerber_image.proofs.repeat.shifted_shape.Goals as goal

pub unreachable-requires : goal.unreachable-requires
unreachable-requires c = not_none _ (sym c.in-None.is ∙ c.in_ok-shape.ensures ∙ shifted_some (record { dx = c.args.dx; dy = c.args.dy }) c.args.shape.now c.requires.inside)

pub returns : goal.returns
returns c = the_shifted _ _ (sym c.in-Some.is ∙ c.in_ok-shape.ensures ∙ shifted_some (record { dx = c.args.dx; dy = c.args.dy }) c.args.shape.now c.requires.inside)
