use Rattle.std.proofs.Common.{sym, ◌∙◌}
use Rattle.gerber_image.proofs.Shifts.{too_far, too_far_up}
use Rattle.gerber_image.proofs.repeat.ShiftMotion.moved.Goals as goal

pub returns-then-not-is_short-clause-value : goal.returns-then-not-is_short-clause-value
returns-then-not-is_short-clause-value c = too_far c.args.self.now c.args.p c.requires.place (sym c.is_short.ensures ∙ c.if-not-is_short.true)

pub returns-then-not-is_short-2-clause-value : goal.returns-then-not-is_short-2-clause-value
returns-then-not-is_short-2-clause-value c = too_far_up c.args.self.now c.args.p c.requires.place (sym c.is_short-2.ensures ∙ c.if-not-is_short-2.true)
