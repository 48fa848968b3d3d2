use Rattle.poly_area.proofs.Running.{flip_step}
use Rattle.poly_area.proofs.marks.flip.Goals as goal

pub returns-then-c-marks : goal.returns-then-c-marks
returns-then-c-marks c = λ k l. flip_step c.args.marks.now c.args.c k c.if-c-marks.true
