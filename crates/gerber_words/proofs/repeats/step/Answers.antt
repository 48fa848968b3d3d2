use Rattle.std.proofs.Common.{arith}
use Rattle.std.proofs.lemmas.Int.{ints}
use Rattle.fixed_num.proofs.SizeLaws.{cut_small}
use Rattle.gerber_words.proofs.repeats.step.Goals as goal

pub returns-then-step-ge0-clause-size : goal.returns-then-step-ge0-clause-size
returns-then-step-ge0-clause-size c = omega (arith, ints, cut_small 9 c.args.text.now c.in-Ok.step (omega arith) c.in-Ok.ensures)
