use Rattle.std.proofs.Common.{arith}
use borrow.Author.Differences.{ints}
use Rattle.fixed_num.proofs.SizeLaws.{cut_small}
use Rattle.apertures.proofs.texts.value_of.Goals as goal

pub returns-in-Ok-clause-bound : goal.returns-in-Ok-clause-bound
returns-in-Ok-clause-bound c = omega (arith, ints, cut_small 9 c.args.text.now c.in-Ok.value (omega arith) c.in-Ok.ensures)
