use Rattle.std.proofs.Common.{arith, sym, ◌∙◌}
use Rattle.fixed_num.proofs.DigitLaws.{digit_in, more_digit, more_room}
use Rattle.gerber_words.proofs.NumeralLaws.{fits, fits_all}
use Rattle.gerber_words.proofs.numerals.value_of.Goals as goal

pub overflow_sub-n : goal.overflow_sub-n
overflow_sub-n c = (digit_in c.args.digits.now c.loop-b.b-index (omega arith) c.requires.digits).0

pub overflow_mul-n : goal.overflow_mul-n
overflow_mul-n c = omega (arith, fits c.loop-b.n c.loop-b.b-index c.loop-b.invariant.small (omega (arith, c.requires.few)))

pub overflow_add-n : goal.overflow_add-n
overflow_add-n c =
    let digit = digit_in c.args.digits.now c.loop-b.b-index (omega arith) c.requires.digits in
    omega (arith, digit.1, fits c.loop-b.n c.loop-b.b-index c.loop-b.invariant.small (omega (arith, c.requires.few)))

pub loop-b-preserved : goal.loop-b-preserved
loop-b-preserved c =
    let digit = digit_in c.args.digits.now c.loop-b.b-index (omega arith) c.requires.digits in
    record {
      leads = sym (more_digit c.loop-b.n c.args.digits.now c.loop-b.b-index (omega arith) c.requires.digits) ∙ c.loop-b.invariant.leads;
      small = more_room c.loop-b.n 1 c.loop-b.b-index _ c.loop-b.invariant.small digit.1;
    }

pub returns-clause-bound : goal.returns-clause-bound
returns-clause-bound c = fits_all c.loop-b.n c.loop-b.b-index c.loop-b.invariant.small (omega (arith, c.requires.few))
