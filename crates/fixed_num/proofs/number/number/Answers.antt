use Rattle.std.proofs.Common.{arith, sym, ◌∙◌, ◌+◌}
use Rattle.fixed_num.proofs.DigitLaws.{digit_in, more_digit, more_room}
use Rattle.fixed_num.proofs.number.number.Goals as goal

pub overflow_sub-n : goal.overflow_sub-n
overflow_sub-n c = (digit_in c.args.digits.now c.loop-b.b-index (omega arith) c.requires.digits).0

pub loop-b-preserved : goal.loop-b-preserved
loop-b-preserved c =
    let digit = digit_in c.args.digits.now c.loop-b.b-index (omega arith) c.requires.digits in
    record {
      leads = sym (more_digit c.loop-b.n c.args.digits.now c.loop-b.b-index (omega arith) c.requires.digits) ∙ c.loop-b.invariant.leads;
      small = more_room c.loop-b.n (c.args.start + 1) c.loop-b.b-index _ c.loop-b.invariant.small digit.1;
    }
