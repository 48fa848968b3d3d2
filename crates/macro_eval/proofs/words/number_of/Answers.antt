use Rattle.std.proofs.Common.{sym, ◌∙◌}
use Rattle.fixed_num.proofs.DigitLaws.{digit_test}
use Rattle.macro_eval.proofs.words.number_of.Goals as goal

pub value_of-requires : goal.value_of-requires
value_of-requires c = digit_test.to c.args.bytes.now (sym c.are_digits.ensures ∙ c.if-are_digits.true)
