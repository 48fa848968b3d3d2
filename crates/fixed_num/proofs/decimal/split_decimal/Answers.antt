use Rattle.std.proofs.Common.{rules}
use Rattle.fixed_num.specs.Shown.{decimal_shown}
use Rattle.fixed_num.proofs.SpelledLaws.{from_test}
use Rattle.fixed_num.proofs.decimal.split_decimal.Goals as goal

pub returns-then-is_decimal-clause-digits : goal.returns-then-is_decimal-clause-digits
returns-then-is_decimal-clause-digits c = from_test (decimal_shown c.parts_of-text.result) (search rules)
