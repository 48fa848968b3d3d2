use Rattle.std.proofs.Common.{length}
use Rattle.gerber_words.proofs.NumeralLaws.{some_digits}
use Rattle.gerber_words.proofs.numerals.short_value.Goals as goal

pub returns-else-digits-le18-clause-written : goal.returns-else-digits-le18-clause-written
returns-else-digits-le18-clause-written c = some_digits (length c.args.digits.now)
