use Rattle.std.proofs.Common.{sym, ◌∙◌}
use Rattle.gerber_words.proofs.NumeralLaws.{all_digits}
use Rattle.gerber_words.proofs.numerals.is_numeral.Goals as goal

pub returns-then-text-gt0-clause-digits : goal.returns-then-text-gt0-clause-digits
returns-then-text-gt0-clause-digits c = λ e. all_digits c.args.text.now (sym c.are_digits.ensures ∙ e)
