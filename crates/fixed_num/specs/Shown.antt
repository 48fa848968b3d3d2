-- What contracts see of a decimal in its text.
use Rattle.std.specs.Option.{option_map}
use Rattle.fixed_num.specs.Decimal.{Sign, none, plus, minus, Decimal}
use Rattle.fixed_num.specs.declared.decimal.SignMark.{SignMark}
use Rattle.fixed_num.specs.declared.decimal.SignMark.TheVariants.{Absent, Plus, Minus}
use Rattle.fixed_num.specs.declared.decimal.DecimalText.{DecimalText}

-- the sign of a mark
abbrev pub sign_shown : SignMark → Sign
sign_shown Absent = none
sign_shown Plus = plus
sign_shown Minus = minus

-- the decimal that the parts of a text are
abbrev pub decimal_shown : DecimalText → Decimal
decimal_shown t = record { sign = sign_shown t.sign; whole = t.whole.now; fraction = option_map (λ digits. digits.now) t.fraction }
