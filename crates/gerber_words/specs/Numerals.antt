-- Digits of numbers and coordinates.
use Rattle.std.specs.Prelude.{ℕ, List, length, Option, Some, None, Bool, not, if◌then◌else◌, ◌&&◌, ◌||◌, ◌==◌, nat_lt, nat_le}
use Rattle.std.specs.Char.{is_ascii_digit}
use Rattle.std.specs.List.{list_all, position_or_len}
use Rattle.std.specs.Str.Parse.{digits_value}
use Rattle.fixed_num.specs.Decimal.{signed}
use Rattle.fixed_num.specs.Spelled.{sign_of, behind_sign}
use Rattle.fixed_num.specs.Numerals.{is_numeral, short_value}
use Rattle.gerber_words.specs.declared.commands.Digits.{Digits}

-- the number that at most 18 digits write
unfoldable pub number_of : List ℕ → Option ℕ
number_of text = if is_numeral text && nat_le (length text) 18 then Some (short_value text) else None

-- an optional sign and digits
unfoldable pub digits_of : List ℕ → Option Digits
digits_of text =
    if is_numeral (behind_sign text) then Some (record { count = length (behind_sign text); value = signed (sign_of text) (short_value (behind_sign text)) })
    else None

-- a byte of a coordinate
abbrev pub is_signed_digit : ℕ → Bool
is_signed_digit b = is_ascii_digit b || (b == 43) || (b == 45)

-- how many digits and signs stand in front
unfoldable pub signed_before : List ℕ → ℕ
signed_before text = position_or_len (λ b. not (is_signed_digit b)) text
