-- The decimal that bytes spell, where they spell one.
use Rattle.std.specs.Prelude.{◌≡◌, ◌↔◌, ℕ, ◌+◌, List, [], ◌∷◌, length, take, drop, Bool, if◌then◌else◌, ◌&&◌, ◌==◌, nat_lt, Option, Some, None}
use Rattle.std.specs.Char.{is_ascii_digit}
use Rattle.std.specs.List.{list_all, position}
use Rattle.fixed_num.specs.Decimal.{Sign, none, plus, minus, sign_text, Decimal, fraction_of, decimal_text, IsDecimal}

-- the sign that bytes begin with
abbrev pub sign_of : List ℕ → Sign
sign_of [] = none
sign_of (b ∷ bytes) = if b == 43 then plus else if b == 45 then minus else none

-- what stands behind that sign
abbrev pub behind_sign : List ℕ → List ℕ
behind_sign bytes = drop (length (sign_text (sign_of bytes))) bytes

-- the decimal point
abbrev pub is_point : ℕ → Bool
is_point b = b == 46

-- what stands before a point and behind it, or all where there is none
abbrev pub round_point : Sign → List ℕ → Option ℕ → Decimal
round_point sign bytes None = record { sign = sign; whole = bytes; fraction = None }
round_point sign bytes (Some i) = record { sign = sign; whole = take i bytes; fraction = Some (drop (i + 1) bytes) }

-- the sign, and what stands before the first point and behind it, digits or not
unfoldable pub parts_of : List ℕ → Decimal
parts_of bytes = round_point (sign_of bytes) (behind_sign bytes) (position is_point (behind_sign bytes))

-- whether these parts are digits alone, and at least one
abbrev pub is_decimal : Decimal → Bool
is_decimal d = list_all is_ascii_digit d.whole && list_all is_ascii_digit (fraction_of d) && nat_lt 0 (length d.whole + length (fraction_of d))

-- the decimal that the bytes spell
abbrev pub decimal_of : List ℕ → Option Decimal
decimal_of bytes = if is_decimal (parts_of bytes) then Some (parts_of bytes) else None

-- bytes spell the decimals whose text they are, and no others
abbrev pub DecimalLaw : Type 0
DecimalLaw = (bytes : List ℕ) (d : Decimal) → (decimal_of bytes ≡ Some d) ↔ (IsDecimal d × (bytes ≡ decimal_text d))
