-- Decimals as they are written, and their values.
use Rattle.std.specs.Prelude.{◌≡◌, ℕ, ◌+◌, ◌-◌, ◌*◌, ◌^◌, ◌<◌, ℤ, pos, neg_ℤ, List, [], ◌∷◌, ◌++◌, length, take, drop, Option, Some, None, unwrap_or}
use Rattle.std.specs.List.{All}
use Rattle.std.specs.Str.Parse.{AllDigits, digits_value}

-- what stands before the digits
pub data Sign : Type 0 where
  none : Sign
  plus : Sign
  minus : Sign

-- the bytes of a sign
abbrev pub sign_text : Sign → List ℕ
sign_text none = []
sign_text plus = 43 ∷ []
sign_text minus = 45 ∷ []

-- a size with its sign
abbrev pub signed : Sign → ℕ → ℤ
signed none n = pos n
signed plus n = pos n
signed minus n = neg_ℤ (pos n)

-- a sign, the digits before the point, and where there is a point those behind it
pub record Decimal : Type 0 where
  pub sign : Sign
  pub whole : List ℕ
  pub fraction : Option (List ℕ)

-- the point and what stands behind it
abbrev pub point_text : Option (List ℕ) → List ℕ
point_text None = []
point_text (Some digits) = 46 ∷ digits

-- the digits behind the point
abbrev pub fraction_of : Decimal → List ℕ
fraction_of d = unwrap_or d.fraction []

-- the bytes of a decimal
abbrev pub decimal_text : Decimal → List ℕ
decimal_text d = sign_text d.sign ++ d.whole ++ point_text d.fraction

-- at least one digit, and digits alone beside the sign and the point
pub record IsDecimal (d : Decimal) : Type 0 where
  pub whole : AllDigits 10 d.whole
  pub fraction : AllDigits 10 (fraction_of d)
  pub some_digit : 0 < length d.whole + length (fraction_of d)

-- the value in units of 10^-scale, without the digits past the scale
abbrev pub value_at : ℕ → Decimal → ℤ
value_at scale d = signed d.sign (digits_value 10 (d.whole ++ take scale (fraction_of d)) * 10 ^ (scale - length (fraction_of d)))

-- no digit past the scale but zeros
abbrev pub EndsBy : ℕ → Decimal → Type 0
EndsBy scale d = All (λ b. b ≡ 48) (drop scale (fraction_of d))
