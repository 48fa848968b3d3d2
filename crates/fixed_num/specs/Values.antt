-- The numbers that decimals are, in units of a power of ten.
use Rattle.std.specs.Prelude.{◌↔◌, ℕ, ◌-◌, ◌≤◌, ℤ, List, length, Bool, if◌then◌else◌, ◌==◌, nat_lt, Option, Some, None, Result, Ok, Err}
use Rattle.std.specs.List.{suffix_len}
use Rattle.board_base.specs.Binds.{◌>>=◌}
use Rattle.fixed_num.specs.Decimal.{Decimal, fraction_of, value_at, EndsBy}
use Rattle.fixed_num.specs.Spelled.{decimal_of}
use Rattle.fixed_num.specs.declared.number.NumError.{NumError}
use Rattle.fixed_num.specs.declared.number.NumError.TheVariants.{NotNumber, TooLong, TooFine}

-- the digit 0
abbrev pub is_zero : ℕ → Bool
is_zero b = b == 48

-- how many digits there are up to the last one that isn't 0
unfoldable pub decimals_used : List ℕ → ℕ
decimals_used digits = length digits - suffix_len is_zero digits

-- what is found, or no number
abbrev pub a_number : Option Decimal → Result Decimal NumError
a_number None = Err NotNumber
a_number (Some d) = Ok d

-- at most 18 digits before the point
abbrev pub not_long : Decimal → Result Decimal NumError
not_long d = if nat_lt 18 (length d.whole) then Err TooLong else Ok d

-- no digit past the scale but zeros
abbrev pub not_fine : ℕ → Decimal → Result Decimal NumError
not_fine scale d = if nat_lt scale (decimals_used (fraction_of d)) then Err (TooFine (decimals_used (fraction_of d))) else Ok d

-- the decimal that the bytes spell, not too long
unfoldable pub short_of : List ℕ → Result Decimal NumError
short_of bytes = do
  d ← a_number (decimal_of bytes)
  not_long d

-- the value in units of 10^-scale of bytes that spell a decimal, not too long and not too fine
unfoldable pub read_at : ℕ → List ℕ → Result ℤ NumError
read_at scale bytes = do
  d ← short_of bytes
  exact ← not_fine scale d
  Ok (value_at scale exact)

-- the same without the digits past the scale
unfoldable pub cut_at : ℕ → List ℕ → Result ℤ NumError
cut_at scale bytes = do
  d ← short_of bytes
  Ok (value_at scale d)

-- no digit past the scale but zeros stands behind the point where no more digits than that are used
abbrev pub UsedLaw : Type 0
UsedLaw = (scale : ℕ) (d : Decimal) → EndsBy scale d ↔ (decimals_used (fraction_of d) ≤ scale)
