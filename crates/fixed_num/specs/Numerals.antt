-- Whole numbers that digits write.
use Rattle.std.specs.Prelude.{ℕ, List, length, Bool, if◌then◌else◌, ◌&&◌, nat_lt, nat_le}
use Rattle.std.specs.Char.{is_ascii_digit}
use Rattle.std.specs.List.{list_all}
use Rattle.std.specs.Str.Parse.{digits_value}

-- at least one digit, and digits alone
abbrev pub is_numeral : List ℕ → Bool
is_numeral text = nat_lt 0 (length text) && list_all is_ascii_digit text

-- the number of at most 18 digits, or 0: more of them are never read as a number
unfoldable pub short_value : List ℕ → ℕ
short_value digits = if nat_le (length digits) 18 then digits_value 10 digits else 0
