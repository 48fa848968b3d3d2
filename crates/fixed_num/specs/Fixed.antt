-- Numbers with six decimals, as they are written.
use Rattle.std.specs.Prelude.{ℕ, ◌+◌, ◌/◌, ◌%◌, ℤ, pos, negsuc, unsigned_abs, List, [], ◌∷◌, ◌++◌, decimal}

-- the last digit of a number
abbrev pub digit : ℕ → ℕ
digit n = 48 + n % 10

-- the last six digits
abbrev pub six_digits : ℕ → List ℕ
six_digits n = digit (n / 100000) ∷ digit (n / 10000) ∷ digit (n / 1000) ∷ digit (n / 100) ∷ digit (n / 10) ∷ digit n ∷ []

-- a sign where the number is negative
abbrev pub sign : ℤ → List ℕ
sign (pos n) = []
sign (negsuc n) = 45 ∷ []

-- millionths: a sign where negative, the whole part, the point and six decimals
abbrev pub fixed6 : ℤ → List ℕ
fixed6 z = sign z ++ decimal (unsigned_abs z / 1000000) ++ 46 ∷ six_digits (unsigned_abs z)
