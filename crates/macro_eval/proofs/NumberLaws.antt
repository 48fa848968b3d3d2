-- The numbers that digits write, one digit more at a time.
use Rattle.std.proofs.Common.{ℕ, ◌+◌, ◌*◌, ◌≤◌, List, [], ◌∷◌, arith}
use Rattle.std.specs.Char.{digit_value}
use Rattle.std.specs.Str.Parse.{digits_value_after}

-- a number doesn't fall with further digits
pub not_less : (n : ℕ) (ds : List ℕ) → n ≤ digits_value_after 10 n ds
not_less n [] = omega arith
not_less n (d ∷ ds) = let more = not_less (n * 10 + digit_value d) ds in omega (arith, more)
