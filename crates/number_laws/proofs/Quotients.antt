-- The quotient rounded down, by a divisor above 0.
use Rattle.std.proofs.Common.{◌≡◌, ℕ, ◌<◌, ℤ, pos, negsuc, ◌+ℤ◌, ◌*ℤ◌, ◌≤ℤ◌, ◌<ℤ◌, arith}
use Rattle.std.specs.Int.{int_div_euclid}
use borrow.Author.Differences.{ints}

quotient_low : (x : ℤ) (n : ℕ) → 0 < n → (pos n *ℤ int_div_euclid x (pos n)) ≤ℤ x
quotient_low (pos a) n h = omega (arith, ints)
quotient_low (negsuc a) n h = omega (arith, ints)

quotient_high : (x : ℤ) (n : ℕ) → 0 < n → x <ℤ (pos n *ℤ int_div_euclid x (pos n) +ℤ pos n)
quotient_high (pos a) n h = omega (arith, ints)
quotient_high (negsuc a) n h = omega (arith, ints)

-- it is not too large
pub rounded_low : (x d r : ℤ) → pos 0 <ℤ d → r ≡ int_div_euclid x d → (d *ℤ r) ≤ℤ x
rounded_low x (pos n) r h e = rw e (quotient_low x n (omega (arith, ints)))
rounded_low x (negsuc n) r h e = absurd (omega (arith, ints))

-- and one more is too large
pub rounded_high : (x d r : ℤ) → pos 0 <ℤ d → r ≡ int_div_euclid x d → x <ℤ (d *ℤ r +ℤ d)
rounded_high x (pos n) r h e = rw e (quotient_high x n (omega (arith, ints)))
rounded_high x (negsuc n) r h e = absurd (omega (arith, ints))
