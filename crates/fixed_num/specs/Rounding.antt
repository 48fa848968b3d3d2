-- Whole roots, and quotients to the nearest whole number.
use Rattle.std.specs.Prelude.{ℕ, zero, suc, ◌+◌, ◌*◌, ◌/◌, ◌<◌, ◌≤◌, ℤ, pos, negsuc, neg_ℤ, ◌≤ℤ◌, unsigned_abs, nat_le, if◌then◌else◌}

-- the greatest whole number whose square is at most n: one more than that of n - 1 where n is the next square
unfoldable pub root : ℕ → ℕ
root zero = 0
root (suc n) = if nat_le ((root n + 1) * (root n + 1)) (suc n) then root n + 1 else root n

-- the quotient of two sizes to the nearest, half up
unfoldable pub rounded : ℕ → ℕ → ℕ
rounded a b = (2 * a + b) / (2 * b)

-- the quotient to the nearest, half away from zero
unfoldable pub round_div_of : ℤ → ℤ → ℤ
round_div_of (pos a) b = pos (rounded a (unsigned_abs b))
round_div_of (negsuc a) b = neg_ℤ (pos (rounded (suc a) (unsigned_abs b)))

-- q is the quotient of a by b to the nearest: its product with b is at most half of b from a, the half only where q is
-- the one further from zero, and it has the sign of a or is 0
pub record IsNearest (a b q : ℤ) : Type 0 where
  pub below : (2 * (unsigned_abs q * unsigned_abs b)) ≤ 2 * unsigned_abs a + unsigned_abs b
  pub above : 2 * unsigned_abs a < 2 * (unsigned_abs q * unsigned_abs b) + unsigned_abs b
  pub plus : pos 0 ≤ℤ a → pos 0 ≤ℤ q
  pub minus : a ≤ℤ pos 0 → q ≤ℤ pos 0
