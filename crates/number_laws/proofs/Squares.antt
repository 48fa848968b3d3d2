-- Squares of whole numbers.
use Rattle.std.proofs.Common.{◌≡◌, zero, suc, ℤ, pos, negsuc, ◌+ℤ◌, ◌-ℤ◌, ◌*ℤ◌, neg_ℤ, ◌≤ℤ◌, [], ◌∷◌, refl, arith}
use borrow.Author.Differences.{ints}
use Rattle.number_laws.proofs.Ring.{var, add, sub, mul, ring}
use Rattle.number_laws.proofs.Order.{mul_nonneg, le_by}
pub use Rattle.number_laws.proofs.Order.{square_nonneg, square_le}

-- a number between -k and k has no larger square
pub square_in : (x k : ℤ) → pos 0 ≤ℤ (k -ℤ x) → pos 0 ≤ℤ (k +ℤ x) → (x *ℤ x) ≤ℤ (k *ℤ k)
square_in x k low high =
    let X = var 0 in let K = var 1 in
    le_by (x *ℤ x) (k *ℤ k) ((k -ℤ x) *ℤ (k +ℤ x)) (mul_nonneg (k -ℤ x) (k +ℤ x) low high)
    (ring (x ∷ k ∷ []) (mul K K) (add (mul X X) (mul (sub K X) (add K X))) refl)

-- the same, with the bounds as orders
pub square_within : (k x : ℤ) → neg_ℤ k ≤ℤ x → x ≤ℤ k → (x *ℤ x) ≤ℤ (k *ℤ k)
square_within k x low high = square_in x k (omega (arith, ints)) (omega (arith, ints))

-- a number whose square is not above 0 is 0
pub no_square : (x : ℤ) → (x *ℤ x) ≤ℤ pos 0 → x ≡ pos 0
no_square (pos zero) h = refl
no_square (pos (suc n)) h = absurd (omega (arith, ints))
no_square (negsuc n) h = absurd (omega (arith, ints))
