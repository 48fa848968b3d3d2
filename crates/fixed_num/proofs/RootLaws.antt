-- Whole roots.
use Rattle.std.proofs.Common.{◌≡◌, refl, ℕ, zero, suc, ◌+◌, ◌*◌, ◌<◌, ◌≤◌, Bool, true, false, cond, nat_le, arith, ◌⊎◌, inl, inr}
use Rattle.std.proofs.lemmas.Bool.{cases_lt}
use Rattle.std.proofs.lemmas.Grind.{common_steps}
use Rattle.std.proofs.lemmas.Nat.{mul-le}
use Rattle.fixed_num.specs.Rounding.{root}

-- the next root, by the test of the next square
next_low : (r n : ℕ) (b : Bool) → nat_le ((r + 1) * (r + 1)) (suc n) ≡ b → r * r ≤ n → cond b (r + 1) r * cond b (r + 1) r ≤ suc n
next_low r n true e h = grind (arith, common_steps)
next_low r n false e h = omega arith

next_high : (r n : ℕ) (b : Bool) → nat_le ((r + 1) * (r + 1)) (suc n) ≡ b → n < (r + 1) * (r + 1) → suc n < (cond b (r + 1) r + 1) * (cond b (r + 1) r + 1)
next_high r n true e h = omega arith
next_high r n false e h = grind (arith, common_steps)

-- the square of the root is at most the number
pub root_low : (n : ℕ) → root n * root n ≤ n
unfolding root
root_low zero = omega arith
root_low (suc n) = next_low (root n) n (nat_le ((root n + 1) * (root n + 1)) (suc n)) refl (root_low n)

-- and the next square is above it
pub root_high : (n : ℕ) → n < (root n + 1) * (root n + 1)
unfolding root
root_high zero = omega arith
root_high (suc n) = next_high (root n) n (nat_le ((root n + 1) * (root n + 1)) (suc n)) refl (root_high n)

-- a number whose square is less than the square of the next one of another is at most that one
pub under_root : (a r n : ℕ) → a * a ≤ n → n < (r + 1) * (r + 1) → a ≤ r
under_root a r n h k = by_place (cases_lt r a)
  where
    by_place : (r < a) ⊎ (a ≤ r) → a ≤ r
    by_place (inr l) = l
    by_place (inl l) = absurd (omega (arith, mul-le (r + 1) (r + 1) a a (omega arith) (omega arith)))

-- the root is the only such number
pub root_is : (r n : ℕ) → r * r ≤ n → n < (r + 1) * (r + 1) → r ≡ root n
root_is r n low high =
    let up = under_root r (root n) n low (root_high n) in
    let down = under_root (root n) r n (root_low n) high in
    omega arith
