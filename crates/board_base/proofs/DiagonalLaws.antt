-- The half diagonal of a cell, by a whole root.
use Rattle.std.proofs.Common.{◌≡◌, refl, ℕ, suc, zero, ◌+◌, ◌*◌, ◌-◌, ◌/◌, ◌<◌, ◌≤◌, Bool, true, false, ◌⊎◌, inl, inr, sym, arith}
use Rattle.std.specs.Prelude.{nat_le}
use Rattle.std.proofs.lemmas.Grind.{common_steps}
use Rattle.std.proofs.lemmas.Nat.{mul-le}
use Rattle.board_base.specs.Lattice.{least, least_diagonal}

up_to : (h k : ℕ) → h ≤ suc k → (h ≤ k) ⊎ (h ≡ suc k)
up_to h k le = grind (arith, common_steps)

-- the first number that passes, where there is one up to the bound
pub least_is : (test : ℕ → Bool) (bound h : ℕ) → h ≤ bound → ((k : ℕ) → k < h → test k ≡ false) → (test h ≡ true) ⊎ (h ≡ bound) → least test bound ≡ h
least_is test zero h le fails end = omega (arith, le)
least_is test (suc k) h le fails end =
    by_case (up_to h k le) end (λ less passes. least_is test k h less fails (inl passes))
    (λ e. least_is test k k (omega arith) (λ j before. fails j (omega (arith, before, e))) (inr refl))
  where
    by_case : (h ≤ k) ⊎ (h ≡ suc k) → (test h ≡ true) ⊎ (h ≡ suc k) → (h ≤ k → test h ≡ true → least test k ≡ h) → (h ≡ suc k → least test k ≡ k) → least test (suc k) ≡ h
    by_case (inl less) (inl passes) here last = rw (here less passes, passes) refl
    by_case (inl less) (inr e) here last = absurd (omega (arith, less, e))
    by_case (inr e) other here last = rw (last e, fails k (omega (arith, e))) (sym e)

le_true : (a b : ℕ) → a ≤ b → nat_le a b ≡ true
le_true a b h = grind (arith, common_steps)

le_false : (a b : ℕ) → b < a → nat_le a b ≡ false
le_false a b h = grind (arith, common_steps)

-- a whole root of half the square, less one
pub record IsRoot (p half r : ℕ) : Type 0 where
  pub even : p ≡ 2 * half
  pub low : 0 < p
  pub square : r * r ≤ p * p / 2 - 1
  pub next : p * p / 2 - 1 < (r + 1) * (r + 1)

half_square : (p half : ℕ) → p ≡ 2 * half → p * p ≡ 2 * (2 * (half * half))
half_square p half e = rw e (omega arith)

halved : (n : ℕ) → (2 * n) / 2 ≡ n
halved n = omega arith

quotient : (p half : ℕ) → p ≡ 2 * half → p * p / 2 ≡ 2 * (half * half)
quotient p half e = rw (half_square p half e) (halved (2 * (half * half)))

some : (half : ℕ) → 0 < half → 0 < half * half
some zero h = absurd (omega (arith, h))
some (suc n) h = omega arith

root_low : (p half r : ℕ) → IsRoot p half r → 2 * (r * r) < p * p
root_low p half r root =
    let q = quotient p half root.even in
    let s = half_square p half root.even in
    let positive = some half (omega (arith, root.even, root.low)) in
    omega (arith, root.square, q, s, positive)

pub root_enough : (p half r : ℕ) → IsRoot p half r → p * p ≤ 2 * ((r + 1) * (r + 1))
root_enough p half r root =
    let q = quotient p half root.even in
    let s = half_square p half root.even in
    omega (arith, root.next, q, s)

pub root_least : (p half r : ℕ) → IsRoot p half r → 2 * ((r + 1 - 1) * (r + 1 - 1)) < p * p
root_least p half r root = let same : r + 1 - 1 ≡ r = omega arith in rw same (root_low p half r root)

fails_below : (p half r k : ℕ) → IsRoot p half r → k < r + 1 → 2 * (k * k) < p * p
fails_below p half r k root less =
    let squares = mul-le k k r r (omega (arith, less)) (omega (arith, less)) in
    omega (arith, squares, root_low p half r root)

not_past : (p r : ℕ) → p ≤ r → p * p ≤ r * r
not_past p r h = mul-le p p r r h h

pub root_high : (p half r : ℕ) → IsRoot p half r → r + 1 ≤ p
root_high p half r root = by_case (either p r)
  where
    either : (p r : ℕ) → (r + 1 ≤ p) ⊎ (p ≤ r)
    either p r = grind (arith, common_steps)

    by_case : (r + 1 ≤ p) ⊎ (p ≤ r) → r + 1 ≤ p
    by_case (inl less) = less
    by_case (inr past) = absurd (omega (arith, not_past p r past, root_low p half r root))

pub root_is : (p half r : ℕ) → IsRoot p half r → least_diagonal p ≡ r + 1
unfolding least_diagonal
root_is p half r root =
    least_is (λ h. nat_le (p * p) (2 * (h * h))) p (r + 1) (root_high p half r root)
    (λ k less. le_false (p * p) (2 * (k * k)) (fails_below p half r k root less)) (inl (le_true (p * p) (2 * ((r + 1) * (r + 1))) (root_enough p half r root)))
