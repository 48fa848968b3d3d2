-- Quotients to the nearest.
use Rattle.std.proofs.Common.{◌≡◌, refl, ℕ, zero, suc, ◌+◌, ◌*◌, ◌-◌, ◌/◌, ◌%◌, ◌<◌, ◌≤◌, ℤ, pos, negsuc, neg_ℤ, ◌≤ℤ◌, ◌<ℤ◌, arith, ap, sym, ◌∙◌, subst}
use Rattle.std.specs.Prelude.{unsigned_abs}
use borrow.Author.Differences.{ints}
use Rattle.std.proofs.lemmas.Nat.{div-mul-add, div-add-mod'}
use Rattle.std.proofs.Math.Nat.{mul-div-le}
use Rattle.fixed_num.specs.Rounding.{rounded, round_div_of, IsNearest}

-- a quotient and its rest
twice_quotient : (a b q rest n : ℕ) → 0 < b → n * (2 * b) + rest ≡ 2 * a + b → rest < 2 * b → rounded a b ≡ n
unfolding rounded
twice_quotient a b q rest n h e less = ap (λ m. m / (2 * b)) (sym e) ∙ div-mul-add n (2 * b) rest less

-- a rest of half or more goes up
pub rounds_up : (a b q rest : ℕ) → 0 < b → q * b + rest ≡ a → rest < b → b - rest ≤ rest → q + 1 ≡ rounded a b
rounds_up a b q rest h e less up = sym (twice_quotient a b q (2 * rest - b) (q + 1) h (omega (arith, e)) (omega arith))

-- a smaller one goes down
pub rounds_down : (a b q rest : ℕ) → 0 < b → q * b + rest ≡ a → rest < b → rest < b - rest → q ≡ rounded a b
rounds_down a b q rest h e less down = sym (twice_quotient a b q (2 * rest + b) q h (omega (arith, e)) (omega arith))

-- a rest is less than the divisor
pub rest_below : (n d : ℕ) → 0 < d → n % d < d
rest_below n d h = omega arith

-- and so is what a quotient leaves
less_left : (n d : ℕ) → 0 < d → n < d * (n / d) + d
less_left n d h = omega (arith, div-add-mod' n d, rest_below n d h)

nearest_low : (a b : ℕ) → 2 * (rounded a b * b) ≤ 2 * a + b
unfolding rounded
nearest_low a b = omega (arith, mul-div-le (2 * a + b) (2 * b))

nearest_high : (a b : ℕ) → 0 < b → 2 * a < 2 * (rounded a b * b) + b
unfolding rounded
nearest_high a b h = omega (arith, less_left (2 * a + b) (2 * b) (omega arith))

turned_size : (n : ℕ) → unsigned_abs (neg_ℤ (pos n)) ≡ n
turned_size zero = refl
turned_size (suc n) = refl

-- the rounded quotient is the nearest
pub nearest_is : (a b : ℤ) → pos 0 <ℤ b → IsNearest a b (round_div_of a b)
unfolding round_div_of
nearest_is (pos a) b h = record {
  below = nearest_low a (unsigned_abs b);
  above = nearest_high a (unsigned_abs b) (omega (arith, ints));
  plus = λ _. omega (arith, ints);
  minus = λ low. none a (unsigned_abs b) (omega (arith, ints)) (omega (arith, ints));
}
  where
    none : (a b : ℕ) → a ≡ 0 → 0 < b → pos (rounded a b) ≤ℤ pos 0
    none a b e h = omega (arith, ints, small a b e h)
      where
        small : (a b : ℕ) → a ≡ 0 → 0 < b → rounded a b ≡ 0
        small a b e h = sym (rounds_down a b 0 0 h (omega (arith, e)) h (omega arith))
nearest_is (negsuc a) b h = record {
  below = rw (turned_size (rounded (suc a) (unsigned_abs b))) (nearest_low (suc a) (unsigned_abs b));
  above = rw (turned_size (rounded (suc a) (unsigned_abs b))) (nearest_high (suc a) (unsigned_abs b) (omega (arith, ints)));
  plus = λ low. absurd (omega (arith, ints));
  minus = λ _. omega (arith, ints);
}

pub nearest_of : (a b q : ℤ) → pos 0 <ℤ b → q ≡ round_div_of a b → IsNearest a b q
nearest_of a b q h e = subst (IsNearest a b) (sym e) (nearest_is a b h)
