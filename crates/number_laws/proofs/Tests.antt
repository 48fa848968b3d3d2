-- Tests of the order, and the facts that they stand for.
use Rattle.std.proofs.Common.{◌≡◌, ℕ, ◌<◌, ◌≤◌, ℤ, ◌≤ℤ◌, ◌<ℤ◌, int_le, int_lt, nat_lt, nat_le, Bool, true, false, not, ◌&&◌, ◌||◌, refl, sym, arith}
use borrow.Author.Differences.{ints}
use Rattle.std.proofs.lemmas.Bool.{and_parts}
pub use Rattle.std.proofs.lemmas.Bool.{and_from as both, or_left as left_true, or_right as right_true, cond-true as cond_true, cond-false as cond_false, false_from_ne_true, true_from_ne_false}

-- by the two cases of a test, each with what it said
pub by_bool : {P : Type 0} (b : Bool) → (b ≡ true → P) → (b ≡ false → P) → P
by_bool true f g = f refl
by_bool false f g = g refl

-- two tests are equal if neither can hold alone
pub same_test : (s t : Bool) → (s ≡ true → t ≡ false → ⊥) → (s ≡ false → t ≡ true → ⊥) → s ≡ t
same_test true true f g = refl
same_test true false f g = absurd (f refl refl)
same_test false true f g = absurd (g refl refl)
same_test false false f g = refl

-- the parts of an `and` that holds
pub first_of : (a b : Bool) → (a && b) ≡ true → a ≡ true
first_of a b e = (and_parts a b e).0

pub second_of : (a b : Bool) → (a && b) ≡ true → b ≡ true
second_of a b e = (and_parts a b e).1

-- an `or` that holds, by cases
pub either : {P : Type 0} (a b : Bool) → (a || b) ≡ true → (a ≡ true → P) → (b ≡ true → P) → P
either true b e f g = f refl
either false b e f g = g e

pub not_true : (b : Bool) → not b ≡ true → b ≡ false
not_true true e = absurd (cc)
not_true false e = refl

pub not_false : (b : Bool) → not b ≡ false → b ≡ true
not_false true e = refl
not_false false e = sym e

-- ---- order as a test: whole numbers, then natural ones

pub to_le : (a b : ℤ) → int_le a b ≡ true → a ≤ℤ b
to_le a b e = omega (arith, ints)

pub to_lt : (a b : ℤ) → int_le a b ≡ false → b <ℤ a
to_lt a b e = omega (arith, ints)

pub of_le : (a b : ℤ) → a ≤ℤ b → int_le a b ≡ true
of_le a b h = sym (omega (arith, ints))

pub of_lt : (a b : ℤ) → b <ℤ a → int_le a b ≡ false
of_lt a b h = sym (omega (arith, ints))

pub true_lt : (a b : ℤ) → int_lt a b ≡ true → a <ℤ b
true_lt a b e = omega (arith, ints)

pub false_lt : (a b : ℤ) → int_lt a b ≡ false → b ≤ℤ a
false_lt a b e = omega (arith, ints)

pub lt_true : (a b : ℤ) → a <ℤ b → int_lt a b ≡ true
lt_true a b h = sym (omega (arith, ints))

pub lt_false : (a b : ℤ) → b ≤ℤ a → int_lt a b ≡ false
lt_false a b h = sym (omega (arith, ints))

pub is_below : (m n : ℕ) → nat_lt m n ≡ true → m < n
is_below m n e = grind (arith, e)

pub below : (m n : ℕ) → m < n → nat_lt m n ≡ true
below m n h = by_bool (nat_lt m n) (λ e. e) (λ e. absurd (past m n e h))
  where
    past : (m n : ℕ) → nat_lt m n ≡ false → m < n → ⊥
    past m n e h = grind (arith, e, h)

pub is_up_to : (m n : ℕ) → nat_le m n ≡ true → m ≤ n
is_up_to m n e = grind (arith, e)

pub up_to : (m n : ℕ) → m ≤ n → nat_le m n ≡ true
up_to m n h = by_bool (nat_le m n) (λ e. e) (λ e. absurd (past m n e h))
  where
    past : (m n : ℕ) → nat_le m n ≡ false → m ≤ n → ⊥
    past m n e h = grind (arith, e, h)
