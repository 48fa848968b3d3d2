-- the order of the whole numbers, and products
use Rattle.std.proofs.Common.{◌≡◌, zero, suc, ℤ, pos, negsuc, ◌+ℤ◌, ◌-ℤ◌, ◌*ℤ◌, ◌≤ℤ◌, ◌<ℤ◌, [], ◌∷◌, refl, arith}
use borrow.Author.Differences.{ints, sum_is_lem, le_out, lt_out, at_most_in, same_out}
use Rattle.std.proofs.lemmas.Int.{by_lt_z}
use Rattle.number_laws.proofs.Ring.{var, add, sub, mul, ring}

pub mul_nonneg : (a b : ℤ) → pos 0 ≤ℤ a → pos 0 ≤ℤ b → pos 0 ≤ℤ (a *ℤ b)
mul_nonneg (pos a) (pos b) h k = omega (arith, ints)
mul_nonneg (pos a) (negsuc b) h k = absurd (omega (arith, ints))
mul_nonneg (negsuc a) b h k = absurd (omega (arith, ints))

pub mul_pos : (a b : ℤ) → pos 0 <ℤ a → pos 0 <ℤ b → pos 0 <ℤ (a *ℤ b)
mul_pos (pos zero) b h k = absurd (omega (arith, ints))
mul_pos (pos (suc a)) (pos zero) h k = absurd (omega (arith, ints))
mul_pos (pos (suc a)) (pos (suc b)) h k = omega (arith, ints)
mul_pos (pos (suc a)) (negsuc b) h k = absurd (omega (arith, ints))
mul_pos (negsuc a) b h k = absurd (omega (arith, ints))

pub square_nonneg : (a : ℤ) → pos 0 ≤ℤ (a *ℤ a)
square_nonneg (pos a) = omega (arith, ints)
square_nonneg (negsuc a) = omega (arith, ints)

-- b is a and something that is not negative
pub le_by : (a b d : ℤ) → pos 0 ≤ℤ d → b ≡ a +ℤ d → a ≤ℤ b
le_by a b d h e = omega (arith, sum_is_lem, le_out, at_most_in, same_out)

pub sub_nonneg : (a b : ℤ) → a ≤ℤ b → pos 0 ≤ℤ (b -ℤ a)
sub_nonneg a b h = omega (arith, ints)

pub add_nonneg : (a b : ℤ) → pos 0 ≤ℤ a → pos 0 ≤ℤ b → pos 0 ≤ℤ (a +ℤ b)
add_nonneg a b h k = omega (arith, ints)

pub mul_le_left : (c a b : ℤ) → pos 0 ≤ℤ c → a ≤ℤ b → (c *ℤ a) ≤ℤ (c *ℤ b)
mul_le_left c a b h k =
    let C = var 0 in let A = var 1 in let B = var 2 in
    le_by (c *ℤ a) (c *ℤ b) (c *ℤ (b -ℤ a)) (mul_nonneg c (b -ℤ a) h (sub_nonneg a b k))
    (ring (c ∷ a ∷ b ∷ []) (mul C B) (add (mul C A) (mul C (sub B A))) refl)

pub cancel : (c a b : ℤ) → pos 0 <ℤ c → (c *ℤ a) ≤ℤ (c *ℤ b) → a ≤ℤ b
cancel c a b h k =
    by_lt_z b a
    (λ (l : b <ℤ a).
    let p : pos 0 <ℤ (c *ℤ (a -ℤ b)) = mul_pos c (a -ℤ b) h (omega (arith, ints)) in
    let e : c *ℤ a ≡ c *ℤ b +ℤ c *ℤ (a -ℤ b) = ring (c ∷ a ∷ b ∷ []) (mul (var 0) (var 1)) (add (mul (var 0) (var 2)) (mul (var 0) (sub (var 1) (var 2)))) refl in
    absurd (strictly (c *ℤ a) (c *ℤ b) (c *ℤ (a -ℤ b)) p e k))
    (λ (l : a ≤ℤ b). l)
  where
    strictly : (x y z : ℤ) → pos 0 <ℤ z → x ≡ y +ℤ z → x ≤ℤ y → ⊥
    strictly x y z p e k = omega (arith, sum_is_lem, le_out, lt_out, same_out)

pub square_le : (a b : ℤ) → pos 0 ≤ℤ b → (a *ℤ a) ≤ℤ (b *ℤ b) → a ≤ℤ b
square_le a b h k =
    by_lt_z b a
    (λ (l : b <ℤ a).
    let p : pos 0 <ℤ ((a -ℤ b) *ℤ (a +ℤ b)) = mul_pos (a -ℤ b) (a +ℤ b) (omega (arith, ints)) (omega (arith, ints)) in
    let e : a *ℤ a ≡ b *ℤ b +ℤ (a -ℤ b) *ℤ (a +ℤ b) = ring (a ∷ b ∷ []) (mul (var 0) (var 0)) (add (mul (var 1) (var 1)) (mul (sub (var 0) (var 1)) (add (var 0) (var 1)))) refl in
    absurd (strictly (a *ℤ a) (b *ℤ b) ((a -ℤ b) *ℤ (a +ℤ b)) p e k))
    (λ (l : a ≤ℤ b). l)
  where
    strictly : (x y z : ℤ) → pos 0 <ℤ z → x ≡ y +ℤ z → x ≤ℤ y → ⊥
    strictly x y z p e k = omega (arith, sum_is_lem, le_out, lt_out, same_out)

pub le_trans_ℤ : (a b c : ℤ) → a ≤ℤ b → b ≤ℤ c → a ≤ℤ c
le_trans_ℤ a b c h k = omega (arith, le_out, at_most_in)
