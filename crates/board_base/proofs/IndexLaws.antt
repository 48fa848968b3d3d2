-- The columns and rows whose middles lie on one side of a limit.
use Rattle.std.proofs.Common.{◌≡◌, ◌≤◌, ℤ, pos, neg_ℤ, unsigned_abs, ◌+ℤ◌, ◌-ℤ◌, ◌*ℤ◌, ◌≤ℤ◌, ◌<ℤ◌, [], ◌∷◌, refl, arith}
use Rattle.std.specs.Int.{int_div_euclid}
use Rattle.std.proofs.lemmas.Int.{by_lt_z}
use borrow.Author.Differences.{ints}
use Rattle.number_laws.proofs.Ring.{var, num, add, mul, neg, ring}
use Rattle.number_laws.proofs.Order.{mul_le_left}
use Rattle.number_laws.proofs.Quotients.{rounded_low, rounded_high}
use Rattle.board_base.specs.Lattice.{IsPitch, half_of, middle, IsQuotient, IsFirst, IsLast}
use Rattle.board_base.proofs.LatticeLaws.{pitch_positive, pitch_nonneg}

nonneg : (p : ℤ) → pos 0 <ℤ p → pos 0 ≤ℤ p
nonneg p h = omega (arith, ints)

pub quotient_is : (n p r : ℤ) → IsPitch p → r ≡ int_div_euclid n p → IsQuotient n p r
quotient_is n p r pitch e = record { low = rounded_low n p r (pitch_positive p pitch) e; high = rounded_high n p r (pitch_positive p pitch) e }

quotient_up : (n p r : ℤ) → pos 250 ≤ℤ p → pos 0 ≤ℤ p → unsigned_abs n ≤ 3000200000 → (p *ℤ r) ≤ℤ n → r ≤ℤ pos 12000801
quotient_up n p r h z s l =
    by_lt_z (pos 12000801) r (λ (k : pos 12000801 <ℤ r). absurd (far p (p *ℤ r) n h s (mul_le_left p (pos 12000801) r z (weak r k)) l)) (λ (k : r ≤ℤ pos 12000801). k)
  where
    weak : (r : ℤ) → pos 12000801 <ℤ r → pos 12000801 ≤ℤ r
    weak r k = omega (arith, ints)

    far : (p t n : ℤ) → pos 250 ≤ℤ p → unsigned_abs n ≤ 3000200000 → (p *ℤ pos 12000801) ≤ℤ t → t ≤ℤ n → ⊥
    far p t n h s k l = omega (arith, ints)

quotient_down : (n p r : ℤ) → pos 250 ≤ℤ p → pos 0 ≤ℤ p → unsigned_abs n ≤ 3000200000 → n <ℤ (p *ℤ r +ℤ p) → neg_ℤ (pos 12000801) ≤ℤ r
quotient_down n p r h z s l =
    by_lt_z r (neg_ℤ (pos 12000801)) (λ (k : r <ℤ neg_ℤ (pos 12000801)). absurd (far p (p *ℤ r) n h s (mul_le_left p r (neg_ℤ (pos 12000802)) z (weak r k)) l))
    (λ (k : neg_ℤ (pos 12000801) ≤ℤ r). k)
  where
    weak : (r : ℤ) → r <ℤ neg_ℤ (pos 12000801) → r ≤ℤ neg_ℤ (pos 12000802)
    weak r k = omega (arith, ints)

    far : (p t n : ℤ) → pos 250 ≤ℤ p → unsigned_abs n ≤ 3000200000 → t ≤ℤ (p *ℤ neg_ℤ (pos 12000802)) → n <ℤ (t +ℤ p) → ⊥
    far p t n h s k l = omega (arith, ints)

pub quotient_size : (n p r : ℤ) → IsPitch p → unsigned_abs n ≤ 3000200000 → IsQuotient n p r → unsigned_abs r ≤ 12000801
quotient_size n p r pitch s q =
    let z = pitch_nonneg p pitch in
    size r (quotient_down n p r pitch.low z s q.high) (quotient_up n p r pitch.low z s q.low)
  where
    size : (r : ℤ) → neg_ℤ (pos 12000801) ≤ℤ r → r ≤ℤ pos 12000801 → unsigned_abs r ≤ 12000801
    size r h k = omega (arith, ints)

-- what is at most the quotient has at most this product
product_below : (n p q i : ℤ) → pos 0 <ℤ p → IsQuotient n p q → i ≤ℤ q → (p *ℤ i) ≤ℤ n
product_below n p q i h quotient le = by (p *ℤ i) (p *ℤ q) n (mul_le_left p i q (nonneg p h) le) quotient.low
  where
    by : (a b n : ℤ) → a ≤ℤ b → b ≤ℤ n → a ≤ℤ n
    by a b n h k = omega (arith, ints)

-- and only that
below_quotient : (n p q i : ℤ) → pos 0 <ℤ p → IsQuotient n p q → (p *ℤ i) ≤ℤ n → i ≤ℤ q
below_quotient n p q i h quotient le =
    by_lt_z q i
    (λ (k : q <ℤ i).
    let next : (p *ℤ (q +ℤ pos 1)) ≤ℤ (p *ℤ i) = mul_le_left p (q +ℤ pos 1) i (nonneg p h) (step q i k) in
    let split : p *ℤ (q +ℤ pos 1) ≡ p *ℤ q +ℤ p = ring (p ∷ q ∷ []) (mul (var 0) (add (var 1) (num (pos 1)))) (add (mul (var 0) (var 1)) (var 0)) refl in
    absurd (far (p *ℤ (q +ℤ pos 1)) (p *ℤ q) p (p *ℤ i) n split next le quotient.high))
    (λ (k : i ≤ℤ q). k)
  where
    step : (q i : ℤ) → q <ℤ i → (q +ℤ pos 1) ≤ℤ i
    step q i h = omega (arith, ints)

    far : (t a p s n : ℤ) → t ≡ a +ℤ p → t ≤ℤ s → s ≤ℤ n → n <ℤ (a +ℤ p) → ⊥
    far t a p s n e h k l = omega (arith, ints)

-- the middle of a column or row, with its factors the other way
middle_is : (p i : ℤ) → middle p i ≡ p *ℤ i +ℤ half_of p
unfolding middle
middle_is p i = ring (p ∷ i ∷ half_of p ∷ []) (add (mul (var 1) (var 0)) (var 2)) (add (mul (var 0) (var 1)) (var 2)) refl

pub last_is : (p limit n q r : ℤ) → IsPitch p → n ≡ limit -ℤ half_of p → IsQuotient n p q → r ≡ q → IsLast p limit r
last_is p limit n q r pitch e quotient same =
    record {
      all = λ i. (
        λ le. up (p *ℤ i) n (half_of p) limit (middle p i) (product_below n p q i (pitch_positive p pitch) quotient (to i r q same le)) e (middle_is p i),
        λ within. back i r q same (below_quotient n p q i (pitch_positive p pitch) quotient (down (p *ℤ i) n (half_of p) limit (middle p i) within e (middle_is p i))),
      );
    }
  where
    to : (i r q : ℤ) → r ≡ q → i ≤ℤ r → i ≤ℤ q
    to i r q e h = omega (arith, ints)

    back : (i r q : ℤ) → r ≡ q → i ≤ℤ q → i ≤ℤ r
    back i r q e h = omega (arith, ints)

    up : (a n half limit m : ℤ) → a ≤ℤ n → n ≡ limit -ℤ half → m ≡ a +ℤ half → m ≤ℤ limit
    up a n half limit m h e f = omega (arith, ints)

    down : (a n half limit m : ℤ) → m ≤ℤ limit → n ≡ limit -ℤ half → m ≡ a +ℤ half → a ≤ℤ n
    down a n half limit m h e f = omega (arith, ints)

pub first_is : (p limit n q r : ℤ) → IsPitch p → n ≡ half_of p -ℤ limit → IsQuotient n p q → r ≡ neg_ℤ q → IsFirst p limit r
first_is p limit n q r pitch e quotient same =
    record {
      all = λ i. (
        λ le. up (p *ℤ neg_ℤ i) (p *ℤ i) n (half_of p) limit (middle p i) (product_below n p q (neg_ℤ i) (pitch_positive p pitch) quotient (to i r q same le)) (turned p i) e (middle_is p i),
        λ within.
            back i r q same
            (below_quotient n p q (neg_ℤ i) (pitch_positive p pitch) quotient (down (p *ℤ neg_ℤ i) (p *ℤ i) n (half_of p) limit (middle p i) within (turned p i) e (middle_is p i))),
      );
    }
  where
    turned : (p i : ℤ) → p *ℤ neg_ℤ i ≡ neg_ℤ (p *ℤ i)
    turned p i = ring (p ∷ i ∷ []) (mul (var 0) (neg (var 1))) (neg (mul (var 0) (var 1))) refl

    to : (i r q : ℤ) → r ≡ neg_ℤ q → r ≤ℤ i → neg_ℤ i ≤ℤ q
    to i r q e h = omega (arith, ints)

    back : (i r q : ℤ) → r ≡ neg_ℤ q → neg_ℤ i ≤ℤ q → r ≤ℤ i
    back i r q e h = omega (arith, ints)

    up : (t a n half limit m : ℤ) → t ≤ℤ n → t ≡ neg_ℤ a → n ≡ half -ℤ limit → m ≡ a +ℤ half → limit ≤ℤ m
    up t a n half limit m h g e f = omega (arith, ints)

    down : (t a n half limit m : ℤ) → limit ≤ℤ m → t ≡ neg_ℤ a → n ≡ half -ℤ limit → m ≡ a +ℤ half → t ≤ℤ n
    down t a n half limit m h g e f = omega (arith, ints)
