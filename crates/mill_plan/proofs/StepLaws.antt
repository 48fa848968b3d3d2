-- Numbers of steps, of passes and of rows.
use Rattle.std.proofs.Common.{◌≡◌, ◌⊎◌, inl, inr, ℕ, zero, suc, ◌+◌, ◌-◌, ◌*◌, ◌/◌, ◌<◌, ◌≤◌, ℤ, pos, ◌+ℤ◌, ◌-ℤ◌, ◌*ℤ◌, ◌≤ℤ◌, ◌<ℤ◌, Bool, true, false, [], ◌∷◌, refl, sym, ap, subst, ◌∙◌, arith}
use Rattle.std.specs.Prelude.{nat_le, int_le, max, unsigned_abs}
use Rattle.std.specs.Int.{int_div_euclid}
use Rattle.std.proofs.lemmas.Bool.{false≢true, cases_lt}
use Rattle.std.proofs.lemmas.Nat.{mul-le}
use borrow.Author.Differences.{ints}
use Rattle.number_laws.proofs.Ring.{var, num, mul, ring}
use Rattle.number_laws.proofs.Order.{mul_le_left}
use Rattle.number_laws.proofs.Quotients.{rounded_low, rounded_high}
use Rattle.number_laws.proofs.Tests.{by_bool}
use Rattle.board_base.specs.Lattice.{least}
use Rattle.cell_sets.specs.Cleared.{stride_of}
use Rattle.mill_plan.specs.Passes.{IsEnough}
use Rattle.mill_plan.proofs.SweptLaws.{quotient_size}

-- ---- the least number that passes a test

least_end : (test : ℕ → Bool) (n : ℕ) → (test (least test n) ≡ true) ⊎ (least test n ≡ n)
least_end test zero = inr refl
least_end test (suc n) = by_bool (test (least test n)) (λ t. inl (rw t t)) (λ t. inr (rw t refl))

pub least_most : (test : ℕ → Bool) (n : ℕ) → least test n ≤ n
least_most test zero = omega arith
least_most test (suc n) = by_bool (test (least test n)) (λ t. rw t (let h = least_most test n in omega (arith, h))) (λ t. rw t (omega arith))

below_next : (m n : ℕ) → m < suc n → (m < n) ⊎ (m ≡ n)
below_next m n h = grind (arith, h)

-- no number before it does
pub least_before : (test : ℕ → Bool) (n m : ℕ) → m < least test n → test m ≡ false
least_before test zero m h = absurd (omega (arith, h))
least_before test (suc n) m h =
    by_bool (test (least test n))
    (λ t. least_before test n m (subst (λ (k : ℕ). m < k) (rw t refl) h))
    (λ t. elim (least_end test n) as (λ _. test m ≡ false) [
      | inl s ↦ absurd (false≢true (sym t ∙ s))
      | inr e ↦ elim (below_next m n (subst (λ (k : ℕ). m < k) (rw t refl) h)) as (λ _. test m ≡ false) [
        | inl less ↦ least_before test n m (subst (λ (k : ℕ). m < k) (sym e) less)
        | inr same ↦ ap test (same ∙ sym e) ∙ t
      ]
    ])

-- ---- sizes

-- a cutter's radius
pub record IsRadius (r : ℤ) : Type 0 where
  pub low : pos 10000 ≤ℤ r
  pub high : r ≤ℤ pos 5000000

-- a step from pass to pass
pub record IsStepSize (s : ℤ) : Type 0 where
  pub low : pos 200 ≤ℤ s
  pub high : s ≤ℤ pos 10000000

pub step_size : (r : ℤ) (o : ℕ) → IsRadius r → o ≤ 99 → IsStepSize (int_div_euclid (pos 2 *ℤ r *ℤ (pos 100 -ℤ pos o)) (pos 100))
step_size r o k few =
    let x : ℤ = pos 2 *ℤ r *ℤ (pos 100 -ℤ pos o) in
    let s : ℤ = int_div_euclid x (pos 100) in
    let down = rounded_low x (pos 100) s (omega (arith, ints)) refl in
    let up = rounded_high x (pos 100) s (omega (arith, ints)) refl in
    let least = mul_le_left (pos 2 *ℤ r) (pos 1) (pos 100 -ℤ pos o) (some r k.low) (one o few) in
    let most = mul_le_left (pos 2 *ℤ r) (pos 100 -ℤ pos o) (pos 100) (some r k.low) (all o) in
    record { low = low r x s k.low least up; high = high r x s k.high most down }
  where
    some : (r : ℤ) → pos 10000 ≤ℤ r → pos 0 ≤ℤ (pos 2 *ℤ r)
    some r h = omega (arith, ints)

    one : (o : ℕ) → o ≤ 99 → pos 1 ≤ℤ (pos 100 -ℤ pos o)
    one o h = omega (arith, ints)

    all : (o : ℕ) → (pos 100 -ℤ pos o) ≤ℤ pos 100
    all o = omega (arith, ints)

    low : (r x s : ℤ) → pos 10000 ≤ℤ r → (pos 2 *ℤ r *ℤ pos 1) ≤ℤ x → x <ℤ (pos 100 *ℤ s +ℤ pos 100) → pos 200 ≤ℤ s
    low r x s a b c = omega (arith, ints)

    high : (r x s : ℤ) → r ≤ℤ pos 5000000 → x ≤ℤ (pos 2 *ℤ r *ℤ pos 100) → (pos 100 *ℤ s) ≤ℤ x → s ≤ℤ pos 10000000
    high r x s a b c = omega (arith, ints)

-- ---- steps

-- a quotient rounded up
up_enough : (n d q : ℕ) → 0 < d → q ≡ (n + d - 1) / d → n ≤ q * d
up_enough n d q some is = subst (λ (m : ℕ). n ≤ m * d) (sym is) (by ((n + d - 1) / d) refl)
  where
    by : (m : ℕ) → m ≡ (n + d - 1) / d → n ≤ m * d
    by m e = (let low : n + d - 1 < d * ((n + d - 1) / d) + d = omega (arith, some) in let turn : d * m ≡ m * d = omega arith in omega (arith, low, turn, ap (λ (x : ℕ). d * x) e))

up_least : (n d q m : ℕ) → 0 < d → 0 < n → q ≡ (n + d - 1) / d → m < q → m * d < n
up_least n d q m some any is less =
    let high : d * ((n + d - 1) / d) ≤ n + d - 1 = omega (arith, some) in
    let step : d * (m + 1) ≤ d * q = mul-le d (m + 1) d q (omega arith) (omega (arith, less)) in
    let spread : d * (m + 1) ≡ m * d + d = omega arith in
    omega (arith, high, step, spread, some, any, ap (λ (x : ℕ). d * x) is)

pub up_few : (n d : ℕ) → n ≤ 9980000 → 200 ≤ d → (n + d - 1) / d ≤ 49900
up_few n d small wide = by_case (either ((n + d - 1) / d))
  where
    either : (q : ℕ) → (q ≤ 49900) ⊎ (49901 ≤ q)
    either q = grind arith

    high : d * ((n + d - 1) / d) ≤ n + d - 1
    high = omega (arith, wide)

    by_case : ((n + d - 1) / d ≤ 49900) ⊎ (49901 ≤ (n + d - 1) / d) → (n + d - 1) / d ≤ 49900
    by_case (inl low) = low
    by_case (inr more) = absurd (omega (arith, high, small, wide, mul-le d 49901 d ((n + d - 1) / d) (omega arith) more))

-- so many steps make up what is wanting
pub steps_enough : (n d : ℕ) → 0 < d → 0 < n → IsEnough (pos n) (pos d) ((n + d - 1) / d)
steps_enough n d some any = record {
  enough = whole n ((n + d - 1) / d * d) (up_enough n d ((n + d - 1) / d) some refl);
  least = λ m less. part (m * d) n (up_least n d ((n + d - 1) / d) m some any refl less);
}
  where
    whole : (a b : ℕ) → a ≤ b → pos a ≤ℤ pos b
    whole a b h = omega (arith, ints)

    part : (a b : ℕ) → a < b → pos a <ℤ pos b
    part a b h = omega (arith, ints)

-- steps over a length, by whole numbers
pub steps_for : (w s : ℤ) (r : ℕ) → int_le w (pos 0) ≡ false → pos 200 ≤ℤ s → r ≡ (unsigned_abs w + unsigned_abs s - 1) / unsigned_abs s → IsEnough w s r
steps_for w s r over wide is =
    subst (λ (z : ℤ). IsEnough z s r) (sym (size_over w over))
    (subst (λ (z : ℤ). IsEnough (pos (unsigned_abs w)) z r) (sym (size s wide))
    (subst (λ (m : ℕ). IsEnough (pos (unsigned_abs w)) (pos (unsigned_abs s)) m) (sym is) (steps_enough (unsigned_abs w) (unsigned_abs s) (some s wide) (any w over))))
  where
    size_over : (w : ℤ) → int_le w (pos 0) ≡ false → w ≡ pos (unsigned_abs w)
    size_over w e = omega (arith, ints)

    size : (s : ℤ) → pos 200 ≤ℤ s → s ≡ pos (unsigned_abs s)
    size s h = omega (arith, ints)

    some : (s : ℤ) → pos 200 ≤ℤ s → 0 < unsigned_abs s
    some s h = omega (arith, ints)

    any : (w : ℤ) → int_le w (pos 0) ≡ false → 0 < unsigned_abs w
    any w e = omega (arith, ints)

-- ---- the greater of two

pub past_of : (a m : ℕ) → nat_le a m ≡ false → suc m ≤ a
past_of a m e = by_case (either a m)
  where
    either : (a m : ℕ) → (a ≤ m) ⊎ (suc m ≤ a)
    either a m = elim (cases_lt m a) as (λ _. (a ≤ m) ⊎ (suc m ≤ a)) [ inl l ↦ inr (omega (arith, l)) | inr g ↦ inl g ]

    never : (a m : ℕ) → nat_le a m ≡ false → a ≤ m → ⊥
    never a m e h = grind (arith, e, h)

    by_case : (a ≤ m) ⊎ (suc m ≤ a) → suc m ≤ a
    by_case (inl low) = absurd (never a m e low)
    by_case (inr high) = high

-- ---- the stride

-- a length less its overlap
pub record IsPart (l q : ℤ) : Type 0 where
  pub low : pos 0 ≤ℤ q
  pub high : q ≤ℤ l

pub overlap_part : (l : ℤ) (o : ℕ) → pos 0 ≤ℤ l → o ≤ 99 → IsPart l (int_div_euclid (l *ℤ (pos 100 -ℤ pos o)) (pos 100))
overlap_part l o l_in few =
    let x : ℤ = l *ℤ (pos 100 -ℤ pos o) in
    let q : ℤ = int_div_euclid x (pos 100) in
    let down = rounded_low x (pos 100) q (omega (arith, ints)) refl in
    let up = rounded_high x (pos 100) q (omega (arith, ints)) refl in
    let least = mul_le_left l (pos 0) (pos 100 -ℤ pos o) l_in (some o few) in
    let none : l *ℤ pos 0 ≡ pos 0 = ring (l ∷ []) (mul (var 0) (num (pos 0))) (num (pos 0)) refl in
    let most = mul_le_left l (pos 100 -ℤ pos o) (pos 100) l_in (all o) in
    let turn : l *ℤ pos 100 ≡ pos 100 *ℤ l = ring (l ∷ []) (mul (var 0) (num (pos 100))) (mul (num (pos 100)) (var 0)) refl in
    record { low = low x q (l *ℤ pos 0) none least up; high = high x q l (l *ℤ pos 100) turn most down }
  where
    some : (o : ℕ) → o ≤ 99 → pos 0 ≤ℤ (pos 100 -ℤ pos o)
    some o h = omega (arith, ints)

    all : (o : ℕ) → (pos 100 -ℤ pos o) ≤ℤ pos 100
    all o = omega (arith, ints)

    low : (x q z : ℤ) → z ≡ pos 0 → z ≤ℤ x → x <ℤ (pos 100 *ℤ q +ℤ pos 100) → pos 0 ≤ℤ q
    low x q z e a b = omega (arith, ints)

    high : (x q l z : ℤ) → z ≡ pos 100 *ℤ l → x ≤ℤ z → (pos 100 *ℤ q) ≤ℤ x → q ≤ℤ l
    high x q l z e a b = omega (arith, ints)

pub pitch_part : (x p : ℤ) → pos 0 ≤ℤ x → pos 2000 ≤ℤ p → IsPart x (int_div_euclid x p)
pitch_part x p x_in wide =
    let q : ℤ = int_div_euclid x p in
    let is : q ≡ pos (unsigned_abs q) = quotient_size p x (positive p wide) x_in in
    let some : pos 0 ≤ℤ q = subst (λ z. pos 0 ≤ℤ z) (sym is) (whole (unsigned_abs q)) in
    let grown = mul_le_left q (pos 1) p some (one p wide) in
    record { low = some; high = by (q *ℤ pos 1) (q *ℤ p) (p *ℤ q) q x (ring (q ∷ []) (mul (var 0) (num (pos 1))) (var 0) refl) (ring (q ∷ p ∷ []) (mul (var 0) (var 1)) (mul (var 1) (var 0)) refl) grown (rounded_low x p q (positive p wide) refl) }
  where
    positive : (p : ℤ) → pos 2000 ≤ℤ p → pos 0 <ℤ p
    positive p h = omega (arith, ints)

    one : (p : ℤ) → pos 2000 ≤ℤ p → pos 1 ≤ℤ p
    one p h = omega (arith, ints)

    whole : (n : ℕ) → pos 0 ≤ℤ pos n
    whole n = omega (arith, ints)

    by : (a b d q x : ℤ) → a ≡ q → b ≡ d → a ≤ℤ b → d ≤ℤ x → q ≤ℤ x
    by a b d q x e f h k = omega (arith, ints)

-- what is left of a radius
pub left_of : (r h : ℤ) → h <ℤ r → pos 0 ≤ℤ (r -ℤ h)
left_of r h l = omega (arith, ints)

pub under_thick : (r h : ℤ) → pos 0 ≤ℤ h → r ≤ℤ pos 5000000 → (r -ℤ h) ≤ℤ pos 5000000
under_thick r h l k = omega (arith, ints)

pub stride_by : (p h r : ℤ) (o m : ℕ) (rows q : ℤ) → o ≤ 99 → q ≡ int_div_euclid (r -ℤ h) p → rows ≡ int_div_euclid (pos 2 *ℤ q *ℤ (pos 100 -ℤ pos o)) (pos 100) → m ≡ max (unsigned_abs rows) 1 → m ≡ stride_of p h r o
unfolding stride_of
stride_by p h r o m rows q few q_is rows_is is =
    let left : pos 100 -ℤ pos o ≡ pos (100 - o) = less o few in
    let same : rows ≡ int_div_euclid (pos 2 *ℤ int_div_euclid (r -ℤ h) p *ℤ pos (100 - o)) (pos 100) =
    rows_is ∙ ap (λ z. int_div_euclid (pos 2 *ℤ z *ℤ (pos 100 -ℤ pos o)) (pos 100)) q_is ∙ ap (λ z. int_div_euclid (pos 2 *ℤ int_div_euclid (r -ℤ h) p *ℤ z) (pos 100)) left in
    is ∙ turn (unsigned_abs rows) ∙ ap (λ z. max 1 (unsigned_abs z)) same
  where
    less : (o : ℕ) → o ≤ 99 → pos 100 -ℤ pos o ≡ pos (100 - o)
    less o h = omega (arith, ints)

    turn : (n : ℕ) → max n 1 ≡ max 1 n
    turn n = omega arith
