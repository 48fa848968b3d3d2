-- Steps along the lattice towards a cell some unit steps on, and how many there are.
use Rattle.std.proofs.Common.{◌≡◌, ◌⊎◌, inl, inr, ℕ, zero, suc, ◌*◌, ◌/◌, ◌<◌, ◌≤◌, ℤ, pos, negsuc, neg_ℤ, ◌+ℤ◌, ◌-ℤ◌, ◌*ℤ◌, ◌≤ℤ◌, ◌<ℤ◌, cond, Bool, true, false, [], ◌∷◌, refl, sym, ap, subst, ◌∙◌, arith}
use Rattle.std.specs.Prelude.{unsigned_abs, max, int_lt}
use Rattle.std.proofs.Math.Nat.{mul-div_cancel, max-eq_left, max-eq_right, zero-div}
use Rattle.std.proofs.lemmas.Int.{ints, unsigned_abs-mul}
use Rattle.number_laws.proofs.Laws.{one_mul, zero_mul, minus_one_mul}
use Rattle.number_laws.proofs.Order.{mul_pos}
use Rattle.number_laws.proofs.Ring.{ring, var, num, add, sub, mul}
use Rattle.number_laws.proofs.Tests.{true_lt, false_lt}
use Rattle.board_base.specs.Lattice.{IsPitch, middle, half_of}
use Rattle.board_base.proofs.LatticeLaws.{pitch_positive}
use Rattle.chain_walk.specs.Runs.{IsUnit}
use Rattle.levelling.specs.Pieces.{step_towards}

-- ---- one axis

-- the middle of a column some unit steps on
pub moved : (p a v n : ℤ) → middle p (a +ℤ n *ℤ v) ≡ middle p a +ℤ n *ℤ (v *ℤ p)
unfolding middle
moved p a v n =
    ring (p ∷ a ∷ v ∷ n ∷ half_of p ∷ []) (add (mul (add (var 1) (mul (var 3) (var 2))) (var 0)) (var 4)) (add (add (mul (var 1) (var 0)) (var 4)) (mul (var 3) (mul (var 2) (var 0)))) refl

way_is : (p a v n : ℤ) → middle p (a +ℤ n *ℤ v) -ℤ middle p a ≡ n *ℤ (v *ℤ p)
way_is p a v n = by (middle p a) (middle p (a +ℤ n *ℤ v)) (n *ℤ (v *ℤ p)) (moved p a v n)
  where
    by : (x y d : ℤ) → y ≡ x +ℤ d → y -ℤ x ≡ d
    by x y d e = omega (arith, ints, e)

step_by : (p a b s : ℤ) → (a <ℤ b → s ≡ p) → (b <ℤ a → s ≡ neg_ℤ p) → (a ≡ b → s ≡ pos 0) → step_towards p a b ≡ s
step_by p a b s up down none = by_test (int_lt a b) (int_lt b a) refl refl
  where
    equal : (x y : ℤ) → y ≤ℤ x → x ≤ℤ y → x ≡ y
    equal x y h k = omega (arith, ints, h, k)

    by_test : (l m : Bool) → int_lt a b ≡ l → int_lt b a ≡ m → cond l p (cond m (neg_ℤ p) (pos 0)) ≡ s
    by_test true m e f = sym (up (true_lt a b e))
    by_test false true e f = sym (down (true_lt b a f))
    by_test false false e f = sym (none (equal a b (false_lt a b e) (false_lt b a f)))

unit_cases : (v : ℤ) → IsUnit v → (v ≡ negsuc 0) ⊎ ((v ≡ pos 0) ⊎ (v ≡ pos 1))
unit_cases (pos zero) u = inr (inl refl)
unit_cases (pos (suc zero)) u = inr (inr refl)
unit_cases (pos (suc (suc n))) u = absurd (let h = u.high in omega (arith, ints, h))
unit_cases (negsuc zero) u = inl refl
unit_cases (negsuc (suc n)) u = absurd (let h = u.low in omega (arith, ints, h))

-- the step towards a column some unit steps on is one of these steps
step_is : (p a v : ℤ) (n : ℕ) → IsPitch p → IsUnit v → 0 < n → step_towards p (middle p a) (middle p (a +ℤ pos n *ℤ v)) ≡ v *ℤ p
step_is p a v n h u some = elim (unit_cases v u) as (λ _. step_towards p (middle p a) (middle p (a +ℤ pos n *ℤ v)) ≡ v *ℤ p) [
  | inl e ↦ subst (λ (w : ℤ). step_towards p (middle p a) (middle p (a +ℤ pos n *ℤ w)) ≡ w *ℤ p) (sym e) down
  | inr f ↦ elim f as (λ _. step_towards p (middle p a) (middle p (a +ℤ pos n *ℤ v)) ≡ v *ℤ p) [
    | inl e ↦ subst (λ (w : ℤ). step_towards p (middle p a) (middle p (a +ℤ pos n *ℤ w)) ≡ w *ℤ p) (sym e) none
    | inr e ↦ subst (λ (w : ℤ). step_towards p (middle p a) (middle p (a +ℤ pos n *ℤ w)) ≡ w *ℤ p) (sym e) up
  ]
]
  where
    far : pos 0 <ℤ (pos n *ℤ p)
    far = mul_pos (pos n) p (positive n some) (pitch_positive p h)
      where
        positive : (n : ℕ) → 0 < n → pos 0 <ℤ pos n
        positive n k = omega (arith, ints, k)

    up : step_towards p (middle p a) (middle p (a +ℤ pos n *ℤ pos 1)) ≡ pos 1 *ℤ p
    up =
        let is : pos n *ℤ (pos 1 *ℤ p) ≡ pos n *ℤ p = ap (λ (z : ℤ). pos n *ℤ z) (one_mul p) in
        by (middle p a) (middle p (a +ℤ pos n *ℤ pos 1)) (pos n *ℤ (pos 1 *ℤ p)) (pos n *ℤ p) (moved p a (pos 1) (pos n)) is far
      where
        by : (x y d f : ℤ) → y ≡ x +ℤ d → d ≡ f → pos 0 <ℤ f → step_towards p x y ≡ pos 1 *ℤ p
        by x y d f e i k = step_by p x y (pos 1 *ℤ p) (λ l. one_mul p) (λ l. absurd (omega (arith, ints, e, i, k, l))) (λ l. absurd (omega (arith, ints, e, i, k, l)))

    none : step_towards p (middle p a) (middle p (a +ℤ pos n *ℤ pos 0)) ≡ pos 0 *ℤ p
    none =
        by (middle p a) (middle p (a +ℤ pos n *ℤ pos 0)) (pos n *ℤ (pos 0 *ℤ p)) (moved p a (pos 0) (pos n))
        (ring (p ∷ pos n ∷ []) (mul (var 1) (mul (num (pos 0)) (var 0))) (num (pos 0)) refl)
      where
        by : (x y d : ℤ) → y ≡ x +ℤ d → d ≡ pos 0 → step_towards p x y ≡ pos 0 *ℤ p
        by x y d e i = step_by p x y (pos 0 *ℤ p) (λ l. absurd (omega (arith, ints, e, i, l))) (λ l. absurd (omega (arith, ints, e, i, l))) (λ l. zero_mul p)

    down : step_towards p (middle p a) (middle p (a +ℤ pos n *ℤ negsuc 0)) ≡ negsuc 0 *ℤ p
    down =
        by (middle p a) (middle p (a +ℤ pos n *ℤ negsuc 0)) (pos n *ℤ (negsuc 0 *ℤ p)) (pos n *ℤ p) (moved p a (negsuc 0) (pos n))
        (ring (p ∷ pos n ∷ []) (mul (var 1) (mul (num (negsuc 0)) (var 0))) (sub (num (pos 0)) (mul (var 1) (var 0))) refl) far
      where
        by : (x y d f : ℤ) → y ≡ x +ℤ d → d ≡ pos 0 -ℤ f → pos 0 <ℤ f → step_towards p x y ≡ negsuc 0 *ℤ p
        by x y d f e i k = step_by p x y (negsuc 0 *ℤ p) (λ l. absurd (omega (arith, ints, e, i, k, l))) (λ l. minus_one_mul p) (λ l. absurd (omega (arith, ints, e, i, k, l)))

-- so many steps towards it
pub steps_on : (p a v : ℤ) (n t : ℕ) → IsPitch p → IsUnit v → 0 < n → middle p a +ℤ pos t *ℤ step_towards p (middle p a) (middle p (a +ℤ pos n *ℤ v)) ≡ middle p (a +ℤ pos t *ℤ v)
steps_on p a v n t h u some = ap (λ (s : ℤ). middle p a +ℤ pos t *ℤ s) (step_is p a v n h u some) ∙ sym (moved p a v (pos t))

-- no step at all
pub no_steps : (p a v s : ℤ) → middle p a +ℤ pos 0 *ℤ s ≡ middle p (a +ℤ pos 0 *ℤ v)
no_steps p a v s =
    ring (middle p a ∷ s ∷ v ∷ p ∷ []) (add (var 0) (mul (num (pos 0)) (var 1))) (add (var 0) (mul (num (pos 0)) (mul (var 2) (var 3)))) refl
    ∙ sym (moved p a v (pos 0))

-- ---- how many steps there are

size_along : (p a v : ℤ) (n : ℕ) → unsigned_abs (middle p (a +ℤ pos n *ℤ v) -ℤ middle p a) ≡ n * (unsigned_abs v * unsigned_abs p)
size_along p a v n =
    ap unsigned_abs (way_is p a v (pos n)) ∙ unsigned_abs-mul (pos n) (v *ℤ p) ∙ ap (λ (k : ℕ). n * k) (unsigned_abs-mul v p)

unit_size : (v : ℤ) → IsUnit v → unsigned_abs v ≤ 1
unit_size v u = let l = u.low in let h = u.high in omega (arith, ints, l, h)

no_unit : (v : ℤ) → unsigned_abs v ≡ 0 → v ≡ pos 0
no_unit v e = omega (arith, ints, e)

once : (n q : ℕ) → n * (1 * q) ≡ n * q
once n q = ap (λ (k : ℕ). n * k) (one q)
  where
    one : (q : ℕ) → 1 * q ≡ q
    one q = omega arith

never : (n q : ℕ) → n * (0 * q) ≡ 0
never n q = ap (λ (k : ℕ). n * k) (none q) ∙ nothing n
  where
    none : (q : ℕ) → 0 * q ≡ 0
    none q = omega arith

    nothing : (n : ℕ) → n * 0 ≡ 0
    nothing n = omega arith

-- a way of n unit steps, as wide as the longer of its sides, has n steps, or no side at all
count_by : (x y n q : ℕ) → x ≤ 1 → y ≤ 1 → 0 < q → (max (n * (x * q)) (n * (y * q)) / q ≡ n) ⊎ ((max (n * (x * q)) (n * (y * q)) / q ≡ 0) × (x ≡ 0) × (y ≡ 0))
count_by zero zero n q h k some = inr (ap (λ (s : ℕ). max s s / q) (never n q) ∙ zero-div q, refl, refl)
count_by zero (suc zero) n q h k some =
    inl (ap (λ (s : ℕ). max s (n * (1 * q)) / q) (never n q) ∙ ap (λ (s : ℕ). s / q) (max-eq_right (low (n * (1 * q)))) ∙ ap (λ (s : ℕ). s / q) (once n q) ∙ mul-div_cancel n some)
  where
    low : (s : ℕ) → 0 ≤ s
    low s = omega arith
count_by (suc zero) zero n q h k some =
    inl (ap (λ (s : ℕ). max (n * (1 * q)) s / q) (never n q) ∙ ap (λ (s : ℕ). s / q) (max-eq_left (low (n * (1 * q)))) ∙ ap (λ (s : ℕ). s / q) (once n q) ∙ mul-div_cancel n some)
  where
    low : (s : ℕ) → 0 ≤ s
    low s = omega arith
count_by (suc zero) (suc zero) n q h k some = inl (ap (λ (s : ℕ). s / q) (max-eq_left (same (n * (1 * q)))) ∙ ap (λ (s : ℕ). s / q) (once n q) ∙ mul-div_cancel n some)
  where
    same : (s : ℕ) → s ≤ s
    same s = omega arith
count_by (suc (suc x)) y n q h k some = absurd (omega (arith, h))
count_by zero (suc (suc y)) n q h k some = absurd (omega (arith, k))
count_by (suc zero) (suc (suc y)) n q h k some = absurd (omega (arith, k))

-- so many unit steps on are so many steps, or none
pub count_is : (p a b e f : ℤ) (n : ℕ) → IsPitch p → IsUnit e → IsUnit f
    → (max (unsigned_abs (middle p (a +ℤ pos n *ℤ e) -ℤ middle p a)) (unsigned_abs (middle p (b +ℤ pos n *ℤ f) -ℤ middle p b)) / unsigned_abs p ≡ n)
    ⊎ ((max (unsigned_abs (middle p (a +ℤ pos n *ℤ e) -ℤ middle p a)) (unsigned_abs (middle p (b +ℤ pos n *ℤ f) -ℤ middle p b)) / unsigned_abs p ≡ 0) × (e ≡ pos 0) × (f ≡ pos 0))
count_is p a b e f n h u v =
    let sizes : max (unsigned_abs (middle p (a +ℤ pos n *ℤ e) -ℤ middle p a)) (unsigned_abs (middle p (b +ℤ pos n *ℤ f) -ℤ middle p b)) / unsigned_abs p
    ≡ max (n * (unsigned_abs e * unsigned_abs p)) (n * (unsigned_abs f * unsigned_abs p)) / unsigned_abs p = λ i. max (size_along p a e n i) (size_along p b f n i) / unsigned_abs p in
    by_case sizes (count_by (unsigned_abs e) (unsigned_abs f) n (unsigned_abs p) (unit_size e u) (unit_size f v) (some p h.low))
  where
    some : (p : ℤ) → pos 250 ≤ℤ p → 0 < unsigned_abs p
    some p h = omega (arith, ints, h)

    by_case : {x y : ℕ} → x ≡ y → (y ≡ n) ⊎ ((y ≡ 0) × (unsigned_abs e ≡ 0) × (unsigned_abs f ≡ 0)) → (x ≡ n) ⊎ ((x ≡ 0) × (e ≡ pos 0) × (f ≡ pos 0))
    by_case same (inl k) = inl (same ∙ k)
    by_case same (inr (k, i, j)) = inr (same ∙ k, no_unit e i, no_unit f j)
