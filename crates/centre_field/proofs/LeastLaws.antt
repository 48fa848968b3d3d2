-- The least distance, one number further.
use Rattle.std.proofs.Common.{◌≡◌, ℕ, ◌<◌, ◌≤◌, ◌+◌, ◌*◌, ◌/◌, ◌%◌, ◌⊎◌, inl, inr, Bool, true, false, min, refl, sym, ap, subst, ◌∙◌, arith}
use Rattle.std.proofs.lemmas.Bool.{cases_lt, cases_eq}
use Rattle.std.proofs.lemmas.Nat.{mod-mul-add, div-mul-add, mul-le}
use Rattle.std.specs.Int.{abs_diff}
use Rattle.centre_field.specs.Distances.{square_gap, square_to_place, none, IsLeast}

-- of no number
pub least_none : (P : ℕ → Bool) (D : ℕ → ℕ) → IsLeast P D 0 none
least_none P D = record { bound = λ a h k. absurd (omega arith); reached = inr (refl, λ a h. absurd (omega arith)) }

never_both : {b : Bool} → b ≡ true → b ≡ false → ⊥
never_both p q = cc

-- a number that fails the test
pub least_skipped : (P : ℕ → Bool) (D : ℕ → ℕ) (n n' v : ℕ) → IsLeast P D n v → P n ≡ false → n' ≡ n + 1 → IsLeast P D n' v
least_skipped P D n n' v p off next = record {
  bound = λ a h k. elim (cases_eq a n) as (λ _. v ≤ D a) [
    | inl same ↦ absurd (never_both (subst (λ (x : ℕ). P x ≡ true) same k) off)
    | inr other ↦ p.bound a (omega arith) k
  ];
  reached = elim p.reached as (λ _. ((a : ℕ) × ((a < n') × ((P a ≡ true) × (v ≡ D a)))) ⊎ ((v ≡ none) × ((a : ℕ) → a < n' → P a ≡ false))) [
    | inl w ↦ inl (w.0, (let h = w.1.0 in omega arith, w.1.1))
    | inr w ↦ inr (
      w.0,
      λ a h. elim (cases_eq a n) as (λ _. P a ≡ false) [
        | inl same ↦ subst (λ (x : ℕ). P x ≡ false) (sym same) off
        | inr other ↦ w.1 a (omega arith)
      ],
    )
  ];
}

-- a number that passes it
pub least_more : (P : ℕ → Bool) (D : ℕ → ℕ) (n n' v d v' : ℕ) → IsLeast P D n v → P n ≡ true → n' ≡ n + 1 → d ≡ D n → d ≤ none → v' ≡ min v d → IsLeast P D n' v'
least_more P D n n' v d v' p on next is small new = record {
  bound = λ a h k. elim (cases_eq a n) as (λ _. v' ≤ D a) [
    | inl same ↦ let e : D a ≡ D n = ap D same in omega arith
    | inr other ↦ let b = p.bound a (omega arith) k in omega arith
  ];
  reached = elim (cases_lt v d) as (λ _. ((a : ℕ) × ((a < n') × ((P a ≡ true) × (v' ≡ D a)))) ⊎ ((v' ≡ none) × ((a : ℕ) → a < n' → P a ≡ false))) [
    | inl before ↦ elim p.reached as (λ _. ((a : ℕ) × ((a < n') × ((P a ≡ true) × (v' ≡ D a)))) ⊎ ((v' ≡ none) × ((a : ℕ) → a < n' → P a ≡ false))) [
      | inl w ↦ inl (w.0, (let h = w.1.0 in omega arith, (w.1.1.0, let e = w.1.1.1 in omega arith)))
      | inr w ↦ absurd (let e = w.0 in omega arith)
    ]
    | inr after ↦ inl (n, (omega arith, (on, omega arith)))
  ];
}

-- the squared distance to the cell in column a and row b
pub square_to : (w x y a b n : ℕ) → a < w → n ≡ b * w + a → square_to_place w x y n ≡ square_gap x a + square_gap y b
unfolding square_to_place
square_to w x y a b n h e =
    let m : n % w ≡ a = ap (λ (k : ℕ). k % w) e ∙ mod-mul-add b w a h in
    let d : n / w ≡ b = ap (λ (k : ℕ). k / w) e ∙ div-mul-add b w a h in
    cc

-- the square of a distance below 32,768
pub small_square : (a b d : ℕ) → a < 32768 → b < 32768 → d ≡ abs_diff a b → d * d ≤ 1073676289
small_square a b d h k e = mul-le d d 32767 32767 (omega arith) (omega arith)

pub sum_of : (a b x y d : ℕ) → a ≡ x → b ≡ y → d ≡ x + y → a + b ≡ d
sum_of a b x y d p q e = omega arith
