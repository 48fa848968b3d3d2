-- Of two columns the left one is no farther up to one number, and the right one is nearer past it.
use Rattle.std.proofs.Common.{◌≡◌, ℕ, ◌+◌, ◌-◌, ◌*◌, ◌/◌, ◌<◌, ◌≤◌, inl, inr, true, false, nat_lt, arith}
use Rattle.std.proofs.lemmas.Bool.{cases_lt}
use Rattle.std.proofs.lemmas.Bool.Decides.{nat_tests}
use Rattle.std.proofs.lemmas.Nat.{div-add-mod', mod_below}
use Rattle.std.proofs.Math.Nat.{mul-le-mul_right}
use Rattle.std.specs.Int.{abs_diff}
use Rattle.number_laws.proofs.Tests.{by_bool}
use Rattle.centre_field.specs.Distances.{square_gap}
use Rattle.centre_field.specs.Rows.{value_at, start_from}

-- from where on column b is nearer than column a
abbrev pub start_of : (ℕ → ℕ) → ℕ → ℕ → ℕ
start_of G a b = start_from a (G a) b (G b)

-- the value and twice the product
expanded : (G : ℕ → ℕ) (x a : ℕ) → value_at G x a + 2 * (x * a) ≡ x * x + (a * a + G a)
unfolding value_at square_gap
expanded G x a = elim (cases_lt x a) as (λ _. abs_diff x a * abs_diff x a + G a + 2 * (x * a) ≡ x * x + (a * a + G a)) [
  | inl h ↦ below x a (G a) (a - x) (omega arith)
  | inr h ↦ above x a (G a) (x - a) (omega arith)
]
  where
    below : (x a s d : ℕ) → a ≡ x + d → abs_diff x a * abs_diff x a + s + 2 * (x * a) ≡ x * x + (a * a + s)
    below x a s d e =
        let y : abs_diff x a ≡ d = omega arith in
        rw (y, e) (omega arith)

    above : (x a s d : ℕ) → x ≡ a + d → abs_diff x a * abs_diff x a + s + 2 * (x * a) ≡ x * x + (a * a + s)
    above x a s d e =
        let y : abs_diff x a ≡ d = omega arith in
        rw (y, e) (omega arith)

-- x is at most a quotient exactly where its product is at most the number
below_quotient : (x t d : ℕ) → 0 < d → x < t / d + 1 → x * d ≤ t
below_quotient x t d h l =
    let e = div-add-mod' t d in
    let m : x * d ≤ t / d * d = mul-le-mul_right d (omega arith) in
    omega arith

past_quotient : (x t d : ℕ) → 0 < d → t / d + 1 ≤ x → t < x * d
past_quotient x t d h l =
    let e = div-add-mod' t d in
    let r = mod_below t d h in
    let m : (t / d + 1) * d ≤ x * d = mul-le-mul_right d l in
    omega arith

not_less : (B A : ℕ) → nat_lt B A ≡ false → A ≤ B
not_less B A e = grind (arith, nat_tests)

less : (B A : ℕ) → nat_lt B A ≡ true → B < A
less B A e = grind (arith, nat_tests)

grows : (x a b : ℕ) → a ≤ b → x * a ≤ x * b
grows x a b h = grind arith

-- the product over the way from a to b
spread : (x a b : ℕ) → a ≤ b → x * (2 * (b - a)) + 2 * (x * a) ≡ 2 * (x * b)
spread x a b h = by x a b (b - a) (omega arith)
  where
    by : (x a b k : ℕ) → b ≡ a + k → x * (2 * k) + 2 * (x * a) ≡ 2 * (x * b)
    by x a b k e = rw e (omega arith)

-- before its start the right column is no better
pub left_better : (G : ℕ → ℕ) (a b x : ℕ) → a < b → x < start_of G a b → value_at G x a ≤ value_at G x b
unfolding start_from
left_better G a b x h l =
    let A = a * a + G a in
    let B = b * b + G b in
    by_bool (nat_lt B A) (λ t. absurd (never x (simp t at l)))
    (λ t. sum_up (value_at G x a) (value_at G x b) (x * a) (x * b) (x * x) A B (x * (2 * (b - a))) (expanded G x a) (expanded G x b) (not_less B A t)
    (below_quotient x (B - A) (2 * (b - a)) (omega arith) (simp t at l)) (spread x a b (omega arith)))
  where
    never : (x : ℕ) → x < 0 → ⊥
    never x h = omega arith

    sum_up : (va vb xa xb xx A B p : ℕ) → va + 2 * xa ≡ xx + A → vb + 2 * xb ≡ xx + B → A ≤ B → p ≤ B - A → p + 2 * xa ≡ 2 * xb → va ≤ vb
    sum_up va vb xa xb xx A B p e f o q s = omega arith

-- from its start on it is better
pub right_better : (G : ℕ → ℕ) (a b x : ℕ) → a < b → start_of G a b ≤ x → value_at G x b < value_at G x a
unfolding start_from
right_better G a b x h l =
    let A = a * a + G a in
    let B = b * b + G b in
    by_bool (nat_lt B A)
    (λ t. first (value_at G x a) (value_at G x b) (x * a) (x * b) (x * x) A B (expanded G x a) (expanded G x b) (less B A t) (grows x a b (omega arith)))
    (λ t. second (value_at G x a) (value_at G x b) (x * a) (x * b) (x * x) A B (x * (2 * (b - a))) (expanded G x a) (expanded G x b) (not_less B A t)
    (past_quotient x (B - A) (2 * (b - a)) (omega arith) (simp t at l)) (spread x a b (omega arith)))
  where
    first : (va vb xa xb xx A B : ℕ) → va + 2 * xa ≡ xx + A → vb + 2 * xb ≡ xx + B → B < A → xa ≤ xb → vb < va
    first va vb xa xb xx A B e f o m = omega arith

    second : (va vb xa xb xx A B p : ℕ) → va + 2 * xa ≡ xx + A → vb + 2 * xb ≡ xx + B → A ≤ B → B - A < p → p + 2 * xa ≡ 2 * xb → vb < va
    second va vb xa xb xx A B p e f o q s = omega arith

-- where b is nearer than a, its start is past
pub started : (G : ℕ → ℕ) (a b x : ℕ) → a < b → value_at G x b < value_at G x a → start_of G a b ≤ x
started G a b x h l = elim (cases_lt x (start_of G a b)) as (λ _. start_of G a b ≤ x) [
  | inl before ↦ absurd (let k = left_better G a b x h before in omega arith)
  | inr after ↦ after
]

-- where it isn't, its start is to come
pub not_started : (G : ℕ → ℕ) (a b x : ℕ) → a < b → value_at G x a ≤ value_at G x b → x < start_of G a b
not_started G a b x h l = elim (cases_lt x (start_of G a b)) as (λ _. x < start_of G a b) [
  | inl before ↦ before
  | inr after ↦ absurd (let k = right_better G a b x h after in omega arith)
]
