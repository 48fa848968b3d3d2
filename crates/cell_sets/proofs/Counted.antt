-- The visited cells as they are found, pass by pass and then the clearing rows; and numbers of worked boards.
use Rattle.std.proofs.Common.{◌≡◌, ◌⊎◌, ◌↔◌, inl, inr, ℕ, ◌+◌, ◌<◌, ℤ, pos, Bool, true, false, ◌||◌, Option, Some, refl, sym, subst, ◌∙◌, arith}
use Rattle.std.proofs.lemmas.Bool.{cases_lt}
use Rattle.number_laws.proofs.Tests.{left_true, right_true}
use Rattle.board_base.specs.declared.places.Cell.{Cell}
use Rattle.cell_sets.specs.Contour.{guard_of, IsAllowed, IsContour}
use Rattle.cell_sets.specs.Cleared.{IsOnClearingRow, stride_of}
use Rattle.cell_sets.specs.Passes.{ClearingRows, guard_at, IsVisitedBy}

-- on the contour of a pass before pass k
abbrev pub IsOnPassBefore : (ℕ → ℤ) → ℕ → (Cell → Bool) → Cell → Type 0
IsOnPassBefore guard k kept c = (j : ℕ) × ((j < k) × IsContour kept (guard j) c)

or_cases : (a b : Bool) → (a || b) ≡ true → (a ≡ true) ⊎ (b ≡ true)
or_cases true b e = inl refl
or_cases false b e = inr e

below_next : (j k : ℕ) → j < k + 1 → (j < k) ⊎ (j ≡ k)
below_next j k h = elim (cases_lt j k) as (λ _. (j < k) ⊎ (j ≡ k)) [ inl l ↦ inl l | inr g ↦ inr (omega (arith, g, h)) ]

-- one pass more
pub pass_more : (guard : ℕ → ℤ) (k : ℕ) (kept : Cell → Bool) (c : Cell) (was pass now : Bool) → now ≡ (was || pass)
    → was ≡ true ↔ IsOnPassBefore guard k kept c → pass ≡ true ↔ IsContour kept (guard k) c → now ≡ true ↔ IsOnPassBefore guard (k + 1) kept c
pass_more guard k kept c was pass now e w p = (
  λ n. elim (or_cases was pass (sym e ∙ n)) as (λ _. IsOnPassBefore guard (k + 1) kept c) [
    | inl t ↦ let b = w.0 t in (b.0, (omega (arith, b.1.0), b.1.1))
    | inr t ↦ (k, (omega arith, p.0 t))
  ],
  λ b. e ∙ elim (below_next b.0 k b.1.0) as (λ _. (was || pass) ≡ true) [
    | inl l ↦ left_true was pass (w.1 (b.0, (l, b.1.1)))
    | inr s ↦ right_true was pass (p.1 (subst (λ (j : ℕ). IsContour kept (guard j) c) s b.1.1))
  ],
)

-- the clearing rows after the last pass
pub rows_more : (guard : ℕ → ℤ) (last : ℕ) (cleared : ClearingRows) (kept : Cell → Bool) (c : Cell) (was pass now : Bool) → now ≡ (was || pass)
    → was ≡ true ↔ IsOnPassBefore guard (last + 1) kept c → pass ≡ true ↔ (IsOnClearingRow cleared.stride cleared.inner c × IsAllowed kept (guard 0) c)
    → now ≡ true ↔ IsVisitedBy guard last (Some cleared) kept c
rows_more guard last cleared kept c was pass now e w p = (
  λ n. elim (or_cases was pass (sym e ∙ n)) as (λ _. IsVisitedBy guard last (Some cleared) kept c) [
    | inl t ↦ let b = w.0 t in inl (b.0, (omega (arith, b.1.0), b.1.1))
    | inr t ↦ let r = p.0 t in inr (record { cleared = cleared; given = refl; row = r.0; allowed = r.1 })
  ],
  λ v. e ∙ visited v,
)
  where
    is_given : (x y : ClearingRows) → ◌≡◌ {A = Option ClearingRows} (Some x) (Some y) → x ≡ y
    is_given x y e = cc

    visited : IsVisitedBy guard last (Some cleared) kept c → (was || pass) ≡ true
    visited (inl b) = left_true was pass (w.1 (b.0, (omega (arith, b.1.0), b.1.1)))
    visited (inr r) = right_true was pass (p.1 (subst (λ (x : ClearingRows). IsOnClearingRow x.stride x.inner c) (sym (is_given cleared r.cleared r.given)) r.row, r.allowed))

-- a pitch of 0.2 mm, a cutter of 0.4 mm, a tolerance of 0.14 mm and no overlap: the second pass, and the stride
second_guard : guard_at (pos 342844) (pos 400000) (pos 200000) 1 ≡ pos 13
unfolding guard_at guard_of
second_guard = refl

least_stride : stride_of (pos 200000) (pos 141422) (pos 200000) 0 ≡ 1
unfolding stride_of
least_stride = refl

-- a cutter of 4 mm at the same pitch has nine whole pitches within: 18 rows, or 9 with half of them as overlap
wide_stride : stride_of (pos 200000) (pos 141422) (pos 2000000) 0 ≡ 18
unfolding stride_of
wide_stride = refl

half_stride : stride_of (pos 200000) (pos 141422) (pos 2000000) 50 ≡ 9
unfolding stride_of
half_stride = refl
