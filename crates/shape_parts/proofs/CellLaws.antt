-- the half diagonal of a pitch is one number
use Rattle.std.proofs.Common.{◌≡◌, ℤ, pos, ◌-ℤ◌, ◌*ℤ◌, ◌≤ℤ◌, ◌<ℤ◌, [], ◌∷◌, refl, arith}
use Rattle.std.proofs.lemmas.Int.{by_lt_z}
use borrow.Author.Differences.{ints}
use Rattle.number_laws.proofs.Order.{mul_le_left, le_trans_ℤ}
use Rattle.number_laws.proofs.Ring.{var, mul, ring}
use Rattle.board_base.specs.declared.places.Point.{Point}
use Rattle.board_base.specs.Lattice.{IsHalfDiagonal}

pub same_point : (p q : Point) → p.x ≡ q.x → p.y ≡ q.y → p ≡ q
same_point p q ex ey = λ t. record { x = ex t; y = ey t }

-- no half diagonal is above another
not_above : (p h k : ℤ) → IsHalfDiagonal p h → IsHalfDiagonal p k → h ≤ℤ k
not_above p h k d e =
    by_lt_z k h
    (λ (l : k <ℤ h). absurd (apart (k *ℤ k) ((h -ℤ pos 1) *ℤ (h -ℤ pos 1)) (p *ℤ p) (squares k (h -ℤ pos 1) (weak k e.positive) (less k h l)) d.least e.enough))
    (λ (l : h ≤ℤ k). l)
  where
    weak : (k : ℤ) → pos 0 <ℤ k → pos 0 ≤ℤ k
    weak k h = omega (arith, ints)

    less : (k h : ℤ) → k <ℤ h → k ≤ℤ (h -ℤ pos 1)
    less k h l = omega (arith, ints)

    squares : (a b : ℤ) → pos 0 ≤ℤ a → a ≤ℤ b → (a *ℤ a) ≤ℤ (b *ℤ b)
    squares a b h l = le_trans_ℤ (a *ℤ a) (a *ℤ b) (b *ℤ b) (mul_le_left a a b h l) (rw (ring (a ∷ b ∷ []) (mul (var 0) (var 1)) (mul (var 1) (var 0)) refl) (mul_le_left b a b (le_trans_ℤ (pos 0) a b h l) l))

    apart : (s t u : ℤ) → s ≤ℤ t → (pos 2 *ℤ t) <ℤ u → u ≤ℤ (pos 2 *ℤ s) → ⊥
    apart s t u h k l = omega (arith, ints)

pub half_unique : (p h k : ℤ) → IsHalfDiagonal p h → IsHalfDiagonal p k → h ≡ k
half_unique p h k d e = same h k (not_above p h k d e) (not_above p k h e d)
  where
    same : (h k : ℤ) → h ≤ℤ k → k ≤ℤ h → h ≡ k
    same h k l m = omega (arith, ints)
