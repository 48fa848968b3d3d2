-- What lies outside on one axis isn't near.
use Rattle.std.proofs.Common.{◌≡◌, ℤ, pos, ◌+ℤ◌, ◌-ℤ◌, ◌*ℤ◌, ◌≤ℤ◌, ◌<ℤ◌, Bool, true, false, ◌⊎◌, inl, inr, refl, sym, arith}
use Rattle.std.proofs.lemmas.Bool.{false_from_ne_true}
use Rattle.std.proofs.lemmas.Int.{by_lt_z}
use borrow.Author.Differences.{ints}
use Rattle.board_base.specs.declared.places.Point.{Point}
use Rattle.board_base.specs.Near.{near_of}
use Rattle.plane_geom.proofs.Segment.{IsReached}
use Rattle.plane_geom.proofs.Axis.{axis_low, axis_high, reached_of, first_part, second_part}
use Rattle.outline_bridges.specs.Steps.{IsOutside}

-- a point of the segment keeps c from being outside
not_outside : (m n d a b c : ℤ) → pos 0 <ℤ n → pos 0 ≤ℤ m → m ≤ℤ n → pos 0 ≤ℤ d
    → (pos 4 *ℤ ((n *ℤ (c -ℤ a) -ℤ m *ℤ (b -ℤ a)) *ℤ (n *ℤ (c -ℤ a) -ℤ m *ℤ (b -ℤ a)))) ≤ℤ ((n *ℤ d) *ℤ (n *ℤ d)) → IsOutside c a b d → ⊥
not_outside m n d a b c n_pos m_low m_high d_in within (inl (below_a, below_b)) =
    by_lt_z a b
    (λ less. low a a b c (axis_low m n d a b c a n_pos m_low m_high d_in within (same a) (weak a b less)) below_a)
    (λ more. low b a b c (axis_low m n d a b c b n_pos m_low m_high d_in within more (same b)) below_b)
  where
    same : (z : ℤ) → z ≤ℤ z
    same z = omega (arith, ints)

    weak : (a b : ℤ) → a <ℤ b → a ≤ℤ b
    weak a b h = omega (arith, ints)

    low : (l a b c : ℤ) → (pos 2 *ℤ l) ≤ℤ (pos 2 *ℤ c +ℤ d) → (pos 2 *ℤ c +ℤ d) <ℤ (pos 2 *ℤ l) → ⊥
    low l a b c h k = omega (arith, ints)
not_outside m n d a b c n_pos m_low m_high d_in within (inr (above_a, above_b)) =
    by_lt_z a b
    (λ less. high b c (axis_high m n d a b c b n_pos m_low m_high d_in within (weak a b less) (same b)) above_b)
    (λ more. high a c (axis_high m n d a b c a n_pos m_low m_high d_in within (same a) more) above_a)
  where
    same : (z : ℤ) → z ≤ℤ z
    same z = omega (arith, ints)

    weak : (a b : ℤ) → a <ℤ b → a ≤ℤ b
    weak a b h = omega (arith, ints)

    high : (l c : ℤ) → (pos 2 *ℤ c) ≤ℤ (pos 2 *ℤ l +ℤ d) → (pos 2 *ℤ l +ℤ d) <ℤ (pos 2 *ℤ c) → ⊥
    high l c h k = omega (arith, ints)

pub far_along : (q u v : Point) (d : ℤ) → pos 0 ≤ℤ d → IsOutside q.x u.x v.x d → near_of q u v d ≡ false
far_along q u v d d_in out =
    false_from_ne_true (near_of q u v d) (λ near.
    let p = reached_of q u v d near in
    not_outside p.m p.n d u.x v.x q.x p.n_pos p.m_low p.m_high d_in (first_part _ _ _ p.within) out)

pub far_across : (q u v : Point) (d : ℤ) → pos 0 ≤ℤ d → IsOutside q.y u.y v.y d → near_of q u v d ≡ false
far_across q u v d d_in out =
    false_from_ne_true (near_of q u v d) (λ near.
    let p = reached_of q u v d near in
    not_outside p.m p.n d u.y v.y q.y p.n_pos p.m_low p.m_high d_in (second_part _ _ _ p.within) out)
