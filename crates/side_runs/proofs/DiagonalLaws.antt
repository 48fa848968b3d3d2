-- Half the diagonal of a cell of any pitch.
use Rattle.std.proofs.Common.{◌≡◌, ℕ, zero, suc, ◌+◌, ◌-◌, ◌*◌, ◌/◌, ◌<◌, ◌≤◌, inl, inr, ℤ, pos, ◌-ℤ◌, ◌*ℤ◌, ◌≤ℤ◌, ◌<ℤ◌, unsigned_abs, sym, subst, arith}
use Rattle.std.specs.Int.{int_div_euclid}
use Rattle.std.proofs.lemmas.Bool.{cases_lt}
use borrow.Author.Differences.{ints}
use Rattle.board_base.specs.Lattice.{IsPitch, IsHalfDiagonal, half_diagonal_of}
use Rattle.board_base.proofs.DiagonalLaws.{IsRoot, root_enough, root_least, root_is}

-- the whole root of a number
record IsRootOf (n r : ℕ) : Type 0 where
  low : r * r ≤ n
  high : n < (r + 1) * (r + 1)

whole_root : (n : ℕ) → (r : ℕ) × IsRootOf n r
whole_root zero = (0, record { low = omega arith; high = omega arith })
whole_root (suc n) = next (whole_root n)
  where
    more : (r : ℕ) → r * r ≤ n → r * r ≤ suc n
    more r h = omega (arith, h)

    up : (r : ℕ) → n < (r + 1) * (r + 1) → (r + 1) * (r + 1) ≤ suc n → suc n < (r + 1 + 1) * (r + 1 + 1)
    up r h k = omega (arith, h, k)

    next : ((r : ℕ) × IsRootOf n r) → (r : ℕ) × IsRootOf (suc n) r
    next (r, root) = elim (cases_lt (suc n) ((r + 1) * (r + 1))) as (λ _. (r : ℕ) × IsRootOf (suc n) r) [
      | inl less ↦ (r, record { low = more r root.low; high = less })
      | inr past ↦ (r + 1, record { low = past; high = up r root.high past })
    ]

-- in whole numbers and in signed ones
halved : (p : ℤ) (m h : ℕ) → p ≡ pos m → m * m ≤ 2 * ((h + 1) * (h + 1)) → 2 * ((h + 1 - 1) * (h + 1 - 1)) < m * m → IsHalfDiagonal p (pos (h + 1))
halved p m h e enough least = subst (λ (q : ℤ). IsHalfDiagonal q (pos (h + 1))) (sym e) (record {
  positive = omega (arith, ints);
  enough = up (m * m) (2 * ((h + 1) * (h + 1))) enough;
  least = subst (λ (z : ℤ). (pos 2 *ℤ (z *ℤ z)) <ℤ pos (m * m)) (sym (one_less h)) (below (2 * ((h + 1 - 1) * (h + 1 - 1))) (m * m) least);
})
  where
    one_less : (h : ℕ) → pos (h + 1) -ℤ pos 1 ≡ pos (h + 1 - 1)
    one_less h = omega (arith, ints)

    up : (a b : ℕ) → a ≤ b → pos a ≤ℤ pos b
    up a b h = omega (arith, ints)

    below : (a b : ℕ) → a < b → pos a <ℤ pos b
    below a b h = omega (arith, ints)

pub half_diagonal_is : (p : ℤ) → IsPitch p → IsHalfDiagonal p (half_diagonal_of p)
unfolding half_diagonal_of
half_diagonal_is p pitch =
    let m : ℕ = unsigned_abs p in
    let half : ℕ = unsigned_abs (int_div_euclid p (pos 2)) in
    let root = whole_root (m * m / 2 - 1) in
    let is : IsRoot m half root.0 = record { even = even p (int_div_euclid p (pos 2)) pitch.even pitch.low; low = low p pitch.low; square = root.1.low; next = root.1.high } in
    subst (λ (n : ℕ). IsHalfDiagonal p (pos n)) (sym (root_is m half root.0 is)) (halved p m root.0 (size p pitch.low) (root_enough m half root.0 is) (root_least m half root.0 is))
  where
    even : (p q : ℤ) → p ≡ pos 2 *ℤ q → pos 250 ≤ℤ p → unsigned_abs p ≡ 2 * unsigned_abs q
    even p q e h = omega (arith, ints)

    low : (p : ℤ) → pos 250 ≤ℤ p → 0 < unsigned_abs p
    low p h = omega (arith, ints)

    size : (p : ℤ) → pos 250 ≤ℤ p → p ≡ pos (unsigned_abs p)
    size p h = omega (arith, ints)
