-- The cell that is named as hit.
use Rattle.std.proofs.Common.{◌≡◌, ℕ, ◌≤◌, ℤ, ◌≤ℤ◌, inl, inr, sym, subst, ◌∙◌, arith}
use Rattle.std.proofs.lemmas.Int.{by_lt_z}
use borrow.Author.Differences.{ints}
use Rattle.board_base.specs.declared.places.Cell.{Cell}
use Rattle.board_base.proofs.LatticeLaws.{same_cell}
use Rattle.cell_sets.specs.Chains.{IsBefore}
use Rattle.program_check.specs.Hits.{OneHit}

pub equal : (x y : ℤ) → y ≤ℤ x → x ≤ℤ y → x ≡ y
equal x y h k = omega (arith, ints)

-- of two cells one comes before the other, or they are one
one_cell : (c d : Cell) → (IsBefore c d → ⊥) → (IsBefore d c → ⊥) → c ≡ d
one_cell c d f g =
    by_lt_z c.j d.j (λ l. absurd (f (inl l))) (λ h.
    by_lt_z d.j c.j (λ l. absurd (g (inl l))) (λ k.
    by_row (equal c.j d.j h k)))
  where
    by_row : c.j ≡ d.j → c ≡ d
    by_row row =
        by_lt_z c.i d.i (λ l. absurd (f (inr (row, l)))) (λ h.
        by_lt_z d.i c.i (λ l. absurd (g (inr (sym row, l)))) (λ k.
        same_cell c.i c.j d.i d.j (equal c.i d.i h k) row))

both : (m n : ℕ) → m ≤ n → n ≤ m → m ≡ n
both m n h k = omega (arith, h, k)

pub one_hit_holds : OneHit
one_hit_holds k painted safe moves line line' c c' a b =
    let low : line ≤ line' = subst (λ (n : ℕ). line ≤ n) b.of_line (a.least b.move c' b.hit) in
    let high : line' ≤ line = subst (λ (n : ℕ). line' ≤ n) a.of_line (b.least a.move c a.hit) in
    let same : line ≡ line' = both line line' low high in (
      same,
      one_cell c c' (λ before. b.first a.move c (a.of_line ∙ same) a.hit before) (λ before. a.first b.move c' (b.of_line ∙ sym same) b.hit before),
    )
