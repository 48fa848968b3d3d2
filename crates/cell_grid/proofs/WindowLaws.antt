-- Which cells of a frame stand in a window.
use Rattle.std.proofs.Common.{◌≡◌, ℕ, ◌<◌, ◌≤◌, ℤ, pos, ◌+ℤ◌, ◌-ℤ◌, ◌≤ℤ◌, ◌<ℤ◌, unsigned_abs, ◌↔◌, sym, subst, arith}
use Rattle.std.proofs.lemmas.Int.{by_lt_z}
use borrow.Author.Differences.{ints}
use Rattle.board_base.specs.declared.places.Cell.{Cell}
use Rattle.board_base.specs.declared.places.CellBox.{CellBox}
use Rattle.board_base.specs.Lattice.{IsInBox}
use Rattle.cell_grid.specs.declared.frames.Frame.{Frame}
use Rattle.cell_grid.specs.declared.windows.Span.{Span}
use Rattle.cell_grid.specs.Place.{InFrame, IsBetween, column_of, row_of}
use Rattle.cell_grid.specs.Windows.{IsInSpan, IsInWindow}
use Rattle.cell_grid.proofs.PlaceLaws.{column_below, row_below}

-- one of two numbers is below the other, or not
by_lt : {P : Type 0} (a b : ℕ) → (a < b → P) → (b ≤ a → P) → P
by_lt a b f g = by_lt_z (pos a) (pos b) (λ (l : pos a <ℤ pos b). f (omega (arith, ints))) (λ (l : pos b ≤ℤ pos a). g (omega (arith, ints)))

-- a span of columns, or rows, by the first one in it and the first one past it
pub in_span : (from to k : ℕ) (m low high west east : ℤ) → (from ≤ k) ↔ (west ≤ℤ m) → (to ≤ k) ↔ (east ≤ℤ m) → west ≡ low → east ≡ high +ℤ pos 1
    → IsInSpan (record { from = from; to = to }) k ↔ (low ≤ℤ m × m ≤ℤ high)
in_span from to k m low high west east f g d e = (λ i. (subst (λ (z : ℤ). z ≤ℤ m) d (f.0 i.from), below i.to), λ p. record { from = f.1 (subst (λ (z : ℤ). z ≤ℤ m) (sym d) p.0); to = above p.1 })
  where
    below : k < to → m ≤ℤ high
    below l = by_lt_z high m (λ (t : high <ℤ m). absurd (clash l (g.1 (next high m east e t)))) (λ (t : m ≤ℤ high). t)
      where
        next : (a b c : ℤ) → c ≡ a +ℤ pos 1 → a <ℤ b → c ≤ℤ b
        next a b c e t = omega (arith, ints)

        clash : {a b : ℕ} → a < b → b ≤ a → ⊥
        clash a b = omega arith

    above : m ≤ℤ high → k < to
    above l = by_lt k to (λ (t : k < to). t) (λ (t : to ≤ k). absurd (clash high m east e l (g.0 t)))
      where
        clash : (a b c : ℤ) → c ≡ a +ℤ pos 1 → b ≤ℤ a → c ≤ℤ b → ⊥
        clash a b c e h k = omega (arith, ints)

-- the same by the index of the column, or row
axis : (i from low high : ℤ) (n : ℕ) (s : Span) → IsBetween i from n
    → (IsInSpan s (unsigned_abs (i -ℤ from)) ↔ (low ≤ℤ (from +ℤ pos (unsigned_abs (i -ℤ from))) × (from +ℤ pos (unsigned_abs (i -ℤ from))) ≤ℤ high))
    → IsInSpan s (unsigned_abs (i -ℤ from)) ↔ (low ≤ℤ i × i ≤ℤ high)
axis i from low high n s b f = subst (λ (m : ℤ). IsInSpan s (unsigned_abs (i -ℤ from)) ↔ (low ≤ℤ m × m ≤ℤ high)) (sum i from b) f
  where
    sum : (i from : ℤ) → IsBetween i from n → from +ℤ pos (unsigned_abs (i -ℤ from)) ≡ i
    sum i from h = omega (arith, ints)

-- the window of a box
pub in_window : (f : Frame) (b : CellBox) (columns rows : Span)
    → ((k : ℕ) → k < f.width → IsInSpan columns k ↔ (b.i0 ≤ℤ (f.i0 +ℤ pos k) × (f.i0 +ℤ pos k) ≤ℤ b.i1))
    → ((k : ℕ) → k < f.height → IsInSpan rows k ↔ (b.j0 ≤ℤ (f.j0 +ℤ pos k) × (f.j0 +ℤ pos k) ≤ℤ b.j1))
    → (c : Cell) → InFrame f c → IsInWindow f (record { columns = columns; rows = rows }) c ↔ IsInBox b c
in_window f b columns rows x y c i =
    let u = axis c.i f.i0 b.i0 b.i1 f.width columns i.column (x (column_of f c) (column_below f c i)) in
    let v = axis c.j f.j0 b.j0 b.j1 f.height rows i.row (y (row_of f c) (row_below f c i)) in (
      λ w. record { west = (u.0 w.column).0; east = (u.0 w.column).1; south = (v.0 w.row).0; north = (v.0 w.row).1 },
      λ s. record { column = u.1 (s.west, s.east); row = v.1 (s.south, s.north) },
    )
