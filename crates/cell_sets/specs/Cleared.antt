-- Which rows of a box are cleared, and what they sweep.
use Rattle.std.specs.Prelude.{◌≡◌, ◌⊎◌, ℕ, ◌+◌, ◌-◌, ◌*◌, ℤ, pos, ◌+ℤ◌, ◌-ℤ◌, ◌*ℤ◌, ◌<ℤ◌, unsigned_abs, max, Bool, true, false}
use Rattle.std.specs.Int.{int_div_euclid}
use Rattle.board_base.specs.declared.places.Cell.{Cell}
use Rattle.board_base.specs.declared.places.CellBox.{CellBox}
use Rattle.board_base.specs.Lattice.{AreNeighbours, IsInBox}
use Rattle.cell_sets.specs.Sweep.{IsSwept}

-- a cell of the box that lies on its top row, or a whole number of strides above its bottom row
pub record IsOnClearingRow (stride : ℕ) (inner : CellBox) (c : Cell) : Type 0 where
  pub inside : IsInBox inner c
  pub row : (c.j ≡ inner.j1) ⊎ ((n : ℕ) × (c.j ≡ (inner.j0 +ℤ pos (n * stride))))

-- the rows from one clearing row to the next: twice the pitches that the radius less half a diagonal holds, less the
-- overlap in hundredths, rounded down, but at least 1
unfoldable pub stride_of : ℤ → ℤ → ℤ → ℕ → ℕ
stride_of p h r overlap = max 1 (unsigned_abs (int_div_euclid (pos 2 *ℤ int_div_euclid (r -ℤ h) p *ℤ pos (100 - overlap)) (pos 100)))

-- each allowed cell beside one that isn't is visited, and each allowed cell on a clearing row
pub record AreCleared (stride : ℕ) (inner : CellBox) (allowed visited : Cell → Bool) : Type 0 where
  pub contour : (c b : Cell) → allowed c ≡ true → AreNeighbours c b → allowed b ≡ false → visited c ≡ true
  pub rows : (c : Cell) → IsOnClearingRow stride inner c → allowed c ≡ true → visited c ≡ true

-- where w is all cells that the radius less half a diagonal reaches, the visited cells sweep each cell of the box that
-- all allowed cells sweep
abbrev pub Clearing : Type 0
Clearing =
    (p h r : ℤ) (overlap w : ℕ) → pos 0 <ℤ p → h <ℤ r → ((r -ℤ h) *ℤ (r -ℤ h)) <ℤ (pos (w + 1) *ℤ (p *ℤ p))
    → (inner : CellBox) (allowed visited : Cell → Bool) → AreCleared (stride_of p h r overlap) inner allowed visited
    → (c : Cell) → IsInBox inner c → IsSwept w (λ a. allowed a ≡ true) c → IsSwept w (λ v. visited v ≡ true) c
