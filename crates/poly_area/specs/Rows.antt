-- Rows of centres, and marks along them.
use Rattle.std.specs.Prelude.{◌≡◌, ℕ, ◌+◌, ℤ, pos, ◌+ℤ◌, ◌*ℤ◌, Bool, List, take}
use Rattle.board_base.specs.declared.places.Point.{Point}
use Rattle.board_base.specs.declared.places.Cell.{Cell}
use Rattle.board_base.specs.Lattice.{centre_of}
use Rattle.poly_area.specs.Area.{odd_of, on_row}

-- k steps of a pitch east of a number
unfoldable pub column_x : ℤ → ℤ → ℕ → ℤ
column_x west pitch k = west +ℤ pos k *ℤ pitch

-- centre k of a row whose centres are a pitch apart, counted from 0 at the first one
abbrev pub centre_at : Point → ℤ → ℕ → Point
centre_at first pitch k = on_row (column_x first.x pitch k) first.y

-- an odd number of the marks up to mark k, with it, are set
abbrev pub running : List Bool → ℕ → Bool
running marks k = odd_of (λ b. b) (take (k + 1) marks)

-- the centres of a row of cells are such a row
abbrev pub CellsLaw : Type 0
CellsLaw = (p : ℤ) (c : Cell) (k : ℕ) → centre_at (centre_of p c) p k ≡ centre_of p (record { i = c.i +ℤ pos k; j = c.j })
