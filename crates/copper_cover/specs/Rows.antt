-- Rows of cells, and what becomes of a bit for each of them.
use Rattle.std.specs.Prelude.{◌≡◌, ℕ, ◌<◌, ◌≤◌, ℤ, pos, ◌+ℤ◌, ◌-ℤ◌, ◌*ℤ◌, ◌≤ℤ◌, ◌<ℤ◌, int_lt, nat_le, nat_lt, unsigned_abs, Bool, false, not, cond, ◌&&◌, ◌||◌, length}
use Rattle.board_base.specs.declared.places.Cell.{Cell}
use Rattle.board_base.specs.declared.places.Point.{Point}
use Rattle.board_base.specs.Places.{IsNearPlace}
use Rattle.board_base.specs.Near.{near_of}
use Rattle.board_base.specs.Lattice.{IsPitch, centre_of, middle, east_by}
use Rattle.cell_grid.specs.Rows.{Rows}
use Rattle.cell_grid.specs.declared.windows.Span.{Span}
use Rattle.copper_cover.specs.declared.columns.Row.{Row}

-- the cell k columns east of a cell
unfoldable pub east_of : Cell → ℕ → Cell
east_of c k = east_by c k

-- the centre of cell k of a row, counted from 0
abbrev pub centre_in : Row → ℕ → Point
centre_in row k = centre_of row.pitch (east_of row.first k)

-- whether the centre of cell k of a row is near a segment
abbrev pub is_near_in : Row → Point → Point → ℤ → ℕ → Bool
is_near_in row a b d k = near_of (centre_in row k) a b d

-- whether a number is of the span
abbrev pub is_in_span : Span → ℕ → Bool
is_in_span s k = nat_le s.from k && nat_lt k s.to

-- a height is more than half of d above the row y
unfoldable pub is_over : ℤ → ℤ → ℤ → Bool
is_over y d a = int_lt (pos 2 *ℤ y +ℤ d) (pos 2 *ℤ a)

-- a height is more than half of d below the row y
unfoldable pub is_under : ℤ → ℤ → ℤ → Bool
is_under y d a = int_lt (pos 2 *ℤ a) (pos 2 *ℤ y -ℤ d)

-- both ends of a segment are more than half of d above the row, or both below it
abbrev pub misses : ℤ → ℤ → ℤ → ℤ → Bool
misses y d a b = cond (is_over y d a) (is_over y d b) (cond (is_under y d a) (is_under y d b) false)

-- a row of n cells, at least one, whose centres are places
pub record IsRow (row : Row) (n : ℕ) : Type 0 where
  pub pitch : IsPitch row.pitch
  pub first : unsigned_abs row.first.i ≤ 1000000000
  pub some : 0 < n
  pub few : n ≤ 32768
  pub height : row.y ≡ middle row.pitch row.first.j
  pub places : (k : ℕ) → k < n → IsNearPlace (centre_in row k)
  pub h_low : pos 0 <ℤ row.h
  pub h_high : row.h ≤ℤ pos 200000

-- what a part makes of a bit: one that is on adds, one that is off takes away; and an object, dark or clear, likewise
abbrev pub bit_after : Bool → Bool → Bool → Bool → Bool
bit_after on adds takes bit = (on && adds) || (bit && not (not on && takes))

-- each of the rows of bits has so many
pub record AreWide (rows : Rows) (n : ℕ) : Type 0 where
  pub touched : length rows.touched ≡ n
  pub covered : length rows.covered ≡ n
  pub held : length rows.held ≡ n
  pub near : length rows.near ≡ n
