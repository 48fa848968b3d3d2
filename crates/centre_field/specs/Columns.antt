-- Distances along a column.
use Rattle.std.specs.Prelude.{◌≡◌, ℕ, ◌+◌, ◌*◌, ◌<◌, ◌≤◌, ◌==◌, Bool, false, cond, slice_index, slice_index_or}
use Rattle.std.specs.Int.{abs_diff}
use Rattle.cell_grid.specs.Grid.{Grid}
use Rattle.centre_field.specs.Distances.{none, IsLeast}

-- whether the cell in column x and row b is kept
abbrev pub is_kept_in : Grid → ℕ → ℕ → Bool
is_kept_in g x b = slice_index_or g.kept (b * g.frame.width + x) false

-- v is the least distance from row y to a kept cell of column x in the rows before n, or `none` where none is kept
abbrev pub IsNearest : Grid → ℕ → ℕ → ℕ → ℕ → Type 0
IsNearest g x y n v = IsLeast (is_kept_in g x) (abs_diff y) n v

-- the number of the cell in column x and row y
abbrev pub number_at : Grid → ℕ → ℕ → ℕ
number_at g x y = slice_index g.clearances (y * g.frame.width + x)

-- one more than a distance; none where there is none
abbrev pub further : ℕ → ℕ
further v = cond (v == none) none (v + 1)

-- the clearances of row y changed, and nothing else
pub record ChangesRow (old new : Grid) (y : ℕ) : Type 0 where
  pub rest : new ≡ record old { clearances = new.clearances }
  pub before : (k : ℕ) → k < y * old.frame.width → slice_index new.clearances k ≡ slice_index old.clearances k
  pub after : (k : ℕ) → y * old.frame.width + old.frame.width ≤ k → slice_index new.clearances k ≡ slice_index old.clearances k

-- each number is the distance to the nearest kept cell of its column that is no farther north
abbrev pub AreUpward : Grid → Grid → Type 0
AreUpward old new = (x y : ℕ) → x < old.frame.width → y < old.frame.height → IsNearest old x y (y + 1) (number_at new x y)

-- each number is the distance to the nearest kept cell of its column
abbrev pub AreNearest : Grid → Grid → Type 0
AreNearest old new = (x y : ℕ) → x < old.frame.width → y < old.frame.height → IsNearest old x y old.frame.height (number_at new x y)
