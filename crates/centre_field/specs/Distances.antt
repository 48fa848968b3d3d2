-- Distances along a row or a column, and the least of many.
use Rattle.std.specs.Prelude.{◌≡◌, ℕ, ◌+◌, ◌*◌, ◌/◌, ◌%◌, ◌<◌, ◌≤◌, ◌⊎◌, Bool, true, false, List, slice_index_or}
use Rattle.std.specs.Int.{abs_diff}
use Rattle.cell_grid.specs.Place.{cells_of}
use Rattle.cell_grid.specs.Grid.{Grid}

-- the square of how far two columns, or two rows, are apart
unfoldable pub square_gap : ℕ → ℕ → ℕ
square_gap a b = abs_diff a b * abs_diff a b

-- the squared index distance from the cell in column x and row y to the cell at place n in the order of rows
unfoldable pub square_to_place : ℕ → ℕ → ℕ → ℕ → ℕ
square_to_place width x y n = square_gap x (n % width) + square_gap y (n / width)

-- the number that stands for "none"
abbrev pub none : ℕ
none = 4294967295

-- v is the least of `distance` over the numbers below n that pass the test, or `none` where no number does
pub record IsLeast (test : ℕ → Bool) (distance : ℕ → ℕ) (n v : ℕ) : Type 0 where
  pub bound : (a : ℕ) → a < n → test a ≡ true → v ≤ distance a
  pub reached : ((a : ℕ) × ((a < n) × ((test a ≡ true) × (v ≡ distance a)))) ⊎ ((v ≡ none) × ((a : ℕ) → a < n → test a ≡ false))

-- whether the cell at a place is kept
abbrev pub is_kept_at : List Bool → ℕ → Bool
is_kept_at kept n = slice_index_or kept n false

-- v is the least squared index distance from the cell in column x and row y to a kept cell, or `none` where no cell is kept
abbrev pub IsLeastSquare : Grid → ℕ → ℕ → ℕ → Type 0
IsLeastSquare g x y v = IsLeast (is_kept_at g.kept) (square_to_place g.frame.width x y) (cells_of g.frame) v
