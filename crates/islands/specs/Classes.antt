-- Classes of taken cells, numbered in the order of their first cells.
use Rattle.std.specs.Prelude.{◌≡◌, ℕ, ◌+◌, ◌<◌, ◌≤◌, ◌⊎◌, Bool, true, false, List}
use Rattle.board_base.specs.declared.places.Cell.{Cell}
use Rattle.cell_grid.specs.declared.frames.Frame.{Frame}
use Rattle.cell_grid.specs.Place.{cells_of}
use Rattle.cell_grid.specs.Cells.{number_in}
use Rattle.cell_sets.specs.Chains.{IsBefore, IsLinked}

-- the taken cells have numbers up to `count`, equal exactly where a chain links them; those above `outer` stand in the order of their first cells
pub record IsNumbered (f : Frame) (taken : Cell → Bool) (outer : ℕ) (works : List ℕ) (count : ℕ) : Type 0 where
  pub clear : (a : Cell) → taken a ≡ false → number_in f outer works a ≡ 0
  pub some : (a : Cell) → taken a ≡ true → 0 < number_in f outer works a
  pub few : (a : Cell) → number_in f outer works a ≤ count
  pub most : count ≤ outer + cells_of f
  pub same : (a b : Cell) → 0 < number_in f outer works a → number_in f outer works a ≡ number_in f outer works b → IsLinked taken a b
  pub whole : (a b : Cell) → IsLinked taken a b → number_in f outer works a ≡ number_in f outer works b
  pub order : (a : Cell) (u : ℕ) → outer < u → u < number_in f outer works a → (b : Cell) × (IsBefore b a × (number_in f outer works b ≡ u))
  pub present : (u : ℕ) → outer < u → u ≤ count → (b : Cell) × (number_in f outer works b ≡ u)

-- the column or the row, counted from 0, is the frame's first or last
abbrev pub IsEdge : Frame → ℕ → ℕ → Type 0
IsEdge f x y = (x ≡ 0) ⊎ (x + 1 ≡ f.width) ⊎ (y ≡ 0) ⊎ (y + 1 ≡ f.height)
