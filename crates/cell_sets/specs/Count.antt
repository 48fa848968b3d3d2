-- How many cells there are of a kind.
use Rattle.std.specs.Prelude.{◌≡◌, ◌↔◌, ℕ, List, length}
use Rattle.std.specs.List.{AllPairs, Contains}
use Rattle.board_base.specs.declared.places.Cell.{Cell}
use Rattle.cell_sets.specs.Chains.{IsBefore}

-- each cell stands before all later ones in the order of rows, so none stands twice
abbrev pub IsInRows : List Cell → Type 0
IsInRows cells = AllPairs IsBefore cells

-- the list has the cells of this kind and no others, each once, in the order of rows
pub record IsListOf (P : Cell → Type 0) (cells : List Cell) : Type 0 where
  pub each : (c : Cell) → Contains cells c ↔ P c
  pub order : IsInRows cells

-- there are n cells of this kind
pub record IsCount (P : Cell → Type 0) (n : ℕ) : Type 0 where
  pub cells : List Cell
  pub all : IsListOf P cells
  pub size : length cells ≡ n
