-- The runs along the rows, as far as the cells were gone over.
use Rattle.std.specs.Prelude.{◌≡◌, ℕ, pos, ◌+◌, ◌<◌, ◌+ℤ◌, Bool, true, false, List, [], length, slice_index_or}
use Rattle.std.specs.List.{Contains}
use Rattle.board_base.specs.declared.places.Cell.{Cell}
use Rattle.cell_grid.specs.declared.frames.Frame.{Frame}
use Rattle.cell_sets.specs.Chains.{IsBefore}
use Rattle.board_base.specs.Lattice.{east_by}
use Rattle.chain_walk.specs.Walk.{entry}
use Rattle.chain_walk.specs.RowRuns.{west_of, run_of, IsRowRun}

-- the cell so many columns and rows from the south-west corner of a frame
abbrev pub cell_by : Frame → ℕ → ℕ → Cell
cell_by f x y = record { i = f.i0 +ℤ pos x; j = f.j0 +ℤ pos y }

-- taken cells of a row, from the west end on
pub record AreTakenFrom (taken : Cell → Bool) (west : Cell) (cells : List Cell) : Type 0 where
  pub some : 0 < length cells
  pub are : cells ≡ run_of west (length cells)
  pub inside : (k : ℕ) → k < length cells → taken (east_by west k) ≡ true

-- the same, up to a cell that isn't taken
pub record IsRunFrom (taken : Cell → Bool) (west : Cell) (cells : List Cell) : Type 0 where
  pub from : AreTakenFrom taken west cells
  pub ends : taken (east_by west (length cells)) ≡ false

-- the runs of all cells before the next one, whose neighbour to the west isn't taken, in the order of rows
pub record AreRunsBefore (taken : Cell → Bool) (next : Cell) (runs : List (List Cell)) : Type 0 where
  pub each : (k : ℕ) → k < length runs → IsRowRun taken (slice_index_or runs k [])
  pub order : (k : ℕ) → k + 1 < length runs → IsBefore (entry (slice_index_or runs k []) 0) (entry (slice_index_or runs (k + 1) []) 0)
  pub early : (k : ℕ) → k < length runs → IsBefore (entry (slice_index_or runs k []) 0) next
  pub whole : (c : Cell) → taken c ≡ true → IsBefore c next → (k : ℕ) × ((k < length runs) × Contains (slice_index_or runs k []) c)
  pub apart : taken (west_of next) ≡ false
