-- The maximal runs of a set of cells along its rows.
use Rattle.std.specs.Prelude.{◌≡◌, ℕ, pos, ◌+◌, ◌<◌, ◌+ℤ◌, ◌-ℤ◌, Bool, true, false, List, [], map, length, slice_index_or}
use Rattle.std.specs.List.{Contains, range_with_len}
use Rattle.board_base.specs.declared.places.Cell.{Cell}
use Rattle.cell_sets.specs.Chains.{IsBefore}
use Rattle.board_base.specs.Lattice.{east_by}
use Rattle.chain_walk.specs.Walk.{entry, IsConnected}

-- the next cell to the west
abbrev pub west_of : Cell → Cell
west_of c = record { i = c.i -ℤ pos 1; j = c.j }

-- so many cells of a row, from the west end on
unfoldable pub run_of : Cell → ℕ → List Cell
run_of west size = map (east_by west) (range_with_len 0 size)

-- cells of a row that are all taken, with none taken beside their ends
pub record IsRowRun (taken : Cell → Bool) (run : List Cell) : Type 0 where
  pub west : Cell
  pub size : ℕ
  pub some : 0 < size
  pub is : run ≡ run_of west size
  pub inside : (k : ℕ) → k < size → taken (east_by west k) ≡ true
  pub begins : taken (west_of west) ≡ false
  pub ends : taken (east_by west size) ≡ false

-- all such runs and nothing else, in the order of rows
pub record AreRowRuns (taken : Cell → Bool) (runs : List (List Cell)) : Type 0 where
  pub each : (k : ℕ) → k < length runs → IsRowRun taken (slice_index_or runs k [])
  pub order : (k : ℕ) → k + 1 < length runs → IsBefore (entry (slice_index_or runs k []) 0) (entry (slice_index_or runs (k + 1) []) 0)
  pub whole : (c : Cell) → taken c ≡ true → (k : ℕ) × ((k < length runs) × Contains (slice_index_or runs k []) c)

-- a run goes from neighbour to neighbour, over taken cells
abbrev pub RowRunLaw : Type 0
RowRunLaw = (taken : Cell → Bool) (cells : List Cell) → IsRowRun taken cells → IsConnected cells × ((c : Cell) → Contains cells c → taken c ≡ true)

-- a set of cells has one list of its runs
abbrev pub OneRowRuns : Type 0
OneRowRuns = (taken : Cell → Bool) (runs others : List (List Cell)) → AreRowRuns taken runs → AreRowRuns taken others → runs ≡ others
