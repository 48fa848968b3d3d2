-- The walk along the cells of a component, told by places in the finished list.
use Rattle.std.specs.Prelude.{◌≡◌, ◌≢◌, ◌↔◌, ℕ, pos, ◌+◌, ◌*◌, ◌<◌, ◌≤◌, Bool, true, List, [], length, slice_index_or, ◌⊎◌}
use Rattle.std.specs.List.{Contains}
use Rattle.board_base.specs.declared.places.Cell.{Cell}
use Rattle.board_base.specs.Lattice.{AreNeighbours}
use Rattle.cell_sets.specs.Chains.{IsBefore, IsLinked}
use Rattle.islands.specs.Ways.{neighbour_of}

-- the cell at the origin, which stands past the end of a list
abbrev pub origin : Cell
origin = record { i = pos 0; j = pos 0 }

-- entry k of a list of cells
abbrev pub entry : List Cell → ℕ → Cell
entry cells k = slice_index_or cells k origin

-- at least one cell, each a neighbour of the one before it
pub record IsConnected (cells : List Cell) : Type 0 where
  pub some : 0 < length cells
  pub steps : (k : ℕ) → k + 1 < length cells → AreNeighbours (entry cells k) (entry cells (k + 1))

-- the cell stands among the first k entries
pub record IsAmong (W : ℕ → Cell) (k : ℕ) (c : Cell) : Type 0 where
  pub at : ℕ
  pub early : at < k
  pub is : W at ≡ c

-- entry k + 1 is the first neighbour of entry k, in the order E, NE, N, NW, W, SW, S, SE, that is taken and stands nowhere earlier
pub record GoesOn (taken : Cell → Bool) (W : ℕ → Cell) (k : ℕ) : Type 0 where
  pub way : ℕ
  pub way_in : way < 8
  pub step : W (k + 1) ≡ neighbour_of (W k) way
  pub taken_there : taken (W (k + 1)) ≡ true
  pub new : IsAmong W (k + 1) (W (k + 1)) → ⊥
  pub first : (other : ℕ) → other < way → taken (neighbour_of (W k) other) ≡ true → IsAmong W (k + 1) (neighbour_of (W k) other)

-- entry k has no such neighbour, and entry k + 1 is the one directly before the first occurrence of entry k
pub record GoesBack (taken : Cell → Bool) (W : ℕ → Cell) (k : ℕ) : Type 0 where
  pub none : (way : ℕ) → way < 8 → taken (neighbour_of (W k) way) ≡ true → IsAmong W (k + 1) (neighbour_of (W k) way)
  pub from : ℕ
  pub early : from + 1 ≤ k
  pub occurs : W (from + 1) ≡ W k
  pub first : IsAmong W (from + 1) (W k) → ⊥
  pub back : W (k + 1) ≡ W from

-- The walk of the component of a cell: n entries W that begin there, each step as above, with every cell of the
-- component, and the last entry stands nowhere earlier.
pub record IsWalkFrom (taken : Cell → Bool) (start : Cell) (W : ℕ → Cell) (n : ℕ) : Type 0 where
  pub some : 0 < n
  pub starts : W 0 ≡ start
  pub steps : (k : ℕ) → k + 1 < n → GoesOn taken W k ⊎ GoesBack taken W k
  pub all : (c : Cell) → IsLinked taken start c → IsAmong W n c
  pub last : (k : ℕ) → k + 1 ≡ n → IsAmong W k (W k) → ⊥

-- a taken cell, before which in the order of rows no cell of its component stands
pub record IsFirst (taken : Cell → Bool) (start : Cell) : Type 0 where
  pub taken_there : taken start ≡ true
  pub earliest : (c : Cell) → IsLinked taken start c → IsBefore c start → ⊥

-- the walk of a component
pub record IsWalk (taken : Cell → Bool) (walk : List Cell) : Type 0 where
  pub begins : IsFirst taken (entry walk 0)
  pub goes : IsWalkFrom taken (entry walk 0) (entry walk) (length walk)

-- a component of n cells has a walk of at most 2 n - 1 entries; `cells` lists the component, each cell once
pub record IsShort (taken : Cell → Bool) (walk : List Cell) : Type 0 where
  pub cells : List Cell
  pub each : (c : Cell) → Contains cells c ↔ IsLinked taken (entry walk 0) c
  pub once : (i j : ℕ) → i < j → j < length cells → entry cells i ≢ entry cells j
  pub short : length walk + 1 ≤ 2 * length cells

-- the walks of all components and nothing else, in the order of rows of their first cells
pub record AreWalks (taken : Cell → Bool) (walks : List (List Cell)) : Type 0 where
  pub each : (k : ℕ) → k < length walks → IsWalk taken (slice_index_or walks k [])
  pub short : (k : ℕ) → k < length walks → IsShort taken (slice_index_or walks k [])
  pub order : (k : ℕ) → k + 1 < length walks → IsBefore (entry (slice_index_or walks k []) 0) (entry (slice_index_or walks (k + 1) []) 0)
  pub whole : (c : Cell) → taken c ≡ true → (k : ℕ) × ((k < length walks) × IsLinked taken (entry (slice_index_or walks k []) 0) c)

-- a component has one walk
abbrev pub OneWalk : Type 0
OneWalk = (taken : Cell → Bool) (start : Cell) (W V : ℕ → Cell) (n m : ℕ) → taken start ≡ true → IsWalkFrom taken start W n → IsWalkFrom taken start V m → (n ≡ m) × ((k : ℕ) → k < n → W k ≡ V k)
