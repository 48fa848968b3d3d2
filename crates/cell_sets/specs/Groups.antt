-- Groups: the islands that stand in one class of free cells.
use Rattle.std.specs.Prelude.{◌≡◌, ◌≢◌, ℕ, ◌+◌, ◌<◌, ◌≤◌, List, [], length, slice_index_or}
use Rattle.std.specs.List.{Contains}
use Rattle.std.specs.List.Sorted.{IsStrictlyIncreasing}
use Rattle.board_base.specs.declared.places.Cell.{Cell}
use Rattle.cell_sets.specs.Chains.{IsBefore, IsLinkedOver}

-- the ascending numbers of the islands that have a cell in one class, two or more; `first` is the class's first kept cell
pub record IsGroup (Free : Cell → Type 0) (number : Cell → ℕ) (first : Cell) (group : List ℕ) : Type 0 where
  pub island : 0 < number first
  pub free_there : Free first
  pub earliest : (c : Cell) → 0 < number c → IsLinkedOver Free first c → IsBefore c first → ⊥
  pub ascending : IsStrictlyIncreasing group
  pub sound : (u : ℕ) → Contains group u → (c : Cell) × ((0 < number c) × IsLinkedOver Free first c × (number c ≡ u))
  pub whole : (c : Cell) → 0 < number c → IsLinkedOver Free first c → Contains group (number c)
  pub two : 2 ≤ length group

-- the groups of the plane, in the order of the first kept cells of their classes
pub record AreGroups (Free : Cell → Type 0) (number : Cell → ℕ) (groups : List (List ℕ)) : Type 0 where
  pub firsts : List Cell
  pub same_length : length firsts ≡ length groups
  pub each : (k : ℕ) (d : Cell) → k < length groups → IsGroup Free number (slice_index_or firsts k d) (slice_index_or groups k [])
  pub order : (k : ℕ) (d : Cell) → k + 1 < length groups → IsBefore (slice_index_or firsts k d) (slice_index_or firsts (k + 1) d)
  pub all : (a b : Cell) → 0 < number a → 0 < number b → number a ≢ number b → IsLinkedOver Free a b → (k : ℕ) × ((k < length groups) × ((d : Cell) → IsLinkedOver Free (slice_index_or firsts k d) a))

-- some group has both islands
abbrev pub IsListedPair : List (List ℕ) → ℕ → ℕ → Type 0
IsListedPair groups u v = (k : ℕ) × ((k < length groups) × (Contains (slice_index_or groups k []) u × Contains (slice_index_or groups k []) v))

-- a chain of free cells leads from a cell of the one island to a cell of the other
abbrev pub AreJoined : (Cell → Type 0) → (Cell → ℕ) → ℕ → ℕ → Type 0
AreJoined Free number u v = (a b : Cell) × ((number a ≡ u) × (number b ≡ v) × IsLinkedOver Free a b)
