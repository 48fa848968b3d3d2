-- The straight moves between the corners of a walk.
use Rattle.std.specs.Prelude.{◌≡◌, ℕ, ◌<◌, ◌≤◌, ℤ, pos, negsuc, ◌+ℤ◌, ◌*ℤ◌, ◌≤ℤ◌, ◌⊎◌, Bool, List, [], ◌∷◌}
use Rattle.std.specs.List.{Contains}
use Rattle.board_base.specs.declared.places.Cell.{Cell}
use Rattle.cell_sets.specs.Chains.{IsLinked}
use Rattle.chain_walk.specs.Walk.{entry, IsConnected, IsWalk}
use Rattle.chain_walk.specs.Corners.{corners_of}

-- -1, 0 or 1
pub record IsUnit (v : ℤ) : Type 0 where
  pub low : negsuc 0 ≤ℤ v
  pub high : v ≤ℤ pos 1

-- the cell so many steps away, each by so many columns and rows
abbrev pub stepped : Cell → ℤ → ℤ → ℕ → Cell
stepped c east north t = record { i = c.i +ℤ pos t *ℤ east; j = c.j +ℤ pos t *ℤ north }

-- a straight move from a to b: `count` unit steps of one direction, each to a cell of the list
pub record IsRun (cells : List Cell) (a b : Cell) : Type 0 where
  pub east : ℤ
  pub north : ℤ
  pub unit_east : IsUnit east
  pub unit_north : IsUnit north
  pub count : ℕ
  pub ends : b ≡ stepped a east north count
  pub through : (t : ℕ) → t ≤ count → Contains cells (stepped a east north t)

-- the cell is one of those that the move goes through
pub record IsOnRun (cells : List Cell) (a b c : Cell) : Type 0 where
  pub run : IsRun cells a b
  pub at : ℕ
  pub early : at ≤ run.count
  pub is : c ≡ stepped a run.east run.north at

-- a and b are successive entries of the list
abbrev pub AreSuccessive : List Cell → Cell → Cell → Type 0
AreSuccessive [] a b = ⊥
AreSuccessive (c ∷ []) a b = ⊥
AreSuccessive (c ∷ d ∷ cells) a b = ((c ≡ a) × (d ≡ b)) ⊎ AreSuccessive (d ∷ cells) a b

-- a walk goes from neighbour to neighbour, over cells of its component
abbrev pub WalkLaw : Type 0
WalkLaw = (taken : Cell → Bool) (cells : List Cell) → IsWalk taken cells → IsConnected cells × ((c : Cell) → Contains cells c → IsLinked taken (entry cells 0) c)

-- the moves between the corners go through cells of the list alone, and each cell of the list lies on one
abbrev pub CornerLaw : Type 0
CornerLaw =
    (cells : List Cell) → IsConnected cells
    → ((a b : Cell) → AreSuccessive (corners_of cells) a b → IsRun cells a b) × ((c : Cell) → Contains cells c → (a b : Cell) × (AreSuccessive (corners_of cells) a b × IsOnRun cells a b c))

-- y and z are the first two entries of the list
abbrev pub StartsWith : List Cell → Cell → Cell → Type 0
StartsWith [] y z = ⊥
StartsWith (b ∷ []) y z = ⊥
StartsWith (b ∷ c ∷ cells) y z = (b ≡ y) × (c ≡ z)

-- x, y and z are successive entries
abbrev pub AreThree : List Cell → Cell → Cell → Cell → Type 0
AreThree [] x y z = ⊥
AreThree (a ∷ cells) x y z = ((a ≡ x) × StartsWith cells y z) ⊎ AreThree cells x y z

-- no two successive moves between the corners have one direction
abbrev pub TurnLaw : Type 0
TurnLaw =
    (cells : List Cell) → IsConnected cells → (x y z : Cell) → AreThree (corners_of cells) x y z
    → (east north : ℤ) (k m : ℕ) → IsUnit east → IsUnit north → 0 < k → 0 < m → y ≡ stepped x east north k → z ≡ stepped y east north m → ⊥
