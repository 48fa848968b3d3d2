-- What the visited cells part.
use Rattle.std.specs.Prelude.{◌≡◌, ◌↔◌, ℕ, ◌<◌, Bool, true, false, List}
use Rattle.board_base.specs.declared.places.Cell.{Cell}
use Rattle.board_base.specs.Lattice.{AreNeighbours}
use Rattle.cell_sets.specs.Chains.{IsLinkedOver}
use Rattle.cell_sets.specs.Groups.{AreGroups}
use Rattle.cell_sets.specs.Sweep.{IsUnswept}

-- no kept cell is allowed, each visited cell is allowed, and each allowed cell beside one that isn't is visited
pub record IsBarrier (allowed visited kept : Cell → Bool) : Type 0 where
  pub clear : (c : Cell) → kept c ≡ true → allowed c ≡ false
  pub contour : (c b : Cell) → allowed c ≡ true → AreNeighbours c b → allowed b ≡ false → visited c ≡ true
  pub within : (c : Cell) → visited c ≡ true → allowed c ≡ true

-- the cell isn't swept from any cell that passes the test
abbrev pub IsPast : ℕ → (Cell → Bool) → Cell → Type 0
IsPast w member = IsUnswept w (λ c. member c ≡ true)

-- from kept cells the same chains lead past the visited cells as past all allowed cells
abbrev pub Barrier : Type 0
Barrier =
    (w : ℕ) (allowed visited kept : Cell → Bool) → IsBarrier allowed visited kept → (a b : Cell) → kept a ≡ true
    → IsLinkedOver (IsPast w visited) a b ↔ IsLinkedOver (IsPast w allowed) a b

-- so groups of kept islands past the visited cells are groups past all allowed cells
abbrev pub GroupsPast : Type 0
GroupsPast =
    (w : ℕ) (allowed visited kept : Cell → Bool) (number : Cell → ℕ) (groups : List (List ℕ)) → IsBarrier allowed visited kept
    → ((c : Cell) → 0 < number c → kept c ≡ true) → AreGroups (IsPast w visited) number groups → AreGroups (IsPast w allowed) number groups
