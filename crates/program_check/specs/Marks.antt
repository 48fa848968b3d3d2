-- Cells that are marked as swept, and the groups past them. Which moves are deep is left open here.
use Rattle.std.specs.Prelude.{◌≡◌, ◌≢◌, ℕ, ◌<◌, ℤ, ◌-ℤ◌, true, List}
use Rattle.std.specs.List.{Contains}
use Rattle.board_base.specs.declared.places.Cell.{Cell}
use Rattle.board_base.specs.declared.places.Point.{Point}
use Rattle.board_base.specs.declared.places.Move.{Move}
use Rattle.board_base.specs.Lattice.{centre_of, cell_of, half_diagonal_of}
use Rattle.cell_grid.specs.declared.frames.Frame.{Frame}
use Rattle.cell_grid.specs.Cells.{in_frame}
use Rattle.cell_sets.specs.Groups.{AreGroups, AreJoined, IsListedPair}
use Rattle.rs274_sim.specs.Cutter.{Sweeps}
use Rattle.mill_plan.specs.declared.cutting.Cutting.{Cutting}

-- the point lies within r of one of the deep moves
abbrev pub IsPassedBy : (Move → Type 0) → List Move → Point → ℤ → Type 0
IsPassedBy Deep moves q r = (move : Move) × Contains moves move × Deep move × Sweeps move q r

-- the cell's centre is so near to a deep move that the cutter reaches all of the cell
abbrev pub IsReached : Cutting → (Move → Type 0) → List Move → Cell → Type 0
IsReached k Deep moves c = IsPassedBy Deep moves (centre_of k.pitch c) (k.radius -ℤ half_diagonal_of k.pitch)

-- such a cell of the frame; no other cell is marked
abbrev pub IsMarked : Cutting → Frame → (Move → Type 0) → List Move → Cell → Type 0
IsMarked k f Deep moves c = (in_frame f c ≡ true) × IsReached k Deep moves c

-- each point of the cell is within the cutter's radius of a deep move
abbrev pub IsWhollySweptBy : Cutting → (Move → Type 0) → List Move → Cell → Type 0
IsWhollySweptBy k Deep moves c = (q : Point) → cell_of k.pitch q ≡ c → IsPassedBy Deep moves q k.radius

-- the groups that are printed: the classes of cells of the whole plane that aren't marked, with two islands or more
abbrev pub ArePrinted : Cutting → Frame → (Move → Type 0) → List Move → (Cell → ℕ) → List (List ℕ) → Type 0
ArePrinted k f Deep moves number groups = AreGroups (λ c. IsMarked k f Deep moves c → ⊥) number groups

-- two islands that cells not wholly swept join stand in one group
abbrev pub PartsOthersBy : Cutting → (Move → Type 0) → (Cell → ℕ) → List (List ℕ) → List Move → Type 0
PartsOthersBy k Deep number groups moves =
    (u v : ℕ) → 0 < u → 0 < v → u ≢ v → AreJoined (λ c. IsWhollySweptBy k Deep moves c → ⊥) number u v → IsListedPair groups u v
