-- Kept cells that the low moves of a run hit, and the one that is named.
use Rattle.std.specs.Prelude.{◌≡◌, ℕ, ◌≤◌, ℤ, ◌+ℤ◌, ◌*ℤ◌, true, List}
use Rattle.std.specs.List.{Contains}
use Rattle.board_base.specs.declared.places.Cell.{Cell}
use Rattle.board_base.specs.declared.places.Move.{Move}
use Rattle.board_base.specs.Lattice.{centre_of, half_diagonal_of}
use Rattle.cell_sets.specs.Chains.{IsBefore}
use Rattle.shape_parts.specs.declared.shape.Painted.{Painted}
use Rattle.rs274_sim.specs.Cutter.{nanometre, IsLow, Sweeps}
use Rattle.mill_plan.specs.declared.cutting.Cutting.{Cutting}
use Rattle.mill_plan.specs.Cutting.{bite_of, kept_by}

-- the cell is kept, the move is low, and the cell's centre is so near to it that it may bite one of the cell's points
abbrev pub IsHit : Cutting → List Painted → ℤ → List Move → Move → Cell → Type 0
IsHit k painted safe moves move c =
    Contains moves move × IsLow (safe *ℤ nanometre) move × (kept_by k painted c ≡ true) × Sweeps move (centre_of k.pitch c) (bite_of k +ℤ half_diagonal_of k.pitch)

-- no kept cell is hit
abbrev pub IsClear : Cutting → List Painted → ℤ → List Move → Type 0
IsClear k painted safe moves = (move : Move) (c : Cell) → IsHit k painted safe moves move c → ⊥

-- the least line whose move hits a kept cell, and the first cell in the order of rows that a move of this line hits
pub record IsFirstHit (k : Cutting) (painted : List Painted) (safe : ℤ) (moves : List Move) (line : ℕ) (c : Cell) : Type 0 where
  pub move : Move
  pub of_line : move.line ≡ line
  pub hit : IsHit k painted safe moves move c
  pub least : (m : Move) (d : Cell) → IsHit k painted safe moves m d → line ≤ m.line
  pub first : (m : Move) (d : Cell) → m.line ≡ line → IsHit k painted safe moves m d → IsBefore d c → ⊥

-- one line and one cell at most are named
abbrev pub OneHit : Type 0
OneHit =
    (k : Cutting) (painted : List Painted) (safe : ℤ) (moves : List Move) (line line' : ℕ) (c c' : Cell)
    → IsFirstHit k painted safe moves line c → IsFirstHit k painted safe moves line' c' → (line ≡ line') × (c ≡ c')
