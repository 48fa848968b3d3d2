-- How the cell that is named is found: move by move, and for each the cells in the order of rows.
use Rattle.std.specs.Prelude.{◌≡◌, ℕ, ◌<◌, ℤ, List, [], ◌∷◌, ◌++◌, Ok}
use Rattle.board_base.specs.declared.places.Cell.{Cell}
use Rattle.board_base.specs.declared.places.Move.{Move}
use Rattle.cell_sets.specs.Chains.{IsBefore}
use Rattle.shape_parts.specs.declared.shape.Painted.{Painted}
use Rattle.rs274_sim.specs.declared.line.Line.{Line}
use Rattle.rs274_sim.specs.Machine.{run_of}
use Rattle.mill_plan.specs.declared.cutting.Cutting.{Cutting}
use Rattle.program_check.specs.Hits.{IsHit, IsClear, IsFirstHit}

-- each move is of a later line than the one before it, and the first is of a later one than n
abbrev pub IsRising : ℕ → List Move → Type 0
IsRising n [] = Unit {0}
IsRising n (m ∷ moves) = (n < m.line) × IsRising m.line moves

-- a line makes one move at most, so a run's moves rise
abbrev pub RisingLaw : Type 0
RisingLaw = (answers : List ℤ) (lines : List Line) (moves : List Move) → run_of answers lines ≡ Ok moves → IsRising 0 moves

-- where no move before this one hits a cell, and this one hits no cell before c, it is this one and c that are named
abbrev pub ScanLaw : Type 0
ScanLaw =
    (k : Cutting) (painted : List Painted) (safe : ℤ) (before : List Move) (move : Move) (after : List Move) (c : Cell) → IsRising 0 (before ++ move ∷ after)
    → IsClear k painted safe before → IsHit k painted safe (before ++ move ∷ after) move c
    → ((d : Cell) → IsHit k painted safe (before ++ move ∷ after) move d → IsBefore d c → ⊥) → IsFirstHit k painted safe (before ++ move ∷ after) move.line c
