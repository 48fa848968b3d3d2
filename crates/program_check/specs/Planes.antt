-- What a grid holds of the marks, and moves over a surface that is flat.
use Rattle.std.specs.Prelude.{◌≡◌, ◌↔◌, ℕ, ℤ, ◌*ℤ◌, Bool, true, false, List, None}
use Rattle.board_base.specs.declared.places.Cell.{Cell}
use Rattle.board_base.specs.declared.places.Move.{Move}
use Rattle.cell_grid.specs.declared.frames.Frame.{Frame}
use Rattle.cell_grid.specs.Cells.{in_frame}
use Rattle.cell_sets.specs.Groups.{AreGroups}
use Rattle.rs274_sim.specs.Cutter.{nanometre, IsDeep}
use Rattle.mill_program.specs.Probes.{surface}
use Rattle.mill_plan.specs.declared.cutting.Cutting.{Cutting}
use Rattle.mill_plan.specs.Mills.{IsWhollySwept}
use Rattle.mill_plan.specs.Isolated.{PartsOthers}
use Rattle.program_check.specs.Deep.{Surface, IsDeepOver}
use Rattle.program_check.specs.Marks.{IsReached, IsWhollySweptBy, ArePrinted, PartsOthersBy}

-- of the frame's cells exactly those that are reached aren't free, and all cells outside are free
pub record AreFreeCells (k : Cutting) (f : Frame) (Deep : Move → Type 0) (moves : List Move) (free : Cell → Bool) : Type 0 where
  pub inside : (c : Cell) → in_frame f c ≡ true → free c ≡ false ↔ IsReached k Deep moves c
  pub outside : (c : Cell) → in_frame f c ≡ false → free c ≡ true

-- the groups of free cells are those that are printed
abbrev pub PlaneLaw : Type 0
PlaneLaw =
    (k : Cutting) (f : Frame) (over : Surface) (work : ℤ) (moves : List Move) (free : Cell → Bool) (number : Cell → ℕ) (groups : List (List ℕ))
    → AreFreeCells k f (IsDeepOver over work) moves free → AreGroups (λ c. free c ≡ true) number groups → ArePrinted k f (IsDeepOver over work) moves number groups

-- where nothing is probed, deep, wholly swept and parted are what they are for the program of a side
pub record FlatLaw : Type 0 where
  pub deep : (answers : List ℤ) (work : ℤ) (move : Move) → IsDeepOver (surface None answers) work move ↔ IsDeep (work *ℤ nanometre) move
  pub swept : (answers : List ℤ) (k : Cutting) (work : ℤ) (moves : List Move) (c : Cell) → IsWhollySweptBy k (IsDeepOver (surface None answers) work) moves c ↔ IsWhollySwept k work moves c
  pub parts : (answers : List ℤ) (k : Cutting) (work : ℤ) (number : Cell → ℕ) (groups : List (List ℕ)) (moves : List Move)
      → PartsOthersBy k (IsDeepOver (surface None answers) work) number groups moves → PartsOthers k work number groups moves
