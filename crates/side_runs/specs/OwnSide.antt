-- The program of a side is one of those that pass the check.
use Rattle.std.specs.Prelude.{◌≡◌, ◌↔◌, ℕ, ℤ, ◌*ℤ◌, Bool, true, false, List, None, Ok}
use Rattle.std.specs.List.{Contains}
use Rattle.board_base.specs.declared.places.Cell.{Cell}
use Rattle.board_base.specs.declared.places.Move.{Move}
use Rattle.cell_sets.specs.Barrier.{IsBarrier}
use Rattle.cell_sets.specs.Contour.{IsAllowed}
use Rattle.cell_sets.specs.Islands.{AreIslands}
use Rattle.cell_grid.specs.declared.frames.Frame.{Frame}
use Rattle.cell_grid.specs.Cells.{in_frame, IsOnBorder}
use Rattle.shape_parts.specs.declared.shape.Painted.{Painted}
use Rattle.rs274_sim.specs.Cutter.{nanometre, IsLow}
use Rattle.rs274_sim.specs.Machine.{run_of}
use Rattle.mill_program.specs.Lines.{lines_of}
use Rattle.mill_program.specs.Probes.{surface}
use Rattle.job_file.specs.declared.job.Job.{Job}
use Rattle.mill_plan.specs.declared.cutting.Cutting.{Cutting}
use Rattle.mill_plan.specs.declared.isolation.Isolation.{Isolation}
use Rattle.mill_plan.specs.Job.{IsSideJob}
use Rattle.mill_plan.specs.Cutting.{guard, kept_by, side_cutting, IsVisited}
use Rattle.mill_plan.specs.Frame.{IsFrameOf}
use Rattle.mill_plan.specs.Isolated.{IsIsolationOf}
use Rattle.program_check.specs.Deep.{Surface, IsDeepOver}
use Rattle.program_check.specs.Marks.{ArePrinted}
use Rattle.program_check.specs.Own.{Follows, IsOwn, OwnProgram}

-- at the depth of the job, over a surface that isn't probed
abbrev pub IsDeepIn : Job → List ℤ → Move → Type 0
IsDeepIn job answers move = IsDeepOver (surface None answers) job.zwork move

-- the tests tell which cells the first pass may visit, and which cells are visited: these lie in the frame and part all that may
-- be visited, to which the frame's border and all that is outside belong
pub record AreSideTests (k : Cutting) (painted : List Painted) (f : Frame) (allowed visited : Cell → Bool) : Type 0 where
  pub allowed_are : (c : Cell) → allowed c ≡ true ↔ IsAllowed (kept_by k painted) (guard k 0) c
  pub visited_are : (c : Cell) → visited c ≡ true ↔ IsVisited k painted c
  pub barrier : IsBarrier allowed visited (kept_by k painted)
  pub inside : (c : Cell) → visited c ≡ true → in_frame f c ≡ true
  pub border : (c : Cell) → IsOnBorder f c → allowed c ≡ true
  pub outside : (c : Cell) → in_frame f c ≡ false → allowed c ≡ true

-- a planned side has such tests
abbrev pub SideTestsLaw : Type 0
SideTestsLaw =
    (job : Job) (painted : List Painted) (plan : Isolation) → IsSideJob job → IsIsolationOf job painted plan
    → (allowed visited : Cell → Bool) × AreSideTests (side_cutting job) painted plan.frame allowed visited

-- the moves are a side's own over its frame, by such tests, and low moves follow visited cells
pub record IsOwnSide (job : Job) (painted : List Painted) (plan : Isolation) (answers : List ℤ) (moves : List Move) : Type 0 where
  pub allowed : Cell → Bool
  pub visited : Cell → Bool
  pub tests : AreSideTests (side_cutting job) painted plan.frame allowed visited
  pub own : IsOwn (side_cutting job) painted plan.frame job.zsafe (IsDeepIn job answers) moves allowed visited
  pub along : (move : Move) → Contains moves move → IsLow (job.zsafe *ℤ nanometre) move → Follows (side_cutting job) (λ c. visited c ≡ true) move

-- the run of a side's program is that
abbrev pub OwnSideLaw : Type 0
OwnSideLaw =
    (job : Job) (painted : List Painted) (plan : Isolation) (answers : List ℤ) (moves : List Move) → IsSideJob job → IsIsolationOf job painted plan
    → run_of answers (lines_of plan.program) ≡ Ok moves → IsOwnSide job painted plan answers moves

-- ---- the check

-- moves that are a side's own pass the check over the side's frame, whatever surface they go over, and each pair of islands that
-- is printed of them stands in a group of the plan
abbrev pub OwnMovesLaw : Type 0
OwnMovesLaw =
    (job : Job) (painted : List Painted) (plan : Isolation) (over : Surface) (moves : List Move) (allowed visited : Cell → Bool) (frame : Frame) (number : Cell → ℕ) (count : ℕ) (printed : List (List ℕ))
    → IsSideJob job → IsIsolationOf job painted plan → IsOwn (side_cutting job) painted plan.frame job.zsafe (IsDeepOver over job.zwork) moves allowed visited
    → IsFrameOf (side_cutting job) painted (Ok frame) → AreIslands (kept_by (side_cutting job) painted) number count
    → ArePrinted (side_cutting job) frame (IsDeepOver over job.zwork) moves number printed → OwnProgram (side_cutting job) painted job.zsafe moves printed plan.groups.items

-- so it is with the run of a side's program
abbrev pub OwnCheckLaw : Type 0
OwnCheckLaw =
    (job : Job) (painted : List Painted) (plan : Isolation) (answers : List ℤ) (moves : List Move) (frame : Frame) (number : Cell → ℕ) (count : ℕ) (printed : List (List ℕ)) → IsSideJob job
    → IsIsolationOf job painted plan → run_of answers (lines_of plan.program) ≡ Ok moves → IsFrameOf (side_cutting job) painted (Ok frame) → AreIslands (kept_by (side_cutting job) painted) number count
    → ArePrinted (side_cutting job) frame (IsDeepIn job answers) moves number printed → OwnProgram (side_cutting job) painted job.zsafe moves printed plan.groups.items
