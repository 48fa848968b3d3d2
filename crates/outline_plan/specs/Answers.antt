-- What is answered for an outline.
use Rattle.std.specs.Prelude.{ℕ, List, Result, Ok, Err}
use Rattle.board_base.specs.declared.places.Point.{Point}
use Rattle.shape_parts.specs.declared.shape.Painted.{Painted}
use Rattle.outline_loops.specs.declared.refusals.OutlineError.{OutlineError}
use Rattle.outline_loops.specs.declared.refusals.OutlineError.TheVariants.{OpenOutline, EmptyOutline, TooManyPoints, Memory as NoMemory}
use Rattle.outline_loops.specs.Answers.{IsClosedBoard, Answers as BoardAnswers}
use Rattle.job_file.specs.declared.job.Job.{Job}
use Rattle.mill_plan.specs.declared.limits.LimitHit.{LimitHit}
use Rattle.mill_plan.specs.declared.limits.LimitHit.TheVariants.{Reach, Side, Cells, Islands, Objects, Vertices, Holes, Probes, Tile}
use Rattle.mill_plan.specs.Frame.{HitsLimit}
use Rattle.outline_plan.specs.declared.plan.OutlineCut.{OutlineCut}
use Rattle.outline_plan.specs.declared.errors.OutlinePlanError.{OutlinePlanError}
use Rattle.outline_plan.specs.declared.errors.OutlinePlanError.TheVariants.{Outline, Limit, Memory}
use Rattle.outline_plan.specs.Job.{outline_cutting}
use Rattle.outline_plan.specs.CutOut.{board_of, CutsOut}

-- the outline is open at an end, or has no loop
abbrev pub IsRefused : List Painted → OutlineError → Type 0
IsRefused painted (OpenOutline at degree) = BoardAnswers painted (Err (OpenOutline at degree))
IsRefused painted EmptyOutline = BoardAnswers painted (Err EmptyOutline)
IsRefused painted (TooManyPoints count) = ⊥
IsRefused painted NoMemory = ⊥

-- the outline is closed, and the frame of its board passes this limit
pub record IsBoardPast (job : Job) (painted : List Painted) (hit : LimitHit) : Type 0 where
  pub loops : List (List Point)
  pub board : IsClosedBoard painted loops
  pub past : HitsLimit (outline_cutting job) (board_of loops) hit

-- The outline passes this limit: its board has too many points, or the board's frame is refused so. Nothing of it is
-- numbered as an island.
abbrev pub HitsOutlineLimit : Job → List Painted → LimitHit → Type 0
HitsOutlineLimit job painted (Reach value) = IsBoardPast job painted (Reach value)
HitsOutlineLimit job painted (Side side) = IsBoardPast job painted (Side side)
HitsOutlineLimit job painted (Cells cells) = IsBoardPast job painted (Cells cells)
HitsOutlineLimit job painted Islands = ⊥
HitsOutlineLimit job painted Objects = ⊥
HitsOutlineLimit job painted Holes = ⊥
HitsOutlineLimit job painted (Probes count) = ⊥
HitsOutlineLimit job painted (Tile x y) = ⊥
HitsOutlineLimit job painted Vertices = (count : ℕ) × BoardAnswers painted (Err (TooManyPoints count))

-- The plan that cuts the board out; or the first of these refusals: an end is open, there is no loop, a limit is passed.
-- Want of memory may come in place of any.
abbrev pub Answers : Job → List Painted → Result OutlineCut OutlinePlanError → Type 0
Answers job painted (Ok plan) = CutsOut job painted plan
Answers job painted (Err (Outline error)) = IsRefused painted error
Answers job painted (Err (Limit hit)) = HitsOutlineLimit job painted hit
Answers job painted (Err Memory) = Unit {0}
