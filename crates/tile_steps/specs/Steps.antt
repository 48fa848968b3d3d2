-- How far the tiles of a board stand apart.
use Rattle.std.specs.Prelude.{ℕ, ◌+◌, ◌-◌, ◌*◌, ◌/◌, ◌≤◌, ℤ, ◌-ℤ◌, unsigned_abs, max, List, Option, Some, None, IfSome}
use Rattle.board_base.specs.declared.places.Bounds.{Bounds}
use Rattle.cell_grid.specs.declared.frames.Frame.{Frame}
use Rattle.drill_plan.specs.declared.plans.ToolPlan.{ToolPlan}
use Rattle.tile_steps.specs.declared.steps.Frames.{Frames}
use Rattle.tile_steps.specs.declared.steps.TileStep.{TileStep}
use Rattle.tile_steps.specs.Drilled.{drilled_box}

-- the columns of a frame, and its rows; none of what isn't there
abbrev pub columns : Option Frame → ℕ
columns None = 0
columns (Some f) = f.width

abbrev pub rows : Option Frame → ℕ
rows None = 0
rows (Some f) = f.height

-- what is kept free between the holes of two tiles, in nanometres: 2 mm
abbrev pub between_holes : ℕ
between_holes = 2000000

-- as many cells as hold the way from one number to another, and what is kept free
unfoldable pub cells_for : ℤ → ℤ → ℤ → ℕ
cells_for pitch from to = (unsigned_abs (to -ℤ from) + between_holes + unsigned_abs pitch - 1) / unsigned_abs pitch

-- the same of the rectangle round what is drilled; none where nothing is
abbrev pub drilled_columns : ℤ → Option Bounds → ℕ
drilled_columns pitch None = 0
drilled_columns pitch (Some b) = cells_for pitch b.x0 b.x1

abbrev pub drilled_rows : ℤ → Option Bounds → ℕ
drilled_rows pitch None = 0
drilled_rows pitch (Some b) = cells_for pitch b.y0 b.y1

-- the rectangle round the holes, where there is a drill list
abbrev pub drilled_in : Option (List ToolPlan) → Option Bounds
drilled_in None = None
drilled_in (Some plan) = drilled_box plan

-- in each axis the greatest of 1, of the frames' sides, and of what the holes take
unfoldable pub step_of : ℤ → Frames → Option (List ToolPlan) → TileStep
step_of pitch frames drill = record {
  east = max 1 (max (max (columns frames.front) (columns frames.back)) (max (columns frames.outline) (drilled_columns pitch (drilled_in drill))));
  north = max 1 (max (max (rows frames.front) (rows frames.back)) (max (rows frames.outline) (drilled_rows pitch (drilled_in drill))));
}

-- a frame whose sides are at most a metre and a millimetre
pub record IsNarrow (pitch : ℤ) (f : Frame) : Type 0 where
  pub wide : f.width * unsigned_abs pitch ≤ 1001000000
  pub high : f.height * unsigned_abs pitch ≤ 1001000000

-- the same of all that are there
pub record AreNarrow (pitch : ℤ) (frames : Frames) : Type 0 where
  pub front : IfSome frames.front (IsNarrow pitch)
  pub back : IfSome frames.back (IsNarrow pitch)
  pub outline : IfSome frames.outline (IsNarrow pitch)

-- a step of at most 1.1 m
pub record IsShortStep (pitch : ℤ) (step : TileStep) : Type 0 where
  pub east : step.east * unsigned_abs pitch ≤ 1100000000
  pub north : step.north * unsigned_abs pitch ≤ 1100000000
