-- What is made of an outline, step by step.
use Rattle.std.specs.Prelude.{◌≡◌, ◌≢◌, List, Err}
use Rattle.board_base.specs.declared.places.Point.{Point}
use Rattle.shape_parts.specs.declared.shape.Painted.{Painted}
use Rattle.outline_loops.specs.declared.refusals.OutlineError.{OutlineError}
use Rattle.outline_loops.specs.declared.refusals.OutlineError.TheVariants.{OpenOutline, EmptyOutline, TooManyPoints, Memory as NoMemory}
use Rattle.outline_loops.specs.Answers.{IsClosedBoard, Answers as BoardAnswers}
use Rattle.mill_plan.specs.declared.cutting.Cutting.{Cutting}
use Rattle.mill_plan.specs.declared.limits.LimitHit.TheVariants.{Islands, Vertices}
use Rattle.mill_plan.specs.declared.limits.PlanError.{PlanError}
use Rattle.mill_plan.specs.declared.limits.PlanError.TheVariants as plan
use Rattle.mill_plan.specs.Frame.{HitsLimit}
use Rattle.outline_plan.specs.declared.errors.OutlinePlanError.{OutlinePlanError}
use Rattle.outline_plan.specs.declared.errors.OutlinePlanError.TheVariants.{Outline, Limit, Memory}
use Rattle.outline_plan.specs.CutOut.{board_of}

-- the board of the outline, as one dark object
pub record IsBoardOf (painted board : List Painted) : Type 0 where
  pub loops : List (List Point)
  pub closed : IsClosedBoard painted loops
  pub is : board ≡ board_of loops

-- what a refusal of an outline is to its plan
abbrev pub refusal_of : OutlineError → OutlinePlanError
refusal_of (OpenOutline at degree) = Outline (OpenOutline at degree)
refusal_of EmptyOutline = Outline EmptyOutline
refusal_of (TooManyPoints count) = Limit Vertices
refusal_of NoMemory = Memory

-- the refusal is that of the outline's loops
pub record IsRefusalOf (painted : List Painted) (error : OutlinePlanError) : Type 0 where
  pub cause : OutlineError
  pub refused : BoardAnswers painted (Err cause)
  pub is : error ≡ refusal_of cause

-- what a refusal of a grid is to the plan
abbrev pub error_of : PlanError → OutlinePlanError
error_of (plan.Limit hit) = Limit hit
error_of plan.Memory = Memory

-- the refusal is that of the frame round the objects
abbrev pub IsFrameRefusal : Cutting → List Painted → OutlinePlanError → Type 0
IsFrameRefusal k board (Outline error) = ⊥
IsFrameRefusal k board (Limit hit) = (hit ≢ Islands) × HitsLimit k board hit
IsFrameRefusal k board Memory = Unit {0}
