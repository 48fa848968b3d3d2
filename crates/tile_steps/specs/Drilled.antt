-- The rectangle round all that is drilled.
use Rattle.std.specs.Prelude.{pos, ◌≤ℤ◌, List, Option, Some, None}
use Rattle.std.specs.List.{fold}
use Rattle.board_base.specs.declared.places.Point.{Point}
use Rattle.board_base.specs.declared.places.Bounds.{Bounds}
use Rattle.board_base.specs.Places.{IsWithin}
use Rattle.shape_parts.specs.Boxes.{hull}
use Rattle.drill_plan.specs.declared.plans.ToolPlan.{ToolPlan}

-- the rectangle that is one point
abbrev pub point_box : Point → Bounds
point_box p = record { x0 = p.x; y0 = p.y; x1 = p.x; y1 = p.y }

-- the least rectangle that holds a rectangle, or none yet, and a point
abbrev pub with_point : Option Bounds → Point → Option Bounds
with_point None p = Some (point_box p)
with_point (Some all) p = Some (hull all (point_box p))

-- and both ends of a slot
abbrev pub with_slot : Option Bounds → Point × Point → Option Bounds
with_slot all ends = with_point (with_point all ends.0) ends.1

-- and all that a tool drills
abbrev pub with_tool : Option Bounds → ToolPlan → Option Bounds
with_tool all tool = fold with_slot (fold with_point all tool.holes) tool.slots

-- the least rectangle that holds all that is drilled, where there is a hole or a slot
abbrev pub drilled_box : List ToolPlan → Option Bounds
drilled_box plan = fold with_tool None plan

-- a rectangle of places of the board, whose ends aren't exchanged
pub record IsOnBoardBox (b : Bounds) : Type 0 where
  pub within : IsWithin (pos 500000000) b
  pub across : b.x0 ≤ℤ b.x1
  pub up : b.y0 ≤ℤ b.y1
