-- Copies within the range.
use Rattle.std.specs.Prelude.{◌≡◌, ℕ, ◌<◌, pos, ◌+ℤ◌, false, List, Option}
use Rattle.std.specs.List.{list_any}
use Rattle.board_base.specs.declared.places.Point.{Point}
use Rattle.plane_arcs.specs.Turned.{point_at}
use Rattle.shape_parts.specs.declared.shape.Painted.{Painted}
use Rattle.gerber_image.specs.Image.{copy}
use Rattle.gerber_image.specs.Checks.{is_outside}
use Rattle.gerber_image.specs.declared.repeat.Repeat.{Repeat}
use Rattle.gerber_image.specs.declared.repeat.Shift.{Shift}

-- where a shift leads, if that is in the range
unfoldable pub shift_of : Shift → Point → Option Point
shift_of s p = point_at (p.x +ℤ pos s.dx) (p.y +ℤ pos s.dy)

-- no copy leaves the range
abbrev pub AreInside : Repeat → List Painted → Type 0
AreInside r block = (i j : ℕ) → i < r.columns → j < r.rows → list_any is_outside (copy r block i j) ≡ false
