-- The checks of a line, in their order.
use Rattle.std.specs.Prelude.{◌+◌, ℤ, pos, Bool, true, false, List, [], ◌∷◌, ◌++◌, length, Option, Some, None, is_none, ◌==◌, if◌then◌else◌, ◌&&◌, ◌||◌, not, nat_lt, int_le}
use Rattle.board_base.specs.declared.places.Point.{Point}
use Rattle.plane_arcs.specs.Turned.{is_far}
use Rattle.excellon.specs.Numbers.{format_in}
use Rattle.excellon.specs.InForce.{InForce, in_force, diameter_of}
use Rattle.excellon.specs.Drilled.{act_of, place_after, place_before, tool_of, holes_after, slots_after, holes_by, slots_by}
use Rattle.excellon.specs.declared.file.Hole.{Hole}
use Rattle.excellon.specs.declared.file.Slot.{Slot}
use Rattle.excellon.specs.declared.file.DrillKind.{DrillKind}
use Rattle.excellon.specs.declared.file.DrillKind.TheVariants as kinds
use Rattle.excellon.specs.declared.line.Format.{Format}
use Rattle.excellon.specs.declared.line.Coordinate.{Coordinate}
use Rattle.excellon.specs.declared.line.Coordinate.TheVariants.{Decimal, Digits}
use Rattle.excellon.specs.declared.line.Pair.{Pair}
use Rattle.excellon.specs.declared.line.Act.{Act}
use Rattle.excellon.specs.declared.line.Act.TheVariants as acts
use Rattle.excellon.specs.declared.line.Said.{Said}
use Rattle.excellon.specs.declared.line.Said.TheVariants as says

-- of a list of tests and kinds the kind of the first test that holds
abbrev pub first_fault : List (Bool × DrillKind) → Option DrillKind
first_fault [] = None
first_fault (f ∷ fs) = if f.0 then Some f.1 else first_fault fs

-- Syntax.

-- more digits than there may be
abbrev pub is_long : Format → Option Coordinate → Bool
is_long format (Some (Digits count value)) = nat_lt (format.whole + format.decimals) count
is_long format _ = false

-- one of the coordinates has
abbrev pub has_long : Format → Pair → Bool
has_long format pair = is_long format pair.x || is_long format pair.y

-- the same where there is a point from which a line leads
abbrev pub from_long : Format → Option Pair → Bool
from_long format (Some from) = has_long format from
from_long format None = false

-- a line with too many digits
abbrev pub is_misplaced : Format → Said → Bool
is_misplaced format (says.Go way) = has_long format way.to || from_long format way.from
is_misplaced format _ = false

-- Unsupported.

-- what is left out
abbrev pub is_unsupported : Said → Bool
is_unsupported says.Unsupported = true
is_unsupported _ = false

-- NoUnit.

-- a line with a tool or with coordinates
abbrev pub needs_unit : Said → Bool
needs_unit (says.Define number size) = true
needs_unit (says.Select number) = not (number == 0)
needs_unit (says.Go way) = true
needs_unit _ = false

-- NoTool and NoDiameter.

-- a hole or a slot
abbrev pub hits : Act → Bool
hits acts.Move = false
hits _ = true

-- a tool without a diameter, or with 0
abbrev pub is_empty : Option ℤ → Bool
is_empty (Some diameter) = int_le diameter (pos 0)
is_empty None = false

-- OutOfRange.

-- the diameter is
abbrev pub is_wide : Option ℤ → Bool
is_wide (Some diameter) = not (int_le diameter (pos 20000000))
is_wide None = false

-- what a line brings past the range
abbrev pub leaves_range : InForce → Said → Bool
leaves_range now (says.Go way) = is_far (place_before now (says.Go way)) || is_far (place_after now (says.Go way))
leaves_range now (says.Define number size) = is_wide (diameter_of now.scale.unit size)
leaves_range now _ = false

-- All of them.

-- all that a line's checks look at
pub record Held : Type 0 where
  pub now : InForce
  pub holes : List Hole
  pub slots : List Slot

-- the same behind these lines
abbrev pub held : List Said → Held
held past = record { now = in_force past; holes = holes_by past; slots = slots_by past }

-- more holes and slots than there may be
abbrev pub are_many : List Hole → List Slot → Bool
are_many holes slots = nat_lt 10000 (length holes + length slots)

-- the checks of a line: which tests fail it, and as what
abbrev pub checks_of : Held → Said → List (Bool × DrillKind)
checks_of h said =
    ((is_misplaced (format_in h.now.scale.unit h.now.scale.format) said, kinds.Syntax)
    ∷ (is_unsupported said, kinds.Unsupported)
    ∷ (needs_unit said && is_none h.now.scale.unit, kinds.NoUnit)
    ∷ (hits (act_of h.now said) && is_none (tool_of h.now), kinds.NoTool)
    ∷ (hits (act_of h.now said) && is_empty (tool_of h.now), kinds.NoDiameter)
    ∷ (leaves_range h.now said, kinds.OutOfRange)
    ∷ (hits (act_of h.now said) && are_many (holes_after h.now said h.holes) (slots_after h.now said h.slots), kinds.TooMany)
    ∷ [])

-- the first check of a line that fails
abbrev pub fault_of : Held → Said → Option DrillKind
fault_of h said = first_fault (checks_of h said)
