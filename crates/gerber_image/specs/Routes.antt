-- The ways of draws.
use Rattle.std.specs.Prelude.{ℤ, pos, ◌+ℤ◌, Bool, true, false, List, [], ◌∷◌, drop, Option, unwrap_or, if◌then◌else◌, Result, Ok, Err}
use Rattle.board_base.specs.declared.places.Point.{Point}
use Rattle.plane_arcs.specs.Arcs.{chain_of}
use Rattle.plane_arcs.specs.declared.arcs.Arc.{Arc}
use Rattle.plane_arcs.specs.declared.arcs.ArcError.{ArcError}
use Rattle.shape_parts.specs.declared.shape.Part.TheVariants.{Capsule}
use Rattle.shape_parts.specs.declared.shape.Piece.{Piece}
use Rattle.apertures.specs.Defined.{at, solid}
use Rattle.gerber_image.specs.InForce.{InForce, x_format, y_format, coordinate_of}
use Rattle.fixed_num.specs.declared.units.Unit.{Unit}
use Rattle.gerber_words.specs.declared.commands.AxisFormat.{AxisFormat}
use Rattle.gerber_words.specs.declared.commands.Digits.{Digits}
use Rattle.gerber_words.specs.declared.commands.Interpolation.{Interpolation}
use Rattle.gerber_words.specs.declared.commands.Interpolation.TheVariants as modes
use Rattle.gerber_words.specs.declared.commands.Operation.{Operation}

-- the x to which an operation leads, by what is in force
abbrev pub x_after : InForce → Operation → ℤ
x_after now o = unwrap_or (coordinate_of (x_format now.format) now.unit o.x) now.x

-- its y
abbrev pub y_after : InForce → Operation → ℤ
y_after now o = unwrap_or (coordinate_of (y_format now.format) now.unit o.y) now.y

-- the point to which it leads
abbrev pub place_after : InForce → Operation → Point
place_after now o = at (x_after now o) (y_after now o)

-- the mode in which it leads there
abbrev pub mode_after : InForce → Operation → Interpolation
mode_after now o = unwrap_or o.mode now.mode

-- along an arc
abbrev pub is_curved : Interpolation → Bool
is_curved modes.Linear = false
is_curved _ = true

-- counterclockwise
abbrev pub turns_left : Interpolation → Bool
turns_left modes.Counterclockwise = true
turns_left _ = false

-- how far I leads by the digits of X, or J by those of Y: 0 where it isn't said
abbrev pub offset : Option AxisFormat → Option Unit → Option Digits → ℤ
offset format unit digits = unwrap_or (coordinate_of format unit digits) (pos 0)

-- the centre of an operation's arc: I and J are counted from the current point
unfoldable pub arc_centre : InForce → Operation → Point
arc_centre now o = at (now.x +ℤ offset (x_format now.format) now.unit o.i) (now.y +ℤ offset (y_format now.format) now.unit o.j)

-- the arc of an operation
abbrev pub arc_of : InForce → Operation → Arc
arc_of now o = record { start = at now.x now.y; end = place_after now o; centre = arc_centre now o; ccw = turns_left (mode_after now o) }

-- the points of a draw: the current one and the new one, or the chain of the arc between them
abbrev pub route : InForce → Operation → Result (List Point) ArcError
route now o = if is_curved (mode_after now o) then chain_of (arc_of now o) else Ok (at now.x now.y ∷ place_after now o ∷ [])

-- the points that a draw adds to a contour: all but the first, which is the current point
abbrev pub added : Result (List Point) ArcError → List Point
added (Ok points) = drop 1 points
added (Err e) = []

-- a stroke of a width from each point to the next one
abbrev pub strokes : ℤ → List Point → List Piece
strokes d [] = []
strokes d (a ∷ []) = []
strokes d (a ∷ b ∷ points) = solid (Capsule a b d) ∷ strokes d (b ∷ points)
