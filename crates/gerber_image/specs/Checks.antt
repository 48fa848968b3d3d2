-- The checks of a command, in their order.
use Rattle.std.specs.Prelude.{◌+◌, ◌||◌, pos, Bool, true, false, List, [], ◌∷◌, length, Option, Some, None, is_some, is_none, Result, Ok, Err, unwrap_or, ◌==◌, if◌then◌else◌, ◌&&◌, not, nat_lt}
use Rattle.std.specs.Option.{option_or}
use Rattle.std.specs.List.{list_any}
use Rattle.board_base.specs.declared.places.Point.{Point}
use Rattle.shape_parts.specs.declared.shape.Part.{Part}
use Rattle.plane_arcs.specs.declared.arcs.ArcError.{ArcError}
use Rattle.plane_arcs.specs.declared.arcs.ArcError.TheVariants as arc_errors
use Rattle.shape_parts.specs.declared.shape.Part.TheVariants.{Disc, Capsule, Area}
use Rattle.shape_parts.specs.declared.shape.Piece.{Piece}
use Rattle.shape_parts.specs.declared.shape.Painted.{Painted}
use Rattle.macro_eval.specs.Trees.{Statement}
use Rattle.macro_eval.specs.Body.{macro_of}
use Rattle.macro_eval.specs.declared.fault.MacroFault.{MacroFault}
use Rattle.macro_eval.specs.declared.fault.MacroFault.TheVariants as faults
use Rattle.apertures.specs.declared.aperture.ApertureError.{ApertureError}
use Rattle.apertures.specs.declared.aperture.ApertureError.TheVariants as errors
use Rattle.fixed_num.specs.declared.units.Unit.{Unit}
use Rattle.fixed_num.specs.declared.units.Unit.TheVariants as units
use Rattle.apertures.specs.Figures.{Figure}
use Rattle.apertures.specs.Placed.{placed}
use Rattle.plane_arcs.specs.Turned.{is_far}
use Rattle.gerber_image.specs.InForce.{InForce, in_force, defined_under, x_format, y_format}
use Rattle.gerber_image.specs.Routes.{place_after, mode_after, is_curved, arc_centre, route}
use Rattle.gerber_image.specs.Regions.{Outline}
use Rattle.gerber_image.specs.Image.{figure_of, copies, outline_at, block_at, painted_by, painted_after, vertices_in}
use Rattle.gerber_image.specs.Objects.{excess}
use Rattle.gerber_words.specs.declared.commands.AxisFormat.{AxisFormat}
use Rattle.gerber_words.specs.declared.commands.Format.{Format}
use Rattle.gerber_words.specs.declared.commands.Digits.{Digits}
use Rattle.gerber_words.specs.declared.commands.Act.{Act}
use Rattle.gerber_words.specs.declared.commands.Act.TheVariants as acts
use Rattle.gerber_words.specs.declared.commands.Operation.{Operation}
use Rattle.gerber_words.specs.declared.commands.Command.{Command}
use Rattle.gerber_words.specs.declared.commands.Command.TheVariants as commands
use Rattle.gerber_image.specs.declared.refusal.GerberKind.{GerberKind}
use Rattle.gerber_image.specs.declared.refusal.GerberKind.TheVariants as kinds

-- of a list of tests and kinds the kind of the first test that holds
abbrev pub first_fault : List (Bool × GerberKind) → Option GerberKind
first_fault [] = None
first_fault (f ∷ fs) = if f.0 then Some f.1 else first_fault fs

-- Syntax.

-- the digits of an axis are the same
abbrev pub same_axis : AxisFormat → AxisFormat → Bool
same_axis f g = (f.integer_digits == g.integer_digits) && (f.decimal_digits == g.decimal_digits)

-- no format was set, or this one
abbrev pub same_format : Format → Option Format → Bool
same_format f None = true
same_format f (Some g) = same_axis f.x g.x && same_axis f.y g.y

-- no unit was set, or this one
abbrev pub same_unit : Unit → Option Unit → Bool
same_unit units.Mm (Some units.Inch) = false
same_unit units.Inch (Some units.Mm) = false
same_unit _ _ = true

-- more digits than the format of the axis has
abbrev pub is_long : Option AxisFormat → Option Digits → Bool
is_long (Some format) (Some digits) = nat_lt (format.integer_digits + format.decimal_digits) digits.count
is_long _ _ = false

-- one of the coordinates has
abbrev pub has_long : Option Format → Operation → Bool
has_long format o = is_long (x_format format) o.x || is_long (y_format format) o.y || is_long (x_format format) o.i || is_long (y_format format) o.j

-- the text of an aperture is outside its grammar
abbrev pub is_no_aperture : Result Figure ApertureError → Bool
is_no_aperture (Err errors.Syntax) = true
is_no_aperture _ = false

-- the commands that may not stand here
abbrev pub is_misplaced : InForce → Command → Bool
is_misplaced now (commands.Format format) = not (same_format format now.format)
is_misplaced now (commands.Unit unit in_block) = not (same_unit unit now.unit)
is_misplaced now (commands.Define number template) = is_no_aperture (defined_under now.unit now.macros template)
is_misplaced now commands.CloseRepeat = is_none now.repeat
is_misplaced now commands.EndRegion = not now.region
is_misplaced now (commands.Operate o) = is_none (option_or o.act now.act) || has_long now.format o
is_misplaced now _ = false

-- Unsupported.

-- the aperture has a rectangular hole
abbrev pub is_unsupported_aperture : Result Figure ApertureError → Bool
is_unsupported_aperture (Err errors.Unsupported) = true
is_unsupported_aperture _ = false

-- an aperture that makes no strokes
abbrev pub is_strokeless : Option Figure → Bool
is_strokeless (Some figure) = is_none figure.stroke
is_strokeless None = false

-- a draw
abbrev pub is_draw : Option Act → Bool
is_draw (Some acts.Draw) = true
is_draw _ = false

-- an arc where arcs may not be longer than a quarter
abbrev pub is_short_arc : InForce → Operation → Bool
is_short_arc now o = is_curved (mode_after now o) && not now.multi_quadrant

-- a stroke with an aperture that makes none
abbrev pub lacks_stroke : InForce → Bool
lacks_stroke now = not now.region && is_strokeless (figure_of now.selected now.aperture)

-- what is left out
abbrev pub is_left_out : InForce → Command → Bool
is_left_out now commands.Unsupported = true
is_left_out now (commands.Define number template) = is_unsupported_aperture (defined_under now.unit now.macros template)
is_left_out now (commands.Operate o) = is_draw (option_or o.act now.act) && (is_short_arc now o || lacks_stroke now)
is_left_out now _ = false

-- NoFormat, NoUnit and NoAperture.

-- an operation with a coordinate
abbrev pub has_coordinate : Command → Bool
has_coordinate (commands.Operate o) = is_some o.x || is_some o.y || is_some o.i || is_some o.j
has_coordinate _ = false

-- a command with a length
abbrev pub needs_unit : Command → Bool
needs_unit (commands.Define number template) = true
needs_unit (commands.OpenRepeat columns rows dx dy) = true
needs_unit command = has_coordinate command

-- a flash
abbrev pub is_flash : Option Act → Bool
is_flash (Some acts.Flash) = true
is_flash _ = false

-- a flash, or a draw outside regions
abbrev pub wants_aperture : Bool → Option Act → Bool
wants_aperture region act = is_flash act || (is_draw act && not region)

-- an undefined aperture is selected, or none is where one is wanted
abbrev pub lacks_aperture : InForce → Command → Bool
lacks_aperture now (commands.Select number) = is_none (figure_of number now.aperture)
lacks_aperture now (commands.Operate o) = wants_aperture now.region (option_or o.act now.act) && is_none now.selected
lacks_aperture now _ = false

-- OpenRegion.

-- what a region may not hold: a flash, another region, the end, and what stands between percent signs, but for attributes and names
abbrev pub is_barred : InForce → Command → Bool
is_barred now (commands.Operate o) = is_flash (option_or o.act now.act)
is_barred now (commands.Unit unit in_block) = in_block
is_barred now commands.BeginRegion = true
is_barred now commands.End = true
is_barred now (commands.Format format) = true
is_barred now (commands.Polarity dark) = true
is_barred now (commands.Mirror mirror) = true
is_barred now (commands.Rotation angle) = true
is_barred now (commands.Define number template) = true
is_barred now (commands.DefineMacro name body) = true
is_barred now (commands.OpenRepeat columns rows dx dy) = true
is_barred now commands.CloseRepeat = true
is_barred now commands.DeprecatedSetting = true
is_barred now _ = false

-- OpenRepeat.

-- the end of the file's commands
abbrev pub is_end : Command → Bool
is_end commands.End = true
is_end _ = false

-- OpenArc.

-- the ends aren't equally far from the centre
abbrev pub is_open : Result (List Point) ArcError → Bool
is_open (Err (arc_errors.OpenArc start_radius end_radius)) = true
is_open _ = false

-- an arc that its ends don't close
abbrev pub opens_arc : InForce → Command → Bool
opens_arc now (commands.Operate o) = is_draw (option_or o.act now.act) && is_open (route now o)
opens_arc now _ = false

-- Macro.

-- what is wrong with a body
abbrev pub body_fault : Result (List Statement) MacroFault → Option MacroFault
body_fault (Err fault) = Some fault
body_fault (Ok body) = None

-- what is wrong with an aperture's macro for its arguments
abbrev pub argument_fault : Result Figure ApertureError → Option MacroFault
argument_fault (Err (errors.Macro fault)) = Some fault
argument_fault _ = None

-- what is wrong with a macro
abbrev pub macro_fault : InForce → Command → Option MacroFault
macro_fault now (commands.DefineMacro name body) = body_fault (macro_of body)
macro_fault now (commands.Define number template) = argument_fault (defined_under now.unit now.macros template)
macro_fault now _ = None

-- the kind of a macro's fault
abbrev pub macro_kind : Option MacroFault → GerberKind
macro_kind fault = kinds.Macro (unwrap_or fault faults.Memory)

-- OutOfRange.

-- a size of the aperture is past the range
abbrev pub is_great : Result Figure ApertureError → Bool
is_great (Err errors.OutOfRange) = true
is_great _ = false

-- a point of the part is
abbrev pub part_leaves : Part → Bool
part_leaves (Disc c d) = is_far c
part_leaves (Capsule a b d) = is_far a || is_far b
part_leaves (Area loops) = list_any (list_any is_far) loops

-- a point of the piece is
abbrev pub piece_leaves : Piece → Bool
piece_leaves p = part_leaves p.part

-- a point of the object is
abbrev pub is_outside : Painted → Bool
is_outside p = list_any piece_leaves p.shape

-- a point of an arc is past the range
abbrev pub is_past : Result (List Point) ArcError → Bool
is_past (Err arc_errors.PastRange) = true
is_past _ = false

-- an arc whose centre is past the range
abbrev pub is_far_arc : InForce → Operation → Bool
is_far_arc now o = is_curved (mode_after now o) && is_far (arc_centre now o)

-- a draw with a centre or a point past the range
abbrev pub draw_leaves : InForce → Operation → Bool
draw_leaves now o = is_far_arc now o || is_past (route now o)

-- a flash with a point past the range
abbrev pub flash_leaves : InForce → Operation → Option Figure → Bool
flash_leaves now o (Some figure) = is_none (placed (place_after now o) now.mirror (pos now.angle) figure.pieces)
flash_leaves now o None = false

-- what an act brings past the range
abbrev pub act_leaves : Option Act → InForce → Operation → Bool
act_leaves (Some acts.Draw) now o = draw_leaves now o
act_leaves (Some acts.Flash) now o = flash_leaves now o (figure_of now.selected now.aperture)
act_leaves _ now o = false

-- what a command brings past the range
abbrev pub leaves_range : InForce → List Painted → Command → Bool
leaves_range now block (commands.Operate o) = is_far (place_after now o) || act_leaves (option_or o.act now.act) now o
leaves_range now block (commands.Define number template) = is_great (defined_under now.unit now.macros template)
leaves_range now block commands.CloseRepeat = list_any is_outside (copies now.repeat block)
leaves_range now block (commands.OpenRepeat columns rows dx dy) = list_any is_outside (copies now.repeat block)
leaves_range now block _ = false

-- All of them.

-- all that a command's checks look at
pub record Held : Type 0 where
  pub now : InForce
  pub outline : Outline
  pub block : List Painted
  pub painted : List Painted

-- the same behind these commands
abbrev pub held : List Command → Held
held past = record { now = in_force past; outline = outline_at past; block = block_at past; painted = painted_by past }

-- the first check of a command that fails, the counts of objects and vertices aside
abbrev pub first_fault_of : InForce → List Painted → Command → Option GerberKind
first_fault_of now block command =
    first_fault ((is_misplaced now command, kinds.Syntax)
    ∷ (is_left_out now command, kinds.Unsupported)
    ∷ (has_coordinate command && is_none now.format, kinds.NoFormat)
    ∷ (needs_unit command && is_none now.unit, kinds.NoUnit)
    ∷ (lacks_aperture now command, kinds.NoAperture)
    ∷ (now.region && is_barred now command, kinds.OpenRegion)
    ∷ (is_end command && is_some now.repeat, kinds.OpenRepeat)
    ∷ (opens_arc now command, kinds.OpenArc)
    ∷ (is_some (macro_fault now command), macro_kind (macro_fault now command))
    ∷ (leaves_range now block command, kinds.OutOfRange)
    ∷ [])

-- what there is too much of among the objects
abbrev pub excess_of : List Painted → Option GerberKind
excess_of painted = excess (length painted) (vertices_in painted)

-- the same of what is painted behind a command
abbrev pub count_fault : Held → Command → Option GerberKind
count_fault h command = excess_of (painted_after h.now h.outline h.block h.painted command)

-- the first check of a command that fails
abbrev pub fault_of : Held → Command → Option GerberKind
fault_of h command = option_or (first_fault_of h.now h.block command) (count_fault h command)
