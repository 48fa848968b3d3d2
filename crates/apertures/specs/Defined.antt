-- What the text of an aperture defines.
use Rattle.std.specs.Prelude.{ℕ, ℤ, pos, neg_ℤ, ◌-ℤ◌, int_lt, List, [], ◌∷◌, fold, true, false, if◌then◌else◌, Option, Some, None, Result, Ok, Err}
use Rattle.std.specs.Str.{bytes_eq}
use Rattle.board_base.specs.Binds.{◌>>=◌}
use Rattle.macro_eval.specs.Trees.{Statement}
use Rattle.macro_eval.specs.Evaluated.{evaluated}
use Rattle.macro_eval.specs.declared.fault.MacroFault.{MacroFault}
use Rattle.macro_eval.specs.declared.machine.Primitive.{Primitive}
use Rattle.shape_parts.specs.Boxes.{half_up}
use Rattle.shape_parts.specs.declared.shape.Part.{Part}
use Rattle.shape_parts.specs.declared.shape.Part.TheVariants.{Disc, Capsule, Area}
use Rattle.shape_parts.specs.declared.shape.Piece.{Piece}
use Rattle.apertures.specs.declared.aperture.ApertureError.{ApertureError}
use Rattle.apertures.specs.declared.aperture.ApertureError.TheVariants.{Syntax, Unsupported, Macro}
use Rattle.fixed_num.specs.declared.units.Unit.{Unit}
use Rattle.apertures.specs.declared.macros.NamedMacro.{NamedMacro}
use Rattle.apertures.specs.declared.texts.Template.{Template}
use Rattle.apertures.specs.declared.texts.Template.TheVariants.{Circle, Obround, Rectangle, Polygon}
use Rattle.apertures.specs.Figures.{Figure}
pub use Rattle.apertures.specs.Outlines.{at}
use Rattle.apertures.specs.Outlines.{corners, vertices}
use Rattle.apertures.specs.Primitives.{all_pieces}
use Rattle.apertures.specs.Texts.{name_in, template_of, values_behind, arguments_of, not_below, sizes_of, count_of, turn_of, width_of}

-- a disc about the origin
abbrev pub disc : ℤ → Part
disc d = Disc (at (pos 0) (pos 0)) d

-- A capsule along the longer side of a box about the origin, as wide as the shorter one. Its ends are half of the
-- difference from the origin. In a square it is a disc.
unfoldable pub capsule : ℤ → ℤ → Part
capsule w h =
    if int_lt h w then Capsule (at (half_up (w -ℤ h)) (pos 0)) (at (neg_ℤ (half_up (w -ℤ h))) (pos 0)) h
    else if int_lt w h then Capsule (at (pos 0) (half_up (h -ℤ w))) (at (pos 0) (neg_ℤ (half_up (h -ℤ w)))) w
    else disc w

-- a rectangle about the origin
abbrev pub rectangle : ℤ → ℤ → Part
rectangle w h = Area (corners w h ∷ [])

-- a regular polygon of n vertices about the origin, of which the first stands at the angle `turn`
abbrev pub polygon : ℤ → ℕ → ℕ → Part
polygon d n turn = Area (vertices d n turn ∷ [])

-- a part that is on
abbrev pub solid : Part → Piece
solid part = record { part = part; on = true }

-- a hole: a disc that is off
abbrev pub hole : ℤ → Piece
hole d = record { part = disc d; on = false }

-- a circle of these sizes: its diameter, and the diameter of its hole; a hole of two sizes is a rectangle
abbrev pub circle_of : Unit → List ℕ → Result Figure ApertureError
circle_of unit (size ∷ []) = do
  d ← width_of unit size
  Ok (record { pieces = solid (disc d) ∷ []; stroke = Some d })
circle_of unit (size ∷ inner ∷ []) = do
  d ← width_of unit size
  e ← width_of unit inner
  Ok (record { pieces = solid (disc d) ∷ hole e ∷ []; stroke = None })
circle_of unit (size ∷ width ∷ height ∷ []) = Err Unsupported
circle_of unit sizes = Err Syntax

-- an obround of these sizes: its width, its height, and the diameter of its hole
abbrev pub obround_of : Unit → List ℕ → Result Figure ApertureError
obround_of unit (width ∷ height ∷ []) = do
  w ← width_of unit width
  h ← width_of unit height
  Ok (record { pieces = solid (capsule w h) ∷ []; stroke = None })
obround_of unit (width ∷ height ∷ inner ∷ []) = do
  w ← width_of unit width
  h ← width_of unit height
  e ← width_of unit inner
  Ok (record { pieces = solid (capsule w h) ∷ hole e ∷ []; stroke = None })
obround_of unit (width ∷ height ∷ inner_width ∷ inner_height ∷ []) = Err Unsupported
obround_of unit sizes = Err Syntax

-- a rectangle of these sizes: its width, its height, and the diameter of its hole
abbrev pub rectangle_of : Unit → List ℕ → Result Figure ApertureError
rectangle_of unit (width ∷ height ∷ []) = do
  w ← width_of unit width
  h ← width_of unit height
  Ok (record { pieces = solid (rectangle w h) ∷ []; stroke = None })
rectangle_of unit (width ∷ height ∷ inner ∷ []) = do
  w ← width_of unit width
  h ← width_of unit height
  e ← width_of unit inner
  Ok (record { pieces = solid (rectangle w h) ∷ hole e ∷ []; stroke = None })
rectangle_of unit (width ∷ height ∷ inner_width ∷ inner_height ∷ []) = Err Unsupported
rectangle_of unit sizes = Err Syntax

-- a polygon with the sizes of its hole, where it has one
abbrev pub pierced_polygon : Unit → ℕ → ℕ → ℕ → List ℕ → Result Figure ApertureError
pierced_polygon unit size n turn [] = do
  d ← width_of unit size
  Ok (record { pieces = solid (polygon d n turn) ∷ []; stroke = None })
pierced_polygon unit size n turn (inner ∷ []) = do
  d ← width_of unit size
  e ← width_of unit inner
  Ok (record { pieces = solid (polygon d n turn) ∷ hole e ∷ []; stroke = None })
pierced_polygon unit size n turn (width ∷ height ∷ []) = Err Unsupported
pierced_polygon unit size n turn holes = Err Syntax

-- a polygon by the values that stand before those of its hole: its diameter, the number of its vertices and its angle
abbrev pub polygon_at : Unit → ℤ → ℤ → ℤ → List ℤ → Result Figure ApertureError
polygon_at unit across count angle holes = do
  size ← not_below across
  corners ← not_below count
  n ← count_of 12 corners
  inner ← sizes_of holes
  pierced_polygon unit size n (turn_of angle) inner

-- a polygon of these values; where none is given its angle is 0
abbrev pub polygon_of : Unit → List ℤ → Result Figure ApertureError
polygon_of unit (across ∷ count ∷ []) = polygon_at unit across count (pos 0) []
polygon_of unit (across ∷ count ∷ angle ∷ holes) = polygon_at unit across count angle holes
polygon_of unit values = Err Syntax

-- the figure of a template with these values; all but the angle of a polygon are sizes
abbrev pub figure_of : Template → Unit → List ℤ → Result Figure ApertureError
figure_of Circle unit values = do
  sizes ← sizes_of values
  circle_of unit sizes
figure_of Obround unit values = do
  sizes ← sizes_of values
  obround_of unit sizes
figure_of Rectangle unit values = do
  sizes ← sizes_of values
  rectangle_of unit sizes
figure_of Polygon unit values = polygon_of unit values

-- the primitives of a macro, or its fault
abbrev pub primitives_or : Result (List Primitive) MacroFault → Result (List Primitive) ApertureError
primitives_or (Err fault) = Err (Macro fault)
primitives_or (Ok primitives) = Ok primitives

-- the figure of a macro with these arguments: the pieces of its primitives
abbrev pub macro_figure : Unit → List Statement → List ℤ → Result Figure ApertureError
macro_figure unit statements arguments = do
  primitives ← primitives_or (evaluated statements arguments)
  pieces ← all_pieces unit primitives
  Ok (record { pieces = pieces; stroke = None })

-- the macro of a name, of which the last one counts
abbrev pub macro_named : List ℕ → List NamedMacro → Option (List Statement)
macro_named name macros = fold (λ found m. if bytes_eq m.name name then Some m.body else found) None macros

-- a macro that is there, or no aperture
abbrev pub a_macro : Option (List Statement) → Result (List Statement) ApertureError
a_macro None = Err Syntax
a_macro (Some statements) = Ok statements

-- the aperture of a text with the macro of its name
abbrev pub by_macro : Unit → List NamedMacro → List ℕ → Result Figure ApertureError
by_macro unit macros bytes = do
  statements ← a_macro (macro_named (name_in bytes) macros)
  arguments ← arguments_of bytes
  macro_figure unit statements arguments

-- the aperture of a text with a template, or else with a macro
abbrev pub by_template : Option Template → Unit → List NamedMacro → List ℕ → Result Figure ApertureError
by_template None unit macros bytes = by_macro unit macros bytes
by_template (Some template) unit macros bytes = do
  values ← values_behind bytes
  figure_of template unit values

-- the aperture that a text defines where these macros are there, or why it defines none
unfoldable pub defined : Unit → List NamedMacro → List ℕ → Result Figure ApertureError
defined unit macros bytes = by_template (template_of bytes) unit macros bytes
