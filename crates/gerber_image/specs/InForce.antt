-- What is in force at a command. `past` has the commands before it, the nearest first.
use Rattle.std.specs.Prelude.{ℕ, ◌*◌, ℤ, pos, Bool, true, false, List, [], ◌∷◌, ◌++◌, Option, Some, None, unwrap_or, Result, Ok, Err, ◌==◌, if◌then◌else◌, unsigned_abs}
use Rattle.std.specs.Option.{option_or}
use Rattle.std.specs.Str.{bytes_eq}
use Rattle.macro_eval.specs.Trees.{Statement}
use Rattle.macro_eval.specs.Body.{macro_of}
use Rattle.macro_eval.specs.declared.fault.MacroFault.{MacroFault}
use Rattle.apertures.specs.declared.macros.NamedMacro.{NamedMacro}
use Rattle.apertures.specs.declared.aperture.ApertureError.{ApertureError}
use Rattle.fixed_num.specs.declared.units.Unit.{Unit}
use Rattle.fixed_num.specs.declared.units.Unit.TheVariants as units
use Rattle.apertures.specs.declared.place.Mirror.{Mirror}
use Rattle.apertures.specs.declared.place.Mirror.TheVariants as mirrors
use Rattle.apertures.specs.Figures.{Figure}
use Rattle.apertures.specs.Defined.{defined}
use Rattle.apertures.specs.Texts.{length_of}
use Rattle.fixed_num.specs.Units.{nanometres}
use Rattle.gerber_words.specs.declared.commands.AxisFormat.{AxisFormat}
use Rattle.gerber_words.specs.declared.commands.Format.{Format}
use Rattle.gerber_words.specs.declared.commands.Digits.{Digits}
use Rattle.gerber_words.specs.declared.commands.Act.{Act}
use Rattle.gerber_words.specs.declared.commands.Interpolation.{Interpolation}
use Rattle.gerber_words.specs.declared.commands.Interpolation.TheVariants as modes
use Rattle.gerber_image.specs.declared.repeat.Repeat.{Repeat}
use Rattle.gerber_words.specs.declared.commands.Command.{Command}
use Rattle.gerber_words.specs.declared.commands.Command.TheVariants as commands

-- what the last command that sets a thing has set; what a command sets may depend on those before it
abbrev pub last_set : {A : Type 0} → (List Command → Command → Option A) → List Command → Option A
last_set sets [] = None
last_set sets (command ∷ past) = option_or (sets past command) (last_set sets past)

-- What a command sets.

-- the format of coordinates
abbrev pub sets_format : Command → Option Format
sets_format (commands.Format format) = Some format
sets_format _ = None

-- the unit
abbrev pub sets_unit : Command → Option Unit
sets_unit (commands.Unit unit in_block) = Some unit
sets_unit _ = None

-- whether objects are dark
abbrev pub sets_dark : Command → Option Bool
sets_dark (commands.Polarity dark) = Some dark
sets_dark _ = None

-- the mirror of flashes
abbrev pub sets_mirror : Command → Option Mirror
sets_mirror (commands.Mirror mirror) = Some mirror
sets_mirror _ = None

-- the rotation of flashes
abbrev pub sets_angle : Command → Option ℕ
sets_angle (commands.Rotation angle) = Some angle
sets_angle _ = None

-- the mode of strokes
abbrev pub sets_mode : Command → Option Interpolation
sets_mode (commands.Interpolation mode) = Some mode
sets_mode (commands.Operate o) = o.mode
sets_mode _ = None

-- whether arcs may be longer than a quarter
abbrev pub sets_multi_quadrant : Command → Option Bool
sets_multi_quadrant (commands.MultiQuadrant on) = Some on
sets_multi_quadrant _ = None

-- whether a region is open
abbrev pub sets_region : Command → Option Bool
sets_region commands.BeginRegion = Some true
sets_region commands.EndRegion = Some false
sets_region _ = None

-- the number of the selected aperture
abbrev pub sets_selected : Command → Option ℕ
sets_selected (commands.Select number) = number
sets_selected _ = None

-- what operations do
abbrev pub sets_act : Command → Option Act
sets_act (commands.Operate o) = o.act
sets_act _ = None

-- a macro under its name, where its body can be read
abbrev pub named_macro : List ℕ → Result (List Statement) MacroFault → List NamedMacro
named_macro name (Ok body) = record { name = name; body = body } ∷ []
named_macro name (Err fault) = []

-- the macros behind a command: a definition adds one
abbrev pub macros_after : List NamedMacro → Command → List NamedMacro
macros_after macros (commands.DefineMacro name body) = macros ++ named_macro name (macro_of body)
macros_after macros _ = macros

-- the statements of a body, where it can be read
abbrev pub statements_in : Result (List Statement) MacroFault → Option (List Statement)
statements_in (Ok body) = Some body
statements_in (Err fault) = None

-- the macro with this name
abbrev pub sets_macro : List ℕ → Command → Option (List Statement)
sets_macro name (commands.DefineMacro other body) = if bytes_eq other name then statements_in (macro_of body) else None
sets_macro name _ = None

-- the aperture of a text, under the unit and the macros in force; where no unit is, the text is still read as if in millimetres
abbrev pub defined_under : Option Unit → List NamedMacro → List ℕ → Result Figure ApertureError
defined_under unit macros template = defined (unwrap_or unit units.Mm) macros template

-- the aperture, where there is one
abbrev pub figure_in : Result Figure ApertureError → Option Figure
figure_in (Ok figure) = Some figure
figure_in (Err e) = None

-- the aperture with this number
abbrev pub sets_aperture : ℕ → Option Unit → List NamedMacro → Command → Option Figure
sets_aperture number unit macros (commands.Define other template) = if other == number then figure_in (defined_under unit macros template) else None
sets_aperture number unit macros _ = None

-- the digits of X and I by a format
abbrev pub x_format : Option Format → Option AxisFormat
x_format (Some format) = Some format.x
x_format None = None

-- the digits of Y and J
abbrev pub y_format : Option Format → Option AxisFormat
y_format (Some format) = Some format.y
y_format None = None

-- the coordinate that digits say, by the format of its axis and the unit in force
abbrev pub coordinate_of : Option AxisFormat → Option Unit → Option Digits → Option ℤ
coordinate_of (Some format) (Some unit) (Some digits) = Some (nanometres format.decimal_digits unit digits.value)
coordinate_of _ _ _ = None

-- the x of the current point
abbrev pub sets_x : Option Format → Option Unit → Command → Option ℤ
sets_x format unit (commands.Operate o) = coordinate_of (x_format format) unit o.x
sets_x format unit _ = None

-- its y
abbrev pub sets_y : Option Format → Option Unit → Command → Option ℤ
sets_y format unit (commands.Operate o) = coordinate_of (y_format format) unit o.y
sets_y format unit _ = None

-- a step in whole nanometres
abbrev pub step_length : Unit → ℕ → ℕ
step_length unit step = unsigned_abs (length_of unit step)

-- a repeat opens where it has more than one copy
abbrev pub opened : Option Unit → ℕ → ℕ → ℕ → ℕ → Option Repeat
opened (Some unit) columns rows dx dy =
    if columns * rows == 1 then None
    else Some (record { columns = columns; rows = rows; dx = step_length unit dx; dy = step_length unit dy })
opened None columns rows dx dy = None

-- the open repeat, or that none is open
abbrev pub sets_repeat : Option Unit → Command → Option (Option Repeat)
sets_repeat unit (commands.OpenRepeat columns rows dx dy) = Some (opened unit columns rows dx dy)
sets_repeat unit commands.CloseRepeat = Some None
sets_repeat unit _ = None

-- What is in force: what the last command that sets it has set, or what holds at the start.

-- no format at the start
abbrev pub format_at : List Command → Option Format
format_at past = last_set (λ _. sets_format) past

-- no unit at the start
abbrev pub unit_at : List Command → Option Unit
unit_at past = last_set (λ _. sets_unit) past

-- dark at the start
abbrev pub dark_at : List Command → Bool
dark_at past = unwrap_or (last_set (λ _. sets_dark) past) true

-- no mirror at the start
abbrev pub mirror_at : List Command → Mirror
mirror_at past = unwrap_or (last_set (λ _. sets_mirror) past) mirrors.Keep

-- no rotation at the start
abbrev pub angle_at : List Command → ℕ
angle_at past = unwrap_or (last_set (λ _. sets_angle) past) 0

-- linear at the start
abbrev pub mode_at : List Command → Interpolation
mode_at past = unwrap_or (last_set (λ _. sets_mode) past) modes.Linear

-- arcs aren't set to be longer than a quarter at the start
abbrev pub multi_quadrant_at : List Command → Bool
multi_quadrant_at past = unwrap_or (last_set (λ _. sets_multi_quadrant) past) false

-- no region is open at the start
abbrev pub region_at : List Command → Bool
region_at past = unwrap_or (last_set (λ _. sets_region) past) false

-- no selection at the start
abbrev pub selected_at : List Command → Option ℕ
selected_at past = last_set (λ _. sets_selected) past

-- no operation at the start
abbrev pub act_at : List Command → Option Act
act_at past = last_set (λ _. sets_act) past

-- no macros at the start
abbrev pub macros_at : List Command → List NamedMacro
macros_at [] = []
macros_at (command ∷ past) = macros_after (macros_at past) command

-- the last definition of a number
abbrev pub aperture_at : List Command → ℕ → Option Figure
aperture_at past number = last_set (λ past. sets_aperture number (unit_at past) (macros_at past)) past

-- the current point is the origin at the start
abbrev pub x_at : List Command → ℤ
x_at past = unwrap_or (last_set (λ past. sets_x (format_at past) (unit_at past)) past) (pos 0)

-- the same of its y
abbrev pub y_at : List Command → ℤ
y_at past = unwrap_or (last_set (λ past. sets_y (format_at past) (unit_at past)) past) (pos 0)

-- no repeat is open at the start
abbrev pub repeat_at : List Command → Option Repeat
repeat_at past = unwrap_or (last_set (λ past. sets_repeat (unit_at past)) past) None

-- all of it
pub record InForce : Type 0 where
  pub format : Option Format
  pub unit : Option Unit
  pub dark : Bool
  pub mirror : Mirror
  pub angle : ℕ
  pub mode : Interpolation
  pub multi_quadrant : Bool
  pub region : Bool
  pub selected : Option ℕ
  pub macros : List NamedMacro
  pub aperture : ℕ → Option Figure
  pub x : ℤ
  pub y : ℤ
  pub act : Option Act
  pub repeat : Option Repeat

-- what is in force behind these commands
abbrev pub in_force : List Command → InForce
in_force past = record {
  format = format_at past;
  unit = unit_at past;
  dark = dark_at past;
  mirror = mirror_at past;
  angle = angle_at past;
  mode = mode_at past;
  multi_quadrant = multi_quadrant_at past;
  region = region_at past;
  selected = selected_at past;
  macros = macros_at past;
  aperture = aperture_at past;
  x = x_at past;
  y = y_at past;
  act = act_at past;
  repeat = repeat_at past;
}
