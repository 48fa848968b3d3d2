-- What the reader keeps, and how a command changes it.
use Rattle.std.specs.Prelude.{◌≡◌, ◌^◌, ◌≤◌, ◌<◌, pos, Bool, true, false, ◌&&◌, ◌||◌, List, [], ◌∷◌, Option, Some, None, unwrap_or, Result, if◌then◌else◌, MatchResult, MatchOption, IfSome, ⊤, ◌++◌}
use Rattle.std.specs.Option.{option_or}
use Rattle.std.specs.Ordering.{nat_cmp}
use Rattle.std.specs.List.{list_any}
use Rattle.std.specs.BTreeMap.{get}
use Rattle.board_base.specs.Places.{IsPlace}
use Rattle.apertures.specs.declared.place.Mirror.TheVariants as mirrors
use Rattle.plane_arcs.specs.Turned.{is_far}
use Rattle.gerber_image.specs.InForce.{InForce, sets_format, sets_unit, sets_dark, sets_mirror, sets_angle, sets_mode, sets_multi_quadrant, sets_region, sets_selected, sets_act, sets_x, sets_y, sets_aperture, sets_repeat, macros_after}
use Rattle.apertures.specs.Defined.{at}
use Rattle.gerber_image.specs.Regions.{no_outline}
use Rattle.gerber_image.specs.Routes.{place_after, route}
use Rattle.gerber_image.specs.Image.{outline_after, block_after, painted_after, copies, figure_of}
use Rattle.gerber_image.specs.Checks.{Held, fault_of, is_outside, excess_of, is_open, is_flash, draw_leaves, flash_leaves}
use Rattle.gerber_words.specs.Fits.{IsFormat}
use Rattle.gerber_words.specs.declared.commands.Interpolation.TheVariants as modes
use Rattle.gerber_words.specs.declared.commands.Act.{Act}
use Rattle.gerber_words.specs.declared.commands.Operation.{Operation}
use Rattle.gerber_image.specs.declared.repeat.Repeat.{Repeat}
use Rattle.gerber_words.specs.declared.commands.Command.{Command}
use Rattle.gerber_image.specs.declared.refusal.GerberKind.{GerberKind}
use Rattle.gerber_image.specs.declared.refusal.GerberKind.TheVariants as kinds
use Rattle.gerber_image.specs.declared.state.State.{State}
use Rattle.gerber_image.specs.declared.state.Stop.{Stop}
use Rattle.gerber_image.specs.declared.state.Stop.TheVariants as stops

-- what a state keeps
abbrev pub held_of : State → Held
held_of s = record {
  now = record {
    format = s.format;
    unit = s.unit;
    dark = s.dark;
    mirror = s.mirror;
    angle = s.angle;
    mode = s.mode;
    multi_quadrant = s.multi_quadrant;
    region = s.region;
    selected = s.selected;
    macros = s.macros;
    aperture = λ number. get nat_cmp s.apertures number;
    x = s.here.x;
    y = s.here.y;
    act = s.act;
    repeat = s.repeat;
  };
  outline = record { ended = s.contours.items; points = s.contour };
  block = s.block.items;
  painted = s.painted;
}

-- what is in force behind a command
abbrev pub now_after : InForce → Command → InForce
now_after now command = record {
  format = option_or (sets_format command) now.format;
  unit = option_or (sets_unit command) now.unit;
  dark = unwrap_or (sets_dark command) now.dark;
  mirror = unwrap_or (sets_mirror command) now.mirror;
  angle = unwrap_or (sets_angle command) now.angle;
  mode = unwrap_or (sets_mode command) now.mode;
  multi_quadrant = unwrap_or (sets_multi_quadrant command) now.multi_quadrant;
  region = unwrap_or (sets_region command) now.region;
  selected = option_or (sets_selected command) now.selected;
  macros = macros_after now.macros command;
  aperture = λ number. option_or (sets_aperture number now.unit now.macros command) (now.aperture number);
  x = unwrap_or (sets_x now.format now.unit command) now.x;
  y = unwrap_or (sets_y now.format now.unit command) now.y;
  act = option_or (sets_act command) now.act;
  repeat = unwrap_or (sets_repeat now.unit command) now.repeat;
}

-- what is kept behind a command
abbrev pub after : Held → Command → Held
after h command = record {
  now = now_after h.now command;
  outline = outline_after h.now h.outline command;
  block = block_after h.now h.outline h.block command;
  painted = painted_after h.now h.outline h.block h.painted command;
}

-- what stops a reader: want of memory, or this fault
abbrev pub Stops : Option GerberKind → Stop → Type 0
Stops fault stops.Memory = ⊤
Stops fault (stops.Fault kind) = fault ≡ Some kind

-- a step takes the command, or answers its fault
abbrev pub Steps : {X : Type 0} → Held → Command → Result X Stop → Held → Type 0
Steps h command result new = MatchResult result (λ _. (fault_of h command ≡ None) × (new ≡ after h command)) (Stops (fault_of h command))

-- counts of at most 1,000, and steps that fit
pub record IsRepeat (r : Repeat) : Type 0 where
  pub some_columns : 0 < r.columns
  pub columns : r.columns ≤ 1000
  pub some_rows : 0 < r.rows
  pub rows : r.rows ≤ 1000
  pub dx : r.dx < 2 ^ 110
  pub dy : r.dy < 2 ^ 110

-- what holds before each command
pub record IsReady (h : Held) : Type 0 where
  pub within : excess_of h.painted ≡ None
  pub format : IfSome h.now.format IsFormat
  pub repeat : IfSome h.now.repeat IsRepeat
  pub here : IsPlace (at h.now.x h.now.y)

-- an object, if there is one
abbrev pub listed : {X : Type 0} → Option X → List X
listed None = []
listed (Some x) = x ∷ []

-- what is kept at first
abbrev pub nothing : Held
nothing = record {
  now = record {
    format = None;
    unit = None;
    dark = true;
    mirror = mirrors.Keep;
    angle = 0;
    mode = modes.Linear;
    multi_quadrant = false;
    region = false;
    selected = None;
    macros = [];
    aperture = λ number. None;
    x = pos 0;
    y = pos 0;
    act = None;
    repeat = None;
  };
  outline = no_outline;
  block = [];
  painted = [];
}

-- the fault of the copies that a command paints
abbrev pub block_fault : Held → Option GerberKind
block_fault h =
    if list_any is_outside (copies h.now.repeat h.block) then Some kinds.OutOfRange
    else excess_of (h.painted ++ copies h.now.repeat h.block)

-- the fault of the way of an operation, which draws or doesn't
abbrev pub route_fault : InForce → Bool → Operation → Option GerberKind
route_fault now draws o =
    if draws && is_open (route now o) then Some kinds.OpenArc
    else if is_far (place_after now o) || (draws && draw_leaves now o) then Some kinds.OutOfRange
    else None

-- a flash that leaves the range
abbrev pub flash_fault : Option Act → InForce → Operation → Bool
flash_fault act now o = is_flash act && flash_leaves now o (figure_of now.selected now.aperture)
