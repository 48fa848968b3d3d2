-- What holds before each command holds behind one that is taken.
use Rattle.std.proofs.Common.{◌≡◌, ℕ, ◌≤◌, ◌*◌, List, Bool, true, false, Option, Some, None, IfSome, Result, Ok, Err, OnOk}
use Rattle.std.specs.Prelude.{◌==◌, if◌then◌else◌}
use Rattle.std.specs.Option.{option_or}
use Rattle.board_base.specs.Places.{IsPlace}
use Rattle.fixed_num.specs.declared.units.Unit.{Unit}
use Rattle.apertures.specs.declared.place.Mirror.{Mirror}
use Rattle.gerber_image.specs.InForce.{step_length, opened}
use Rattle.apertures.specs.Defined.{at}
use Rattle.gerber_image.specs.Checks.{Held, excess_of, fault_of, count_fault, first_fault_of}
use Rattle.gerber_words.specs.Fits.{IsCommand, IsFormat}
use Rattle.gerber_image.specs.State.{after, Steps, IsReady, IsRepeat}
use Rattle.gerber_words.specs.declared.commands.Format.{Format}
use Rattle.gerber_words.specs.declared.commands.Interpolation.{Interpolation}
use Rattle.gerber_words.specs.declared.commands.Operation.{Operation}
use Rattle.gerber_words.specs.declared.commands.Command.{Command}
use Rattle.gerber_words.specs.declared.commands.Command.TheVariants as commands
use Rattle.gerber_image.specs.declared.state.Stop.{Stop}
use Rattle.gerber_image.proofs.PlaceLaws.{step_bound}

-- a command that is taken
pub taken : {X : Type 0} (h new : Held) (command : Command) (r : Result X Stop) → Steps h command r new → (fault_of h command ≡ None → IsReady (after h command)) → OnOk r (IsReady new)
taken h new command (Ok x) s ready = rw s.1 (ready s.0)
taken h new command (Err stop) s ready = tt

second : {A : Type 0} (a b : Option A) → option_or a b ≡ None → b ≡ None
second None b e = e
second (Some x) b e = absurd cc

-- nothing is too many behind a command that is taken
within_after : (h : Held) (command : Command) → fault_of h command ≡ None → excess_of (after h command).painted ≡ None
within_after h command e = second (first_fault_of h.now h.block command) (count_fault h command) e

pub ready_format : (h : Held) (f : Format) → IsReady h → IsFormat f → IsReady (after h (commands.Format f))
ready_format h f r b = record { within = r.within; format = b; repeat = r.repeat; here = r.here }

pub ready_unit : (h : Held) (unit : Unit) (in_block : Bool) → IsReady h → IsReady (after h (commands.Unit unit in_block))
ready_unit h unit in_block r = record { within = r.within; format = r.format; repeat = r.repeat; here = r.here }

pub ready_polarity : (h : Held) (dark : Bool) → IsReady h → IsReady (after h (commands.Polarity dark))
ready_polarity h dark r = record { within = r.within; format = r.format; repeat = r.repeat; here = r.here }

pub ready_mirror : (h : Held) (mirror : Mirror) → IsReady h → IsReady (after h (commands.Mirror mirror))
ready_mirror h mirror r = record { within = r.within; format = r.format; repeat = r.repeat; here = r.here }

pub ready_rotation : (h : Held) (angle : ℕ) → IsReady h → IsReady (after h (commands.Rotation angle))
ready_rotation h angle r = record { within = r.within; format = r.format; repeat = r.repeat; here = r.here }

pub ready_mode : (h : Held) (mode : Interpolation) → IsReady h → IsReady (after h (commands.Interpolation mode))
ready_mode h mode r = record { within = r.within; format = r.format; repeat = r.repeat; here = r.here }

pub ready_multi_quadrant : (h : Held) (on : Bool) → IsReady h → IsReady (after h (commands.MultiQuadrant on))
ready_multi_quadrant h on r = record { within = r.within; format = r.format; repeat = r.repeat; here = r.here }

pub ready_select : (h : Held) (number : Option ℕ) → IsReady h → IsReady (after h (commands.Select number))
ready_select h number r = record { within = r.within; format = r.format; repeat = r.repeat; here = r.here }

pub ready_define : (h : Held) (number : ℕ) (template : List ℕ) → IsReady h → IsReady (after h (commands.Define number template))
ready_define h number template r = record { within = r.within; format = r.format; repeat = r.repeat; here = r.here }

pub ready_macro : (h : Held) (name body : List ℕ) → IsReady h → IsReady (after h (commands.DefineMacro name body))
ready_macro h name body r = record { within = r.within; format = r.format; repeat = r.repeat; here = r.here }

-- regions

pub ready_begin : (h : Held) → IsReady h → IsReady (after h commands.BeginRegion)
ready_begin h r = record { within = r.within; format = r.format; repeat = r.repeat; here = r.here }

pub ready_end : (h : Held) → IsReady h → fault_of h commands.EndRegion ≡ None → IsReady (after h commands.EndRegion)
ready_end h r e = record { within = within_after h commands.EndRegion e; format = r.format; repeat = r.repeat; here = r.here }

-- repeats

more_than_one : (unit : Unit) (columns rows dx dy : ℕ) (b : Bool) → IsCommand (commands.OpenRepeat columns rows dx dy)
    → IfSome (if b then None else Some (record { columns = columns; rows = rows; dx = step_length unit dx; dy = step_length unit dy })) IsRepeat
more_than_one unit columns rows dx dy true s = tt
more_than_one unit columns rows dx dy false s = record { some_columns = s.0; columns = s.1; some_rows = s.2; rows = s.3; dx = step_bound unit dx s.4; dy = step_bound unit dy s.5 }

opened_fits : (unit : Option Unit) (columns rows dx dy : ℕ) → IsCommand (commands.OpenRepeat columns rows dx dy) → IfSome (opened unit columns rows dx dy) IsRepeat
opened_fits None columns rows dx dy s = tt
opened_fits (Some unit) columns rows dx dy s = more_than_one unit columns rows dx dy (columns * rows == 1) s

pub ready_open : (h : Held) (columns rows dx dy : ℕ) → IsReady h → IsCommand (commands.OpenRepeat columns rows dx dy) → fault_of h (commands.OpenRepeat columns rows dx dy) ≡ None → IsReady (after h (commands.OpenRepeat columns rows dx dy))
ready_open h columns rows dx dy r s e = record { within = within_after h (commands.OpenRepeat columns rows dx dy) e; format = r.format; repeat = opened_fits h.now.unit columns rows dx dy s; here = r.here }

pub ready_close : (h : Held) → IsReady h → fault_of h commands.CloseRepeat ≡ None → IsReady (after h commands.CloseRepeat)
ready_close h r e = record { within = within_after h commands.CloseRepeat e; format = r.format; repeat = tt; here = r.here }

-- operations

pub operated : {X : Type 0} (h new : Held) (o : Operation) (r : Result X Stop) → Steps h (commands.Operate o) r new → OnOk r (IsPlace (at new.now.x new.now.y)) → IsReady h → OnOk r (IsReady new)
operated h new o (Ok x) s place ready = record {
  within = rw s.1 (within_after h (commands.Operate o) s.0);
  format = rw s.1 ready.format;
  repeat = rw s.1 ready.repeat;
  here = place;
}
operated h new o (Err stop) s place ready = tt
