-- The numbers of commands.
use Rattle.std.specs.Prelude.{◌<◌, ◌≤◌, ◌^◌, unsigned_abs, ⊤, IfSome}
use Rattle.apertures.specs.Texts.{IsSize}
use Rattle.gerber_words.specs.declared.commands.AxisFormat.{AxisFormat}
use Rattle.gerber_words.specs.declared.commands.Format.{Format}
use Rattle.gerber_words.specs.declared.commands.Digits.{Digits}
use Rattle.gerber_words.specs.declared.commands.Operation.{Operation}
use Rattle.gerber_words.specs.declared.commands.Command.{Command}
use Rattle.gerber_words.specs.declared.commands.Command.TheVariants as commands

-- the number is one that so many digits write
abbrev pub IsWritten : Digits → Type 0
IsWritten d = unsigned_abs d.value < 10 ^ d.count

-- the same of all coordinates of an operation
pub record AreWritten (o : Operation) : Type 0 where
  pub x : IfSome o.x IsWritten
  pub y : IfSome o.y IsWritten
  pub i : IfSome o.i IsWritten
  pub j : IfSome o.j IsWritten

-- at most six digits before the point and six behind it
abbrev pub IsAxisFormat : AxisFormat → Type 0
IsAxisFormat f = (f.integer_digits ≤ 6) × (f.decimal_digits ≤ 6)

-- the same of both axes
abbrev pub IsFormat : Format → Type 0
IsFormat f = IsAxisFormat f.x × IsAxisFormat f.y

-- a format has at most six digits on each side, a repeat at least one copy each way, steps are sizes, and coordinates are
-- what their digits write
abbrev pub IsCommand : Command → Type 0
IsCommand (commands.Format f) = IsFormat f
IsCommand (commands.OpenRepeat columns rows dx dy) = (0 < columns) × (columns ≤ 1000) × (0 < rows) × (rows ≤ 1000) × IsSize dx × IsSize dy
IsCommand (commands.Operate o) = AreWritten o
IsCommand _ = ⊤
