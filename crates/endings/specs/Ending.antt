-- How a command ends where nothing fails.
use Rattle.std.specs.Prelude.{ℕ, List, [], ◌++◌, Option}
use Rattle.board_base.specs.declared.places.Role.{Role}
use Rattle.board_base.specs.Files.{Files}
use Rattle.endings.specs.declared.status.Status.{Status}
use Rattle.endings.specs.declared.status.Status.TheVariants.{Done, ReadFault}
use Rattle.endings.specs.Lines.{line_of}
use Rattle.endings.specs.Outputs.{Output}
use Rattle.endings.specs.Reads.{Reading, MayRead, without}

-- its status, the files that it writes, and the lines of its own, `ok` too, which come before the line of a refusal
pub record Ending : Type 0 where
  pub status : Status
  pub outputs : List Output
  pub lines : List ℕ

-- a refusal, with nothing written and no line but its own
abbrev pub refusal : Status → Ending
refusal status = record { status = status; outputs = []; lines = [] }

-- the lines of an ending with this status, by those that the command makes: `ok` comes behind them where it is done
abbrev pub with_ok : Status → List ℕ → List ℕ
with_ok Done lines = lines ++ line_of Done
with_ok status lines = lines

-- the endings that a command may have with what reads give
abbrev pub Command : Type 1
Command = Reading → Ending → Type 0

-- the command ends so with the files, or with what some files would give where they aren't told, and P holds of it
abbrev pub Reaches : Command → Option Files → (Ending → Type 0) → Type 0
Reaches ends files P = (given : Reading) × MayRead files given × (e : Ending) × ends given e × P e

-- the command asks for the input of this role before anything refuses: where it isn't there, that is how it ends
abbrev pub Asks : Command → Role → Reading → Type 0
Asks ends role given = ends (without role given) (refusal (ReadFault role))
