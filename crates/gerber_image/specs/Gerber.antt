-- What the bytes of a Gerber file stand for.
use Rattle.std.specs.Prelude.{◌≡◌, ℕ, Bool, false, List, [], ◌∷◌, length, Option, Some, None, Result, Ok, Err, map, if◌then◌else◌, ⊤}
use Rattle.std.specs.List.{between}
use Rattle.gerber_lexer.specs.Cut.{next_of}
use Rattle.gerber_lexer.specs.declared.lexer.Span.{Span}
use Rattle.gerber_words.specs.Texts.{command_of}
use Rattle.gerber_image.specs.Image.{painted_by}
use Rattle.gerber_image.specs.Checks.{held, fault_of, is_end}
use Rattle.gerber_words.specs.declared.commands.Command.{Command}
use Rattle.shape_parts.specs.declared.shape.Painted.{Painted}
use Rattle.gerber_image.specs.declared.refusal.GerberKind.{GerberKind}
use Rattle.gerber_image.specs.declared.refusal.GerberKind.TheVariants as kinds

-- a command of the bytes and what it says
pub record Read : Type 0 where
  pub span : Span
  pub command : Command

-- what the commands say
abbrev pub all_commands : List Read → List Command
all_commands past = map (λ r. r.command) past

-- the command behind those of `past`, the nearest of which stands first
abbrev pub next_behind : List ℕ → List Read → Result (Option Span) ℕ
next_behind bytes [] = next_of bytes 0 false
next_behind bytes (r ∷ past) = next_of bytes r.span.next r.span.inside

-- what the command at a place says
abbrev pub command_by : List ℕ → Span → Option Command
command_by bytes span = command_of (between span.from span.to bytes) span.extended

-- an image, or a refusal and its offset
abbrev pub Outcome : Type 0
Outcome = Result (List Painted) (GerberKind × ℕ)

-- what a command leads to: its refusal, at the last one the image, else nothing yet
abbrev pub led : List Command → Command → ℕ → Option GerberKind → Option Outcome
led past command at (Some kind) = Some (Err (kind, at))
led past command at None = if is_end command then Some (Ok (painted_by past)) else None

-- what a command at a place leads to by what it says
abbrev pub told : List Command → ℕ → Option Command → Option Outcome
told past at None = Some (Err (kinds.Syntax, at))
told past at (Some command) = led past command at (fault_of (held past) command)

-- what the lexer's answer leads to: its fault, or the end of the bytes, or a command
abbrev pub found : List ℕ → List Command → Result (Option Span) ℕ → Option Outcome
found bytes past (Err at) = Some (Err (kinds.Syntax, at))
found bytes past (Ok None) = Some (Err (kinds.NoEnd, length bytes))
found bytes past (Ok (Some span)) = told past span.from (command_by bytes span)

-- what the command behind these leads to
abbrev pub outcome_behind : List ℕ → List Read → Option Outcome
outcome_behind bytes past = found bytes (all_commands past) (next_behind bytes past)

-- The bytes begin with these commands, the nearest first, and none of them is refused or the end.
abbrev pub BeginsWith : List ℕ → List Read → Type 0
BeginsWith bytes [] = ⊤
BeginsWith bytes (r ∷ past) =
    (next_behind bytes past ≡ Ok (Some r.span)) × (command_by bytes r.span ≡ Some r.command) × (outcome_behind bytes past ≡ None) × BeginsWith bytes past

-- What the bytes stand for is what the first command that isn't passed over leads to.
abbrev pub StandsFor : List ℕ → Outcome → Type 0
StandsFor bytes outcome = (past : List Read) × BeginsWith bytes past × (outcome_behind bytes past ≡ Some outcome)
