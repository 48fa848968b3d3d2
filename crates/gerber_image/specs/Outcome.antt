-- The one outcome of the bytes of a Gerber file.
use Rattle.std.specs.Prelude.{◌≡◌, ◌⊎◌, ℕ, zero, suc, ◌+◌, List, [], ◌∷◌, length, Option, Some, None, unwrap_or, Result, Ok, Err, MatchResult}
use Rattle.std.specs.Option.{option_map}
use Rattle.gerber_lexer.specs.declared.lexer.Span.{Span}
use Rattle.shape_parts.specs.declared.shape.Painted.{Painted}
use Rattle.gerber_image.specs.Gerber.{Read, Outcome, next_behind, command_by, outcome_behind, StandsFor}
use Rattle.gerber_image.specs.declared.refusal.GerberError.{GerberError}
use Rattle.gerber_image.specs.declared.refusal.GerberKind.TheVariants as kinds

-- a command that says something
abbrev pub read_in : List ℕ → Result (Option Span) ℕ → Option Read
read_in bytes (Ok (Some span)) = option_map (λ command. record { span = span; command = command }) (command_by bytes span)
read_in bytes _ = None

-- with one more command, if there is one
abbrev pub with_read : Option Read → List Read → List Read
with_read None past = past
with_read (Some r) past = r ∷ past

-- the outcome behind these commands, if it comes behind fewer further ones than the number
abbrev pub outcome_within : ℕ → List ℕ → List Read → Outcome
outcome_within zero bytes past = Err (kinds.NoEnd, length bytes)
outcome_within (suc n) bytes past = unwrap_or (outcome_behind bytes past) (outcome_within n bytes (with_read (read_in bytes (next_behind bytes past)) past))

-- The outcome of the bytes. They have at least as many bytes as commands.
unfoldable pub outcome_of : List ℕ → Outcome
outcome_of bytes = outcome_within (length bytes + 1) bytes []

-- the bytes stand for their outcome
abbrev pub SomeOutcome : Type 0
SomeOutcome = (bytes : List ℕ) → StandsFor bytes (outcome_of bytes)

-- an answer is the outcome, or want of memory
abbrev pub AnswersOutcome : {X : Type 0} → (X → List Painted) → List ℕ → Result X GerberError → Type 0
AnswersOutcome view bytes result = MatchResult result (λ v. outcome_of bytes ≡ Ok (view v)) (λ e. (e.kind ≡ kinds.Memory) ⊎ (outcome_of bytes ≡ Err (e.kind, e.at)))
