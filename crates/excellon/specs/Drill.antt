-- What the bytes of a drill file stand for.
use Rattle.std.specs.Prelude.{◌≡◌, ◌⊎◌, ℕ, Bool, true, false, List, [], ◌∷◌, length, Option, Some, None, Result, Ok, Err, MatchResult, if◌then◌else◌}
use Rattle.excellon.specs.Body.{said_of}
use Rattle.excellon.specs.InForce.{part_at}
use Rattle.excellon.specs.Drilled.{drilled_by}
use Rattle.excellon.specs.Checks.{held, fault_of}
use Rattle.text_cut.specs.Lines.{Line, lines_from}
use Rattle.excellon.specs.declared.file.DrillFile.{DrillFile}
use Rattle.excellon.specs.declared.file.DrillError.{DrillError}
use Rattle.excellon.specs.declared.file.DrillKind.{DrillKind}
use Rattle.excellon.specs.declared.file.DrillKind.TheVariants as kinds
use Rattle.excellon.specs.declared.line.Said.{Said}
use Rattle.excellon.specs.declared.line.Said.TheVariants as says

-- holes and slots, or a refusal
abbrev pub Outcome : Type 0
Outcome = Result DrillFile DrillError

-- a refusal at an offset
abbrev pub refused : DrillKind → ℕ → Outcome
refused kind at = Err (record { kind = kind; at = at })

-- the end of the file's lines
abbrev pub is_end : Said → Bool
is_end says.End = true
is_end _ = false

-- what a line leads to: its fault, at the last one what all before it drilled, else what comes behind it
abbrev pub led : List Said → Said → ℕ → Option DrillKind → Outcome → Outcome
led past said at (Some kind) behind = refused kind at
led past said at None behind = if is_end said then Ok (drilled_by past) else behind

-- what a line at an offset leads to by what it says
abbrev pub told : List Said → ℕ → Option Said → (Said → Outcome) → Outcome
told past at None behind = refused kinds.Syntax at
told past at (Some said) behind = led past said at (fault_of (held past) said) (behind said)

-- what these lines lead to, behind those of `past`, in a file of so many bytes
abbrev pub outcome_in : ℕ → List Said → List Line → Outcome
outcome_in size past [] = refused kinds.NoEnd size
outcome_in size past (line ∷ lines) = told past line.offset (said_of (part_at past) line.text) (λ said. outcome_in size (said ∷ past) lines)

-- the outcome of the bytes: what the first line leads to that is refused or the end
unfoldable pub drill_of : List ℕ → Outcome
drill_of bytes = outcome_in (length bytes) [] (lines_from 0 bytes)

-- an answer is the outcome, or want of memory
abbrev pub AnswersOutcome : List ℕ → Outcome → Type 0
AnswersOutcome bytes result = MatchResult result (λ file. drill_of bytes ≡ Ok file) (λ e. (e.kind ≡ kinds.Memory) ⊎ (drill_of bytes ≡ Err e))

-- no bytes stand for want of memory
abbrev pub NeverMemory : Type 0
NeverMemory = (bytes : List ℕ) (at : ℕ) → drill_of bytes ≡ refused kinds.Memory at → ⊥
