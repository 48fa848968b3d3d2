-- What is kept of lines, one after another.
use Rattle.std.specs.Prelude.{◌≡◌, ◌⊎◌, ℕ, List, [], ◌∷◌, ◌++◌, is_some, if◌then◌else◌, Option, Some, None, Result, Ok, Err, MatchResult}
use Rattle.board_base.specs.Binds.{◌>>=◌}
use Rattle.job_file.specs.declared.error.JobKind.{JobKind}
use Rattle.job_file.specs.declared.error.JobKind.TheVariants.{UnknownKey, TwiceGiven, BadValue, Memory}
use Rattle.job_file.specs.declared.error.JobError.{JobError}
use Rattle.job_file.specs.declared.value.Value.{Value}
use Rattle.job_file.specs.declared.value.Given.{Given}
use Rattle.job_file.specs.Keys.{number_of}
use Rattle.job_file.specs.Lines.{Line, Said, nothing, no_key, gives, said}
use Rattle.job_file.specs.Reads.{value_read}
use Rattle.job_file.specs.Reading.{refusal}
use Rattle.job_file.specs.Values.{given}

-- a value of a key is kept behind those before it
abbrev pub valued : List Given → ℕ → ℕ → Result Value JobKind → Result (List Given) JobError
valued before key place (Ok value) = Ok (before ++ record { key = key; value = value; place = place } ∷ [])
valued before key place (Err kind) = Err (refusal kind key place)

-- where there is such a key, and it hasn't been given before
abbrev pub keyed : List Given → ℕ → List ℕ → Option ℕ → Result (List Given) JobError
keyed before place text None = Err (refusal UnknownKey 0 place)
keyed before place text (Some key) =
    if is_some (given key before) then Err (refusal TwiceGiven key place)
    else valued before key place (value_read key text)

-- what a line says
abbrev pub said_behind : List Given → ℕ → Said → Result (List Given) JobError
said_behind before place nothing = Ok before
said_behind before place no_key = Err (refusal BadValue 0 place)
said_behind before place (gives name text) = keyed before place text (number_of name)

-- what is kept behind a line, or its refusal
unfoldable pub behind : List Given → Line → Result (List Given) JobError
behind before line = said_behind before line.place (said line.text)

-- what is kept behind lines, or the first refusal
abbrev pub behind_all : List Given → List Line → Result (List Given) JobError
behind_all before [] = Ok before
behind_all before (line ∷ lines) = do
  more ← behind before line
  behind_all more lines

-- a call that keeps more leads to what is expected, or it is refused so, or for want of memory
abbrev pub Leads : Result (List Given) JobError → List Given → Result (Unit {0}) JobError → Type 0
Leads expected now result = MatchResult result (λ _. expected ≡ Ok now) (λ e. (e.kind ≡ Memory) ⊎ (expected ≡ Err e))
