-- What lines give, and which of them are refused.
use Rattle.std.specs.Prelude.{◌≡◌, ◌⊎◌, ℕ, List, [], ◌∷◌, ◌++◌, map, string_bytes, String, Vec, is_some, if◌then◌else◌, Option, Some, None, Result, Ok, Err, MatchResult}
use Rattle.std.specs.declared.alloc.Global.{Global}
use Rattle.std.specs.List.{filter_map}
use Rattle.std.specs.Option.{option_or}
use Rattle.job_file.specs.declared.error.JobKind.{JobKind}
use Rattle.job_file.specs.declared.error.JobKind.TheVariants.{UnknownKey, TwiceGiven, BadValue, Memory}
use Rattle.job_file.specs.declared.error.JobError.{JobError}
use Rattle.job_file.specs.declared.value.Value.{Value}
use Rattle.job_file.specs.declared.value.Given.{Given}
use Rattle.job_file.specs.Keys.{number_of}
use Rattle.job_file.specs.Lines.{Line, Said, nothing, no_key, gives, said}
use Rattle.job_file.specs.Reads.{value_read}
use Rattle.job_file.specs.Values.{given}

-- the value that a line gives a key, where it is one of the key's

abbrev pub value_given : ℕ → ℕ → Result Value JobKind → Option Given
value_given key place (Ok value) = Some (record { key = key; value = value; place = place })
value_given key place (Err kind) = None

abbrev pub key_given : ℕ → List ℕ → Option ℕ → Option Given
key_given place text None = None
key_given place text (Some key) = value_given key place (value_read key text)

abbrev pub said_given : ℕ → Said → Option Given
said_given place (gives name text) = key_given place text (number_of name)
said_given place _ = None

unfoldable pub given_in : Line → Option Given
given_in line = said_given line.place (said line.text)

-- all that lines give
abbrev pub given_by_all : List Line → List Given
given_by_all lines = filter_map given_in lines

-- why a line is refused that stands behind others

abbrev pub refusal : JobKind → ℕ → ℕ → JobError
refusal kind key place = record { kind = kind; key = key; place = place }

abbrev pub value_refused : ℕ → ℕ → Result Value JobKind → Option JobError
value_refused key place (Ok value) = None
value_refused key place (Err kind) = Some (refusal kind key place)

abbrev pub key_refused : List Line → ℕ → List ℕ → Option ℕ → Option JobError
key_refused past place text None = Some (refusal UnknownKey 0 place)
key_refused past place text (Some key) =
    if is_some (given key (given_by_all past)) then Some (refusal TwiceGiven key place)
    else value_refused key place (value_read key text)

abbrev pub said_refused : List Line → ℕ → Said → Option JobError
said_refused past place nothing = None
said_refused past place no_key = Some (refusal BadValue 0 place)
said_refused past place (gives name text) = key_refused past place text (number_of name)

unfoldable pub refused_behind : List Line → Line → Option JobError
refused_behind past line = said_refused past line.place (said line.text)

-- the first line that is refused
abbrev pub first_refused : List Line → List Line → Option JobError
first_refused past [] = None
first_refused past (line ∷ lines) = option_or (refused_behind past line) (first_refused (past ++ line ∷ []) lines)

abbrev pub unless : Option JobError → List Given → Result (List Given) JobError
unless None given = Ok given
unless (Some e) given = Err e

-- all that lines give, or the first refusal
unfoldable pub lines_give : List Line → Result (List Given) JobError
lines_give lines = unless (first_refused [] lines) (given_by_all lines)

-- an answer is the one that is expected, or want of memory
abbrev pub Tells : {X : Type 0} → Result X JobError → Result X JobError → Type 0
Tells expected result = MatchResult result (λ x. expected ≡ Ok x) (λ e. (e.kind ≡ Memory) ⊎ (expected ≡ Err e))

-- the texts of words
abbrev pub texts : Vec (String Global) Global → List (List ℕ)
texts words = map string_bytes words.items
