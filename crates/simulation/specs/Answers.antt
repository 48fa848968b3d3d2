-- The answers of a probe, as the lines of a file give them.
use Rattle.std.specs.Prelude.{◌≡◌, ◌⊎◌, ◌↔◌, ℕ, ◌≤◌, ℤ, List, [], ◌∷◌, length, Bool, not, ◌&&◌, ◌==◌, if◌then◌else◌, Option, Some, None, is_none, Result, Ok, Err, Vec}
use Rattle.std.specs.declared.alloc.Global.{Global}
use Rattle.std.specs.List.{position_from, filter_map}
use Rattle.std.specs.Str.Lines.{lines}
use Rattle.text_cut.specs.Spaces.{trimmed}
use Rattle.board_base.specs.Places.{IsCoordinate, is_coordinate}
use Rattle.fixed_num.specs.Decimal.{Decimal, decimal_text, IsDecimal, value_at, EndsBy}
use Rattle.fixed_num.specs.Values.{read_at}
use Rattle.fixed_num.specs.declared.number.NumError.{NumError}
use Rattle.rs274_sim.specs.Reading.{LineFault, BadNumber}
use Rattle.ngc_reader.specs.declared.error.NgcError.{NgcError}
use Rattle.ngc_reader.specs.Gives.{FailsAt}

-- ---- how answers are spelled

-- the text is one decimal in millimetres, with at most 18 digits before the point and zeros alone past the sixth behind it,
-- and the answer is its value in nanometres, at most 500 mm in size
pub record SpellsAnswer (text : List ℕ) (answer : ℤ) : Type 0 where
  pub decimal : Decimal
  pub parts : IsDecimal decimal
  pub spelled : text ≡ decimal_text decimal
  pub short : length decimal.whole ≤ 18
  pub fine : EndsBy 6 decimal
  pub value : answer ≡ value_at 6 decimal
  pub reach : IsCoordinate answer

-- each of the lines, without the spaces at its ends, is empty or the next of the answers
abbrev pub SpellAnswers : List (List ℕ) → List ℤ → Type 0
SpellAnswers [] answers = answers ≡ []
SpellAnswers (line ∷ lines) answers =
    ((trimmed line ≡ []) × SpellAnswers lines answers)
    ⊎ ((answer : ℤ) × (rest : List ℤ) × (answers ≡ answer ∷ rest) × SpellsAnswer (trimmed line) answer × SpellAnswers lines rest)

-- ---- how they are read

-- the number, if it is at most 500 mm
abbrev pub within_reach : Result ℤ NumError → Option ℤ
within_reach (Ok v) = if is_coordinate v then Some v else None
within_reach (Err e) = None

-- the answer that a line is, in nanometres, if it is one
abbrev pub answer_of : List ℕ → Option ℤ
answer_of line = within_reach (read_at 6 (trimmed line))

-- the line is no answer, and isn't passed over as one that is empty or has spaces alone
abbrev pub is_wrong : List ℕ → Bool
is_wrong line = not (length (trimmed line) == 0) && is_none (answer_of line)

-- the answers, unless the line of this number is wrong
abbrev pub unless_wrong : Option ℕ → List ℤ → Result (List ℤ) (LineFault × ℕ)
unless_wrong None answers = Ok answers
unless_wrong (Some number) answers = Err (BadNumber, number)

-- the answers of lines that are numbered from n, or the first of them that is wrong
abbrev pub answers_from : ℕ → List (List ℕ) → Result (List ℤ) (LineFault × ℕ)
answers_from n lines = unless_wrong (position_from is_wrong n lines) (filter_map answer_of lines)

-- the answers of a file, or the first of its lines, numbered from 1, that is wrong
unfoldable pub answers_of : List ℕ → Result (List ℤ) (LineFault × ℕ)
answers_of bytes = answers_from 1 (lines bytes)

-- what a function returned is what reading gives, unless memory ran out
abbrev pub GivesAnswers : Result (Vec ℤ Global) NgcError → Result (List ℤ) (LineFault × ℕ) → Type 0
GivesAnswers (Ok answers) read = read ≡ Ok answers.items
GivesAnswers (Err e) read = FailsAt e.kind e.line read

-- bytes are read as the answers that their lines spell, and as no others
abbrev pub AnswersLaw : Type 0
AnswersLaw = (bytes : List ℕ) (answers : List ℤ) → SpellAnswers (lines bytes) answers ↔ (answers_of bytes ≡ Ok answers)
