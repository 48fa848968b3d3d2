-- Words of commands.
use Rattle.std.specs.Prelude.{◌≡◌, ◌⊎◌, ℕ, ◌-◌, List, length, nat_lt, Option, Some, None, is_some, option_and_then, Result, Ok, Err, codes, Bool, not, ◌&&◌, if◌then◌else◌, slice_get}
use Rattle.std.specs.Str.{bytes_eq}
use Rattle.text_cut.specs.Split.{after}
use Rattle.job_file.specs.Numbers.{is_name, is_printable}
use Rattle.endings.specs.declared.status.Status.{Status}
use Rattle.endings.specs.declared.status.Status.TheVariants.{Usage, Memory}

-- what was found, or the number of the word where nothing was
abbrev pub found : {A : Type 0} → ℕ → Option A → Result A ℕ
found number None = Err number
found number (Some x) = Ok x

-- what the word with this number, from 1, stands for, or the number where it is missing or stands for nothing
abbrev pub word : {A : Type 0} → ℕ → (List ℕ → Option A) → List (List ℕ) → Result A ℕ
word number read words = found number (option_and_then read (slice_get words (number - 1)))

-- the very text
abbrev pub exactly : List ℕ → List ℕ → Option (List ℕ)
exactly text word = if bytes_eq word text then Some word else None

-- the word begins with two dashes
abbrev pub is_dashed : List ℕ → Bool
is_dashed word = is_some (after (codes "--") word)

-- a name of a file that isn't taken for a line of the job
abbrev pub is_file_word : List ℕ → Bool
is_file_word word = is_name 200 is_printable word && not (is_dashed word)

-- the words end before this number
abbrev pub end_before : ℕ → List (List ℕ) → Result (Unit {0}) ℕ
end_before number words = if nat_lt (length words) number then Ok tt else Err number

-- Usage comes exactly where these words are outside their grammar, unless memory was wanting.
pub record IsExactUsage {A : Type 0} (read : Result A ℕ) (status : Status) : Type 0 where
  pub only : (word : ℕ) → status ≡ Usage word → read ≡ Err word
  pub comes : (word : ℕ) → read ≡ Err word → (status ≡ Usage word) ⊎ (status ≡ Memory)
