-- The words of `mill`.
use Rattle.std.specs.Prelude.{ℕ, ◌+◌, ◌-◌, List, drop, Option, Some, None, Result, Ok, Err, codes, Bool, not, ◌&&◌, if◌then◌else◌, is_some}
use Rattle.std.specs.List.{position}
use Rattle.std.specs.Str.{bytes_eq}
use Rattle.text_cut.specs.Split.{halves}
use Rattle.board_base.specs.Binds.{◌>>=◌}
use Rattle.endings.specs.Words.{word, exactly, is_dashed, is_file_word}

-- where the job stands: in no file where the word is a dash, or in the file of this name
abbrev pub job_place : List ℕ → Option (Option (List ℕ))
job_place word =
    if bytes_eq word (codes "-") then Some None
    else (if is_file_word word then Some (Some word) else None)

-- a line of the job: two dashes, and an equals sign somewhere
abbrev pub is_job_word : List ℕ → Bool
is_job_word word = is_dashed word && is_some (halves 61 word)

-- from the word with this number on all are lines of the job, or the number of the first that isn't
abbrev pub rest_of : ℕ → Option ℕ → Result ℕ ℕ
rest_of number None = Ok number
rest_of number (Some place) = Err (place + number)

abbrev pub job_words : ℕ → List (List ℕ) → Result ℕ ℕ
job_words number words = rest_of number (position (λ w. not (is_job_word w)) (drop (number - 1) words))

-- where the job of `mill` stands, or the number of the first word outside the grammar
unfoldable pub words_of : List (List ℕ) → Result (Option (List ℕ)) ℕ
words_of words = do
  mill ← word 1 (exactly (codes "mill")) words
  job ← word 2 job_place words
  rest ← job_words 3 words
  Ok job
