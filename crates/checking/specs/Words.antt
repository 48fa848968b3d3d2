-- The words of `check`.
use Rattle.std.specs.Prelude.{ℕ, List, Option, Some, None, Result, Ok, codes, if◌then◌else◌, slice_get, option_and_then}
use Rattle.std.specs.Str.{bytes_eq}
use Rattle.std.specs.Option.{option_copied}
use Rattle.board_base.specs.declared.places.Side.{Side}
use Rattle.board_base.specs.declared.places.Side.TheVariants.{Front, Back}
use Rattle.board_base.specs.Binds.{◌>>=◌}
use Rattle.endings.specs.Words.{word, exactly}
use Rattle.mill_inputs.specs.Words.{job_place, job_words}
use Rattle.simulation.specs.Words.{file_word, Named, named_of}
use Rattle.checking.specs.declared.words.CheckWords.{CheckWords as CheckWordsStruct}

-- where the job stands, the side that is checked, and the files of the program and of the probe's answers
pub record CheckWords : Type 0 where
  pub job : Option (List ℕ)
  pub side : Side
  pub files : Named

-- what the code holds of them
abbrev pub check_words_of : CheckWordsStruct → CheckWords
check_words_of w = record { job = option_copied w.job; side = w.side; files = named_of w.files }

-- the side that a word names
abbrev pub side_named : List ℕ → Option Side
side_named word =
    if bytes_eq word (codes "front") then Some Front
    else (if bytes_eq word (codes "back") then Some Back else None)

-- the name of the file with the answers: the fifth word, where that is a name
abbrev pub probes_named : List (List ℕ) → Option (List ℕ)
probes_named words = option_and_then file_word (slice_get words 4)

-- the number of the first word that has to be a line of the job: behind that name, where there is one
abbrev pub first_line : Option (List ℕ) → ℕ
first_line None = 5
first_line (Some name) = 6

-- what the words of `check` give, or the number of the first word outside the grammar
unfoldable pub words_of : List (List ℕ) → Result CheckWords ℕ
words_of words = do
  check ← word 1 (exactly (codes "check")) words
  job ← word 2 job_place words
  side ← word 3 side_named words
  program ← word 4 file_word words
  rest ← job_words (first_line (probes_named words)) words
  Ok (record { job = job; side = side; files = record { program = program; probes = probes_named words } })
