-- The words of `simulate`.
use Rattle.std.specs.Prelude.{ℕ, ◌-◌, List, Option, Some, None, Result, Ok, codes, if◌then◌else◌, slice_get}
use Rattle.std.specs.Option.{option_map, option_copied}
use Rattle.simulation.specs.declared.words.Names.{Names}
use Rattle.board_base.specs.Binds.{◌>>=◌}
use Rattle.endings.specs.Words.{found, word, exactly, is_file_word, end_before}

-- the name of a file
abbrev pub file_word : List ℕ → Option (List ℕ)
file_word word = if is_file_word word then Some word else None

-- what a word stands for, where there is one
abbrev pub if_given : {A : Type 0} → ℕ → (List ℕ → Option A) → Option (List ℕ) → Result (Option A) ℕ
if_given number read None = Ok None
if_given number read (Some word) = found number (option_map Some (read word))

-- what the word with this number stands for, or nothing where the words end before it
abbrev pub word_if : {A : Type 0} → ℕ → (List ℕ → Option A) → List (List ℕ) → Result (Option A) ℕ
word_if number read words = if_given number read (slice_get words (number - 1))

-- the names of the program's file and of the file with the probe's answers, if there is one
pub record Named : Type 0 where
  pub program : List ℕ
  pub probes : Option (List ℕ)

-- what the code holds of them
abbrev pub named_of : Names → Named
named_of names = record { program = names.program.now; probes = option_copied names.probes }

-- what the words name, or the number of the first word outside the grammar
unfoldable pub words_of : List (List ℕ) → Result Named ℕ
words_of words = do
  simulate ← word 1 (exactly (codes "simulate")) words
  program ← word 2 file_word words
  probes ← word_if 3 file_word words
  end ← end_before 4 words
  Ok (record { program = program; probes = probes })
