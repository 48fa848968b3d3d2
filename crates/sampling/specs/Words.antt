-- The words of `sample`.
use Rattle.std.specs.Prelude.{ℕ, List, Option, Result, Ok, codes, decimal}
use Rattle.std.specs.List.{find, range_with_len}
use Rattle.std.specs.Str.{bytes_eq}
use Rattle.board_base.specs.Binds.{◌>>=◌}
use Rattle.endings.specs.Words.{word, exactly, end_before}

-- the most pads of a board
abbrev pub most_pads : ℕ
most_pads = 400

-- the number of pads, from 1 to the most, whose decimal the word is
unfoldable pub pads_of : List ℕ → Option ℕ
pads_of word = find (λ n. bytes_eq word (decimal n)) (range_with_len 1 most_pads)

-- the number of pads, or the number of the first word outside the grammar
unfoldable pub words_of : List (List ℕ) → Result ℕ ℕ
words_of words = do
  sample ← word 1 (exactly (codes "sample")) words
  pads ← word 2 pads_of words
  end ← end_before 3 words
  Ok pads
