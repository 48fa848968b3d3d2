-- What a repeat says.
use Rattle.std.specs.Prelude.{ℕ, ℤ, pos, List, [], ◌∷◌, codes, Option, Some, None, Result, Ok, Err, if◌then◌else◌, ◌&&◌, nat_le, int_le, unsigned_abs}
use Rattle.board_base.specs.OptionBinds.{◌>>=◌}
use Rattle.fixed_num.specs.Values.{cut_at}
use Rattle.text_cut.specs.Split.{after, halves}
use Rattle.gerber_words.specs.Numerals.{number_of}
use Rattle.gerber_words.specs.declared.commands.Command.{Command}
use Rattle.gerber_words.specs.declared.commands.Command.TheVariants as commands

-- a count from 1 to 1,000
abbrev pub count_in : ℕ → Option ℕ
count_in n = if nat_le 1 n && nat_le n 1000 then Some n else None

-- the count that digits write
unfoldable pub count_of : List ℕ → Option ℕ
count_of text = do
  n ← number_of text
  count_in n

-- a step that is read, not below 0
abbrev pub step_in : {E : Type 0} → Result ℤ E → Option ℕ
step_in (Ok step) = if int_le (pos 0) step then Some (unsigned_abs step) else None
step_in (Err e) = None

-- a step in 10^-9 of the unit
unfoldable pub step_of : List ℕ → Option ℕ
step_of text = step_in (cut_at 9 text)

-- the numbers of columns and rows, and the steps from column to column and from row to row
abbrev pub opened_by : List ℕ → List ℕ → List ℕ → List ℕ → Option Command
opened_by columns_text rows_text x_step_text y_step_text = do
  columns ← count_of columns_text
  rows ← count_of rows_text
  dx ← step_of x_step_text
  dy ← step_of y_step_text
  Some (commands.OpenRepeat columns rows dx dy)

-- counts and steps: X, Y, I and J in this order
unfoldable pub open_of : List ℕ → Option Command
open_of text = do
  behind_x ← after (codes "X") text
  round_y ← halves 89 behind_x
  round_i ← halves 73 round_y.1
  round_j ← halves 74 round_i.1
  opened_by round_y.0 round_i.0 round_j.0 round_j.1

-- SR alone, or with counts and steps
abbrev pub repeat_in : List ℕ → Option Command
repeat_in [] = Some commands.CloseRepeat
repeat_in (b ∷ rest) = open_of (b ∷ rest)

-- SR
unfoldable pub repeat_of : List ℕ → Option Command
repeat_of text = do
  rest ← after (codes "SR") text
  repeat_in rest
