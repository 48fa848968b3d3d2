-- What word commands say. The text is without its star.
use Rattle.std.specs.Prelude.{ℕ, ◌+◌, ◌-◌, ◌*◌, List, [], ◌∷◌, take, drop, codes, Option, Some, None, is_some, true, false, if◌then◌else◌, ◌||◌, ◌==◌, nat_lt, nat_le}
use Rattle.std.specs.Char.{is_ascii_digit}
use Rattle.std.specs.Option.{option_or}
use Rattle.std.specs.Str.{bytes_eq}
use Rattle.board_base.specs.OptionBinds.{◌>>=◌}
use Rattle.fixed_num.specs.declared.units.Unit.TheVariants as units
use Rattle.text_cut.specs.Split.{after}
use Rattle.fixed_num.specs.Numerals.{is_numeral}
use Rattle.gerber_words.specs.Numerals.{number_of, digits_of, signed_before}
use Rattle.gerber_words.specs.declared.commands.Act.{Act}
use Rattle.gerber_words.specs.declared.commands.Act.TheVariants as acts
use Rattle.gerber_words.specs.declared.commands.Interpolation.{Interpolation}
use Rattle.gerber_words.specs.declared.commands.Interpolation.TheVariants as modes
use Rattle.gerber_words.specs.declared.commands.Digits.{Digits}
use Rattle.gerber_words.specs.declared.commands.Operation.{Operation}
use Rattle.gerber_words.specs.declared.commands.Command.{Command}
use Rattle.gerber_words.specs.declared.commands.Command.TheVariants as commands

-- a code whose first digit is read, and what stands behind it: a second digit belongs to it
abbrev pub code_from : ℕ → List ℕ → ℕ × List ℕ
code_from n [] = (n, [])
code_from n (b ∷ rest) = if is_ascii_digit b then (n * 10 + (b - 48), rest) else (n, b ∷ rest)

-- a code of one or two digits, and what stands behind it
abbrev pub code_of : List ℕ → Option (ℕ × List ℕ)
code_of [] = None
code_of (b ∷ rest) = if is_ascii_digit b then Some (code_from (b - 48) rest) else None

-- the greatest number of an aperture, 2^31 - 1
abbrev pub greatest : ℕ
greatest = 2147483647

-- an aperture's number, from 10 on: none where it is past all that can be defined
abbrev pub in_reach : ℕ → Option Command
in_reach n = if nat_lt n 10 then None else if nat_le n greatest then Some (commands.Select (Some n)) else Some (commands.Select None)

-- a number of more than 18 digits is past them all
abbrev pub selected : Option ℕ → Option Command
selected None = Some (commands.Select None)
selected (Some n) = in_reach n

-- the aperture that digits select
unfoldable pub selection_of : List ℕ → Option Command
selection_of text = if is_numeral text then selected (number_of text) else None

-- D01, D02 or D03, with one digit or two
abbrev pub act_word : List ℕ → Option (Option Act)
act_word text =
    if bytes_eq text (codes "D01") || bytes_eq text (codes "D1") then Some (Some acts.Draw)
    else if bytes_eq text (codes "D02") || bytes_eq text (codes "D2") then Some (Some acts.Move)
    else if bytes_eq text (codes "D03") || bytes_eq text (codes "D3") then Some (Some acts.Flash)
    else None

-- the last word of an operation, if there is one
abbrev pub act_of : List ℕ → Option (Option Act)
act_of [] = Some None
act_of (b ∷ rest) = act_word (b ∷ rest)

-- the digits behind a letter, where it stands in front, and what stands behind them
abbrev pub field_in : List ℕ → Option (List ℕ) → Option (Option Digits × List ℕ)
field_in text None = Some (None, text)
field_in text (Some rest) = do
  digits ← digits_of (take (signed_before rest) rest)
  Some (Some digits, drop (signed_before rest) rest)

-- the field with this letter, if there is one, and what stands behind it
abbrev pub field : List ℕ → List ℕ → Option (Option Digits × List ℕ)
field letter text = field_in text (after letter text)

-- at least one word
abbrev pub with_word : Operation → Option Command
with_word o = if is_some o.x || is_some o.y || is_some o.i || is_some o.j || is_some o.act then Some (commands.Operate o) else None

-- an operation: X, Y, I, J and a D word in this order, each at most once
unfoldable pub operation_of : Option Interpolation → List ℕ → Option Command
operation_of mode text = do
  x ← field (codes "X") text
  y ← field (codes "Y") x.1
  i ← field (codes "I") y.1
  j ← field (codes "J") i.1
  act ← act_of j.1
  with_word (record { mode = mode; x = x.0; y = y.0; i = i.0; j = j.0; act = act })

-- a mode alone, or before an operation
abbrev pub with_mode : Interpolation → List ℕ → Option Command
with_mode mode [] = Some (commands.Interpolation mode)
with_mode mode (b ∷ rest) = operation_of (Some mode) (b ∷ rest)

-- the mode of a G code
abbrev pub mode_of : ℕ → Option Interpolation
mode_of code =
    if code == 1 then Some modes.Linear
    else if code == 2 then Some modes.Clockwise
    else if code == 3 then Some modes.Counterclockwise
    else None

-- a G code that stands alone
abbrev pub lone_code : ℕ → Option Command
lone_code code =
    if code == 36 then Some commands.BeginRegion
    else if code == 37 then Some commands.EndRegion
    else if code == 70 then Some (commands.Unit units.Inch false)
    else if code == 71 then Some (commands.Unit units.Mm false)
    else if code == 74 then Some (commands.MultiQuadrant false)
    else if code == 75 then Some (commands.MultiQuadrant true)
    else if code == 90 then Some commands.Ignored
    else None

-- with nothing behind it
abbrev pub alone : ℕ → List ℕ → Option Command
alone code [] = lone_code code
alone code (b ∷ rest) = None

-- a selection with its D
abbrev pub behind_d : List ℕ → Option Command
behind_d text = do
  digits ← after (codes "D") text
  selection_of digits

-- a comment, a selection behind G54, what is left out, or a code that stands alone
abbrev pub other_code : ℕ → List ℕ → Option Command
other_code code rest =
    if code == 4 then Some commands.Ignored
    else if code == 54 then behind_d rest
    else if (code == 55) || (code == 91) then Some commands.Unsupported
    else alone code rest

-- a G code and what stands behind it
abbrev pub by_mode : Option Interpolation → ℕ → List ℕ → Option Command
by_mode (Some mode) code rest = with_mode mode rest
by_mode None code rest = other_code code rest

-- what stands behind a G
unfoldable pub general_of : List ℕ → Option Command
general_of text = do
  code ← code_of text
  by_mode (mode_of code.0) code.0 code.1

-- a word command
abbrev pub word_of : List ℕ → Option Command
word_of [] = None
word_of (b ∷ rest) =
    if b == 71 then general_of rest
    else if b == 68 then option_or (operation_of None (b ∷ rest)) (selection_of rest)
    else if bytes_eq (b ∷ rest) (codes "M02") then Some commands.End
    else operation_of None (b ∷ rest)
