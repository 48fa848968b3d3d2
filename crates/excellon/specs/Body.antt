-- What the lines of the body say, and any line.
use Rattle.std.specs.Prelude.{ℕ, List, [], ◌∷◌, take, drop, codes, Option, Some, None, is_some, unwrap_or, true, false, if◌then◌else◌, ◌||◌, ◌==◌}
use Rattle.std.specs.Option.{option_or}
use Rattle.board_base.specs.OptionBinds.{◌>>=◌}
use Rattle.text_cut.specs.Split.{after}
use Rattle.excellon.specs.Numerals.{tool_number, number_before, coordinate_in}
use Rattle.excellon.specs.Words.{word_in, is_blank, is_left_out, start_words}
use Rattle.excellon.specs.Header.{format_of, header_of}
use Rattle.fixed_num.specs.declared.units.Unit.TheVariants as units
use Rattle.excellon.specs.declared.line.Part.{Part}
use Rattle.excellon.specs.declared.line.Part.TheVariants as parts
use Rattle.excellon.specs.declared.line.Coordinate.{Coordinate}
use Rattle.excellon.specs.declared.line.Pair.{Pair}
use Rattle.excellon.specs.declared.line.Word.TheVariants as words
use Rattle.excellon.specs.declared.line.Said.{Said}
use Rattle.excellon.specs.declared.line.Said.TheVariants as says

-- the lines that are one word
abbrev pub body_words : List (List ℕ × Said)
body_words =
    (codes "M30", says.End)
    ∷ (codes "G90", says.Ignored)
    ∷ (codes "M71", says.Unit units.Mm None None)
    ∷ (codes "M72", says.Unit units.Inch None None)
    ∷ (codes "M15", says.Lower true)
    ∷ (codes "M16", says.Lower false)
    ∷ (codes "G05", says.EndRouting)
    ∷ []

-- Coordinates.

-- the number behind a letter, where it stands in front, and what stands behind it
abbrev pub field_in : List ℕ → Option (List ℕ) → Option (Option Coordinate × List ℕ)
field_in text None = Some (None, text)
field_in text (Some rest) = do
  number ← coordinate_in (take (number_before rest) rest)
  Some (Some number, drop (number_before rest) rest)

-- the coordinate with this letter, if there is one, and what stands behind it
abbrev pub field : List ℕ → List ℕ → Option (Option Coordinate × List ℕ)
field letter text = field_in text (after letter text)

-- at least one coordinate
abbrev pub some_of : Pair → List ℕ → Option (Pair × List ℕ)
some_of pair rest = if is_some pair.x || is_some pair.y then Some (pair, rest) else None

-- X, Y or both in this order, and what stands behind them
unfoldable pub pair_of : List ℕ → Option (Pair × List ℕ)
pair_of text = do
  x ← field (codes "X") text
  y ← field (codes "Y") x.1
  some_of (record { x = x.0; y = y.0 }) y.1

-- with nothing behind it
abbrev pub alone : Pair → List ℕ → Option Pair
alone pair [] = Some pair
alone pair (b ∷ rest) = None

-- X, Y or both, and nothing else
unfoldable pub whole_pair : List ℕ → Option Pair
whole_pair text = do
  pair ← pair_of text
  alone pair.0 pair.1

-- a move
abbrev pub move_of : List ℕ → Option Said
move_of text = do
  rest ← after (codes "G00") text
  to ← whole_pair rest
  Some (says.Go (record { word = words.Move; from = None; to = to }))

-- a move that cuts where the tool is lowered
abbrev pub cut_of : List ℕ → Option Said
cut_of text = do
  rest ← after (codes "G01") text
  to ← whole_pair rest
  Some (says.Go (record { word = words.Cut; from = None; to = to }))

-- the end of a slot, if there is one
abbrev pub behind_pair : Pair → List ℕ → Option Said
behind_pair from [] = Some (says.Go (record { word = words.Plain; from = None; to = from }))
behind_pair from (b ∷ rest) = do
  text ← after (codes "G85") (b ∷ rest)
  to ← whole_pair text
  Some (says.Go (record { word = words.Plain; from = Some from; to = to }))

-- coordinates alone, or a slot
abbrev pub coordinates_of : List ℕ → Option Said
coordinates_of text = do
  pair ← pair_of text
  behind_pair pair.0 pair.1

-- Tools.

-- what stands behind the T of a selection: the tool's number
abbrev pub selection_of : List ℕ → Option Said
selection_of text = do
  number ← tool_number text
  Some (says.Select number)

-- All of them.

-- a line that is more than one word
abbrev pub other_body : List ℕ → Option Said
other_body [] = None
other_body (b ∷ rest) =
    if b == 84 then selection_of rest
    else if is_left_out (b ∷ rest) then Some says.Unsupported
    else option_or (move_of (b ∷ rest)) (option_or (cut_of (b ∷ rest)) (coordinates_of (b ∷ rest)))

-- a line of the body
unfoldable pub body_of : List ℕ → Option Said
body_of text = option_or (word_in body_words text) (other_body text)

-- a comment, which says something in the header alone
abbrev pub comment_of : Part → List ℕ → Said
comment_of parts.Header text = unwrap_or (format_of text) says.Ignored
comment_of _ text = says.Ignored

-- a line by the part in which it stands
abbrev pub line_of : Part → List ℕ → Option Said
line_of parts.Start text = word_in start_words text
line_of parts.Header text = header_of text
line_of parts.Body text = body_of text

-- a line that isn't blank: one that begins with a semicolon is a comment
abbrev pub filled_of : Part → List ℕ → Option Said
filled_of part [] = Some says.Ignored
filled_of part (b ∷ rest) = if b == 59 then Some (comment_of part (b ∷ rest)) else line_of part (b ∷ rest)

-- what a line says in a part of the file
unfoldable pub said_of : Part → List ℕ → Option Said
said_of part text = if is_blank text then Some says.Ignored else filled_of part text
