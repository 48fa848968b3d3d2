-- What the lines of the header say.
use Rattle.std.specs.Prelude.{ℕ, ℤ, pos, negsuc, ◌-◌, List, [], ◌∷◌, length, take, drop, codes, Option, Some, None, unwrap_or, Bool, true, false, if◌then◌else◌, ◌&&◌, ◌||◌, ◌==◌, nat_le}
use Rattle.std.specs.List.{list_all}
use Rattle.std.specs.Option.{option_or}
use Rattle.board_base.specs.OptionBinds.{◌>>=◌}
use Rattle.text_cut.specs.Split.{after, halves}
use Rattle.fixed_num.specs.Values.{is_zero}
use Rattle.excellon.specs.Numerals.{tool_number, is_number_byte, number_before, decimal_in}
use Rattle.excellon.specs.Words.{word_in, is_left_out}
use Rattle.fixed_num.specs.declared.units.Unit.{Unit}
use Rattle.fixed_num.specs.declared.units.Unit.TheVariants as units
use Rattle.excellon.specs.declared.line.Format.{Format}
use Rattle.excellon.specs.declared.line.Said.{Said}
use Rattle.excellon.specs.declared.line.Said.TheVariants as says

-- the lines that are one word
abbrev pub header_words : List (List ℕ × Said)
header_words =
    (codes "FMAT,2", says.Ignored)
    ∷ (codes "VER,1", says.Ignored)
    ∷ (codes "ICI,OFF", says.Ignored)
    ∷ (codes "G90", says.Ignored)
    ∷ (codes "G05", says.Ignored)
    ∷ (codes "M71", says.Unit units.Mm None None)
    ∷ (codes "M72", says.Unit units.Inch None None)
    ∷ (codes "%", says.EndHeader)
    ∷ (codes "M95", says.EndHeader)
    ∷ []

-- Digits of coordinates.

-- a digit from 1 to 6
abbrev pub is_count : ℕ → Bool
is_count b = nat_le 49 b && nat_le b 54

-- two such digits with a colon between them
abbrev pub counts_of : List ℕ → Option Said
counts_of (m ∷ c ∷ n ∷ []) = if is_count m && (c == 58) && is_count n then Some (says.Format (record { whole = m - 48; decimals = n - 48 })) else None
counts_of _ = None

-- a comment that sets the digits, as `;FILE_FORMAT=2:4`
abbrev pub format_of : List ℕ → Option Said
format_of text = do
  counts ← after (codes ";FILE_FORMAT=") text
  counts_of counts

-- one to six zeros
abbrev pub zeros_in : List ℕ → Option ℕ
zeros_in text = if list_all is_zero text && nat_le 1 (length text) && nat_le (length text) 6 then Some (length text) else None

-- zeros, a point and zeros
unfoldable pub picture_of : List ℕ → Option Format
picture_of text = do
  parts ← halves 46 text
  whole ← zeros_in parts.0
  decimals ← zeros_in parts.1
  Some (record { whole = whole; decimals = decimals })

-- Units.

-- how zeros are filled, if it is said, and what stands behind
abbrev pub fills_in : List ℕ → Option (List ℕ) → Option (List ℕ) → Option Bool × List ℕ
fills_in text (Some rest) trailing = (Some true, rest)
fills_in text None (Some rest) = (Some false, rest)
fills_in text None None = (None, text)

abbrev pub fills_of : List ℕ → Option Bool × List ℕ
fills_of text = fills_in text (after (codes ",LZ") text) (after (codes ",TZ") text)

-- a picture behind a comma, if there is one
abbrev pub behind_comma : List ℕ → Option (Option Format)
behind_comma [] = Some None
behind_comma (b ∷ rest) = do
  text ← after (codes ",") (b ∷ rest)
  format ← picture_of text
  Some (Some format)

-- a unit and what stands behind it: LZ or TZ, and a picture
abbrev pub with_unit : Unit → List ℕ → Option Said
with_unit unit text = do
  format ← behind_comma (fills_of text).1
  Some (says.Unit unit (fills_of text).0 format)

abbrev pub metric_of : List ℕ → Option Said
metric_of text = do
  rest ← after (codes "METRIC") text
  with_unit units.Mm rest

abbrev pub inch_of : List ℕ → Option Said
inch_of text = do
  rest ← after (codes "INCH") text
  with_unit units.Inch rest

-- Tools.

-- the letters of a text, each with the number behind it
abbrev pub letters_of : List ℕ → List (ℕ × List ℕ)
letters_of [] = []
letters_of (b ∷ rest) = if is_number_byte b then letters_of rest else (b, take (number_before rest) rest) ∷ letters_of rest

-- a diameter where no other one is said, not below 0
abbrev pub one_size : ℤ → Option ℕ → Option (Option ℕ)
one_size (pos n) None = Some (Some n)
one_size _ _ = None

-- a C says the diameter, an F or an S nothing; other letters may not stand here
abbrev pub with_letter : ℕ → ℤ → Option ℕ → Option (Option ℕ)
with_letter letter value size = if (letter == 70) || (letter == 83) then Some size else if letter == 67 then one_size value size else None

-- the diameter that these letters say, if one does
abbrev pub size_in : List (ℕ × List ℕ) → Option (Option ℕ)
size_in [] = Some None
size_in (word ∷ words) = do
  size ← size_in words
  value ← decimal_in word.1
  with_letter word.0 value size

-- what stands behind the T of a definition: the tool's number, and the letters C, F and S with their numbers
unfoldable pub definition_of : List ℕ → Option Said
definition_of text = do
  number ← tool_number (take (number_before text) text)
  size ← size_in (letters_of text)
  Some (says.Define number (unwrap_or size 0))

-- All of them.

-- a line that is more than one word
abbrev pub other_header : List ℕ → Option Said
other_header [] = None
other_header (b ∷ rest) =
    if b == 84 then definition_of rest
    else if is_left_out (b ∷ rest) then Some says.Unsupported
    else option_or (metric_of (b ∷ rest)) (inch_of (b ∷ rest))

-- a line of the header
unfoldable pub header_of : List ℕ → Option Said
header_of text = option_or (word_in header_words text) (other_header text)
