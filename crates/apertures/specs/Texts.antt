-- The texts of apertures: a template, a comma, and values with the letter X between them.
use Rattle.std.specs.Prelude.{ℕ, ◌+◌, ◌*◌, ◌/◌, ◌%◌, ◌<◌, ◌^◌, ℤ, pos, negsuc, int_le, int_div, unsigned_abs, List, [], ◌∷◌, Bool, if◌then◌else◌, ◌&&◌, ◌==◌, nat_le, drop, Option, Some, None, Result, Ok, Err}
use Rattle.std.specs.List.{before_first, after_first, position, slice_split}
use Rattle.board_base.specs.Binds.{◌>>=◌}
use Rattle.fixed_num.specs.Angles.{in_turn}
use Rattle.fixed_num.specs.Rounding.{round_div_of}
use Rattle.fixed_num.specs.Values.{cut_at}
use Rattle.fixed_num.specs.declared.number.NumError.{NumError}
use Rattle.apertures.specs.declared.aperture.ApertureError.{ApertureError}
use Rattle.apertures.specs.declared.aperture.ApertureError.TheVariants.{Syntax, OutOfRange}
use Rattle.fixed_num.specs.declared.units.Unit.{Unit}
use Rattle.fixed_num.specs.declared.units.Unit.TheVariants.{Mm, Inch}
use Rattle.apertures.specs.declared.texts.Template.{Template}
use Rattle.apertures.specs.declared.texts.Template.TheVariants.{Circle, Obround, Rectangle, Polygon}

-- the comma
abbrev pub is_comma : ℕ → Bool
is_comma b = b == 44

-- the letter X
abbrev pub is_times : ℕ → Bool
is_times b = b == 88

-- the template of a name: `C`, `O`, `R` or `P`; any other name is a macro's
abbrev pub named : List ℕ → Option Template
named [] = None
named (b ∷ []) =
    if b == 67 then Some Circle
    else if b == 79 then Some Obround
    else if b == 82 then Some Rectangle
    else if b == 80 then Some Polygon
    else None
named (b ∷ c ∷ bytes) = None

-- the name of a text stands before the first comma
abbrev pub name_in : List ℕ → List ℕ
name_in bytes = before_first is_comma bytes

-- the template of a text
unfoldable pub template_of : List ℕ → Option Template
template_of bytes = named (name_in bytes)

-- a number that is read, or no aperture
abbrev pub a_value : Result ℤ NumError → Result ℤ ApertureError
a_value (Err e) = Err Syntax
a_value (Ok v) = Ok v

-- the value that a text writes, in 10^-9: a decimal of at most 18 digits before the point, cut
unfoldable pub value_of : List ℕ → Result ℤ ApertureError
value_of text = a_value (cut_at 9 text)

-- a number that a decimal of at most 18 digits before the point may be
abbrev pub IsValue : ℤ → Type 0
IsValue v = unsigned_abs v < 10 ^ 30

-- the same of a size
abbrev pub IsSize : ℕ → Type 0
IsSize size = size < 10 ^ 30

-- the values of these texts, where all have one
abbrev pub values_of : List (List ℕ) → Result (List ℤ) ApertureError
values_of [] = Ok []
values_of (text ∷ texts) = do
  value ← value_of text
  values ← values_of texts
  Ok (value ∷ values)

-- the values with the letter X between them
unfoldable pub values_in : List ℕ → Result (List ℤ) ApertureError
values_in bytes = values_of (slice_split is_times bytes)

-- the values of a text, which stand behind the first comma
unfoldable pub values_behind : List ℕ → Result (List ℤ) ApertureError
values_behind bytes = values_in (after_first is_comma bytes)

-- the arguments of a macro behind a comma; none where there is no comma
abbrev pub arguments_behind : List ℕ → Option ℕ → Result (List ℤ) ApertureError
arguments_behind bytes None = Ok []
arguments_behind bytes (Some i) = values_in (drop (i + 1) bytes)

-- the arguments of a macro in a text
unfoldable pub arguments_of : List ℕ → Result (List ℤ) ApertureError
arguments_of bytes = arguments_behind bytes (position is_comma bytes)

-- a size: a value that is not below 0
abbrev pub not_below : ℤ → Result ℕ ApertureError
not_below (pos n) = Ok n
not_below (negsuc n) = Err Syntax

-- these values as sizes, where none is below 0
abbrev pub sizes_of : List ℤ → Result (List ℕ) ApertureError
sizes_of [] = Ok []
sizes_of (value ∷ values) = do
  size ← not_below value
  sizes ← sizes_of values
  Ok (size ∷ sizes)

-- a number of points or vertices in 10^-9: a whole number of at least 3 and at most `most`
unfoldable pub count_of : ℕ → ℕ → Result ℕ ApertureError
count_of most size =
    if size % 1000000000 == 0 && nat_le 3 (size / 1000000000) && nat_le (size / 1000000000) most then Ok (size / 1000000000) else Err Syntax

-- an angle in 10^-9 of a degree, in millionths: cut, and in the first turn
unfoldable pub turn_of : ℤ → ℕ
turn_of value = in_turn (int_div value (pos 1000))

-- a size in 10^-9 of a unit, in whole nanometres: the nearest, half up
unfoldable pub length_of : Unit → ℕ → ℤ
length_of Mm size = round_div_of (pos size) (pos 1000)
length_of Inch size = round_div_of (pos (size * 254)) (pos 10000)

-- a length of at most a metre
abbrev pub in_metre : ℤ → Result ℤ ApertureError
in_metre length = if int_le length (pos 1000000000) then Ok length else Err OutOfRange

-- a size as a length of at most a metre
unfoldable pub width_of : Unit → ℕ → Result ℤ ApertureError
width_of unit size = in_metre (length_of unit size)
