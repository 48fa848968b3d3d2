-- What the reader's own types stand for.
use Rattle.std.specs.Prelude.{ℕ, Bool, not, if◌then◌else◌, Option, [], ◌∷◌, ◌++◌}
use Rattle.std.specs.Option.{option_map}
use Rattle.std.specs.Char.{is_ascii_digit}
use Rattle.rs274_sim.specs.declared.line.Line.{Line}
use Rattle.rs274_sim.specs.declared.line.Value.{Value}
use Rattle.rs274_sim.specs.Text.{Operation, plus, minus, times, is_round, Piece, comment, word, setting, words_of, settings_of}
use Rattle.rs274_sim.specs.Reading.{LineFault, BadNumber, BadExpression, is_decimal_byte}
use Rattle.ngc_reader.specs.declared.error.NgcKind.{NgcKind}
use Rattle.ngc_reader.specs.declared.error.NgcKind.TheVariants as kinds
use Rattle.ngc_reader.specs.declared.front.Class.{Class}
use Rattle.ngc_reader.specs.declared.front.Class.TheVariants as classes
use Rattle.ngc_reader.specs.declared.values.Sign.{Sign}
use Rattle.ngc_reader.specs.declared.values.Sign.TheVariants as signs
use Rattle.ngc_reader.specs.declared.values.Chain.{Chain}
use Rattle.ngc_reader.specs.declared.pieces.Part.{Part}
use Rattle.ngc_reader.specs.declared.pieces.Part.TheVariants as parts

-- the test of a class
abbrev pub test_of : Class → ℕ → Bool
test_of classes.Digit b = is_ascii_digit b
test_of classes.Decimal b = is_decimal_byte b
test_of classes.Comment b = not (is_round b)

abbrev pub operation_of_sign : Sign → Operation
operation_of_sign signs.Plus = plus
operation_of_sign signs.Minus = minus
operation_of_sign signs.Times = times

-- what is wrong where no value begins
abbrev pub fault_inside : Bool → LineFault
fault_inside inside = if inside then BadExpression else BadNumber

abbrev pub kind_inside : Bool → NgcKind
kind_inside inside = if inside then kinds.BadExpression else kinds.BadNumber

-- what stands to the left of a chain's term
abbrev pub left_of : Chain → Option (Value × Operation)
left_of c = option_map (λ l. (l.0, operation_of_sign l.1)) c.left

abbrev pub piece_of : Part → Piece
piece_of parts.Comment = comment
piece_of (parts.Word w) = word w
piece_of (parts.Setting n v) = setting n v

-- a line with one more piece at its end
abbrev pub with_part : Line → Piece → Line
with_part line piece = record { words = line.words ++ words_of (piece ∷ []); settings = line.settings ++ settings_of (piece ∷ []) }
