-- How bytes are read from the left, and what stops the reading: the fault of bytes that stand for no line.
use Rattle.std.specs.Prelude.{◌≡◌, ◌↔◌, ℕ, zero, suc, ◌+◌, ◌-◌, ◌^◌, ℤ, unsigned_abs, Bool, true, false, if◌then◌else◌, ◌&&◌, ◌||◌, not, ◌==◌, nat_lt, nat_le, List, [], ◌∷◌, ◌++◌, length, take, drop, Option, Some, None, Result, Ok, Err}
use Rattle.std.specs.Char.{is_ascii_digit, is_ascii_alphabetic}
use Rattle.std.specs.Str.Lines.{lines}
use Rattle.std.specs.Str.Parse.{digits_value}
use Rattle.board_base.specs.Binds.{◌>>=◌}
use Rattle.fixed_num.specs.Decimal.{sign_text}
use Rattle.fixed_num.specs.Spelled.{sign_of as sign_at, behind_sign}
use Rattle.fixed_num.specs.Values.{read_at}
use Rattle.fixed_num.specs.declared.number.NumError.{NumError}
use Rattle.fixed_num.specs.declared.number.NumError.TheVariants.{NotNumber, TooLong, TooFine as Fine}
use Rattle.rs274_sim.specs.declared.line.Line.{Line}
use Rattle.rs274_sim.specs.declared.line.Value.{Value, Num, Param}
use Rattle.rs274_sim.specs.Text.{Operation, plus, minus, times, joined, left_after, term_after, deepest, is_round, Piece, comment, word, setting, line_from, unblanked, is_n, StandsFor}

-- why bytes stand for no line
pub data LineFault : Type 0 where
  LongLine : LineFault
  BadNumber : LineFault
  BadExpression : LineFault
  TooDeep : LineFault
  OpenComment : LineFault
  BadParameter : LineFault
  BadByte : LineFault
  TooFine : LineFault

-- what is read, and the bytes behind it
abbrev pub Found : Type 0 → Type 0
Found A = Result (A × List ℕ) LineFault

-- the bytes at the front that pass the test
abbrev pub front : (ℕ → Bool) → List ℕ → List ℕ
front test [] = []
front test (b ∷ bytes) = if test b then b ∷ front test bytes else []

-- the bytes behind those
abbrev pub behind : (ℕ → Bool) → List ℕ → List ℕ
behind test [] = []
behind test (b ∷ bytes) = if test b then behind test bytes else b ∷ bytes

-- ---- values

-- a digit or a point
abbrev pub is_decimal_byte : ℕ → Bool
is_decimal_byte b = is_ascii_digit b || (b == 46)

-- a sign, a digit or a point
abbrev pub begins_number : ℕ → Bool
begins_number b = (b == 43) || (b == 45) || is_decimal_byte b

-- a malformed or long decimal is no number, a fine one is too fine
abbrev pub by_decimal : Result ℤ NumError → Result ℤ LineFault
by_decimal (Ok v) = if nat_lt (10 ^ 18) (unsigned_abs v) then Err BadNumber else Ok v
by_decimal (Err NotNumber) = Err BadNumber
by_decimal (Err TooLong) = Err BadNumber
by_decimal (Err (Fine decimals)) = Err TooFine

-- the number that a text is
unfoldable pub number_of : List ℕ → Result ℤ LineFault
number_of text = by_decimal (read_at 12 text)

-- a sign and all digits and points behind it
abbrev pub number_text : List ℕ → List ℕ
number_text bytes = sign_text (sign_at bytes) ++ front is_decimal_byte (behind_sign bytes)

-- a number
unfoldable pub number_at : List ℕ → Found Value
number_at bytes = do
  v ← number_of (number_text bytes)
  Ok (Num v, behind is_decimal_byte (behind_sign bytes))

-- the number of a parameter
unfoldable pub parameter_at : List ℕ → Found ℕ
parameter_at bytes =
    let n = digits_value 10 (front is_ascii_digit bytes) in
    if nat_le 1 n && nat_le n 5399 then Ok (n, behind is_ascii_digit bytes) else Err BadParameter

-- a parameter behind its #
unfoldable pub param_at : List ℕ → Found Value
param_at bytes = do
  n ← parameter_at bytes
  Ok (Param n.0, n.1)

-- a value without brackets, whose first byte is given; where none begins, that fault
abbrev pub plain_at : LineFault → ℕ → List ℕ → Found Value
plain_at none b bytes =
    if b == 35 then param_at bytes
    else if begins_number b then number_at (b ∷ bytes)
    else Err none

-- the operation of a byte
abbrev pub operation_of : ℕ → Option Operation
operation_of b = if b == 43 then Some plus else if b == 45 then Some minus else if b == 42 then Some times else None

-- what follows where there is an operation
abbrev pub if_operation : Option Operation → (Operation → Found Value) → Found Value
if_operation None next = Err BadExpression
if_operation (Some op) next = next op

-- the end of an expression, which has at least one operation
abbrev pub ended : Bool → Value → List ℕ → Found Value
ended some v bytes = if some then Ok (v, bytes) else Err BadExpression

-- The rest of an expression behind a term, with what stands to the left of it, up to its closing bracket. `some` tells
-- whether an operation stands before; no more operations than `most` are read.
abbrev pub steps_at : (List ℕ → Found Value) → ℕ → Bool → Option (Value × Operation) → Value → List ℕ → Found Value
steps_at value_at zero some left term bytes = Err BadExpression
steps_at value_at (suc most) some left term [] = Err BadExpression
steps_at value_at (suc most) some left term (b ∷ bytes) =
    if b == 93 then ended some (joined left term) bytes
    else if_operation (operation_of b) (λ op. value_at bytes >>= (λ v. steps_at value_at most true (left_after op left term) (term_after op term v.0) v.1))

-- an expression behind its opening bracket
unfoldable pub brackets_at : (List ℕ → Found Value) → List ℕ → Found Value
brackets_at value_at bytes = do
  first ← value_at bytes
  steps_at value_at (length first.1) false None first.0 first.1

-- a value with brackets at most so deep; where none begins, that fault
abbrev pub value_at : ℕ → LineFault → List ℕ → Found Value
value_at depth none [] = Err none
value_at zero none (b ∷ bytes) = if b == 91 then Err TooDeep else plain_at none b bytes
value_at (suc depth) none (b ∷ bytes) = if b == 91 then brackets_at (value_at depth BadExpression) bytes else plain_at none b bytes

-- a value behind a letter or an equals sign
unfoldable pub whole_value_at : List ℕ → Found Value
whole_value_at bytes = value_at deepest BadNumber bytes

-- ---- words, settings and comments

-- a letter but N, in either case
abbrev pub is_word_letter : ℕ → Bool
is_word_letter b = is_ascii_alphabetic b && not (is_n b)

-- the letter in upper case
abbrev pub upper : ℕ → ℕ
upper b = if nat_le 97 b then b - 32 else b

-- a word behind its letter
unfoldable pub word_at : ℕ → List ℕ → Found Piece
word_at b bytes = do
  v ← whole_value_at bytes
  Ok (word (record { letter = upper b; value = v.0 }), v.1)

-- what stands behind an equals sign
abbrev pub behind_equals : List ℕ → Result (List ℕ) LineFault
behind_equals [] = Err BadParameter
behind_equals (b ∷ bytes) = if b == 61 then Ok bytes else Err BadParameter

-- a setting behind its #
unfoldable pub setting_at : List ℕ → Found Piece
setting_at bytes = do
  n ← parameter_at bytes
  text ← behind_equals n.1
  v ← whole_value_at text
  Ok (setting n.0 v.0, v.1)

-- what stands behind the closing bracket of a comment
abbrev pub behind_closing : List ℕ → Found Piece
behind_closing [] = Err OpenComment
behind_closing (b ∷ bytes) = if b == 41 then Ok (comment, bytes) else Err OpenComment

-- a comment behind its opening bracket
abbrev pub comment_at : List ℕ → Found Piece
comment_at bytes = behind_closing (behind (λ b. not (is_round b)) bytes)

-- the next piece, whose first byte is given
unfoldable pub piece_at : ℕ → List ℕ → Found Piece
piece_at b bytes =
    if b == 40 then comment_at bytes
    else if b == 35 then setting_at bytes
    else if is_word_letter b then word_at b bytes
    else Err BadByte

-- a piece before others
abbrev pub with_piece : Piece → Result (List Piece) LineFault → Result (List Piece) LineFault
with_piece piece (Ok pieces) = Ok (piece ∷ pieces)
with_piece piece (Err e) = Err e

-- the pieces up to the end of the line or a comment that ends with it; no more than `most` are read
abbrev pub pieces_at : ℕ → List ℕ → Result (List Piece) LineFault
pieces_at most [] = Ok []
pieces_at zero (b ∷ bytes) = Err BadByte
pieces_at (suc most) (b ∷ bytes) = if b == 59 then Ok [] else piece_at b bytes >>= (λ p. with_piece p.0 (pieces_at most p.1))

-- ---- lines

-- the line of all pieces
unfoldable pub pieces_line : List ℕ → Result Line LineFault
pieces_line bytes = do
  pieces ← pieces_at (length bytes) bytes
  Ok (line_from pieces)

-- a line behind the N of its number, which has one to five digits
abbrev pub numbered_line : List ℕ → Result Line LineFault
numbered_line bytes =
    let digits = take 5 (front is_ascii_digit bytes) in
    if length digits == 0 then Err BadByte else pieces_line (drop (length digits) bytes)

-- a line without blanks
abbrev pub plain_line : List ℕ → Result Line LineFault
plain_line [] = pieces_line []
plain_line (b ∷ bytes) = if is_n b then numbered_line bytes else pieces_line (b ∷ bytes)

-- a percent sign alone
abbrev pub is_percent : List ℕ → Bool
is_percent [] = false
is_percent (b ∷ []) = b == 37
is_percent (b ∷ c ∷ bytes) = false

-- the line for which bytes stand, or what stops the reading first, from the left; too many bytes come before all else
unfoldable pub line_of : List ℕ → Result Line LineFault
line_of bytes =
    if nat_lt 256 (length bytes) then Err LongLine
    else if is_percent (unblanked bytes) then Ok (line_from [])
    else plain_line (unblanked bytes)

-- ---- programs

-- a line before others
abbrev pub with_line : Line → Result (List Line) (LineFault × ℕ) → Result (List Line) (LineFault × ℕ)
with_line line (Ok lines) = Ok (line ∷ lines)
with_line line (Err e) = Err e

-- a line's fault and its number, or the line and those behind it
abbrev pub then_lines : ℕ → Result (List Line) (LineFault × ℕ) → Result Line LineFault → Result (List Line) (LineFault × ℕ)
then_lines number rest (Err fault) = Err (fault, number)
then_lines number rest (Ok line) = with_line line rest

-- the lines of texts, of which so many stand before, or the first fault and the number of its line
abbrev pub lines_from : ℕ → List (List ℕ) → Result (List Line) (LineFault × ℕ)
lines_from before [] = Ok []
lines_from before (text ∷ texts) = then_lines (before + 1) (lines_from (before + 1) texts) (line_of text)

-- the lines for which the bytes of a file stand, or its first fault and the number of its line
unfoldable pub program_of : List ℕ → Result (List Line) (LineFault × ℕ)
program_of bytes = lines_from 0 (lines bytes)

-- bytes are read as the lines for which they stand, and as no others
abbrev pub ReadingLaw : Type 0
ReadingLaw = (bytes : List ℕ) (program : List Line) → StandsFor bytes program ↔ (program_of bytes ≡ Ok program)
