-- The one spelling of lines that may have settings and heights over a surface.
use Rattle.std.specs.Prelude.{ℕ, ◌/◌, ◌%◌, ℤ, unsigned_abs, Bool, true, List, [], ◌∷◌, ◌++◌, if◌then◌else◌, ◌==◌, decimal, map}
use Rattle.std.specs.List.{flat_map, join_with_byte}
use Rattle.fixed_num.specs.Fixed.{digit, fixed6}
use Rattle.rs274_sim.specs.declared.line.Word.{Word}
use Rattle.rs274_sim.specs.declared.line.Line.{Line}
use Rattle.rs274_sim.specs.declared.line.Value.{Value, Num, Param, Expr', Row_of-Expr, more_of-Expr, end_of-Expr}
use Rattle.rs274_sim.specs.declared.line.Expr.{Expr, Sum, Difference, Product}
use Rattle.rs274_sim.specs.Spelling.{has_decimals, millionths}

-- ---- values

-- a value within brackets: a number has six decimals, and an operation stands between its two values
abbrev mutual
  pub inner_text : Value → List ℕ
  inner_text (Num n) = fixed6 (millionths n)
  inner_text (Param k) = 35 ∷ decimal k
  inner_text (Expr' shape inner) = held_text inner

  -- the one expression that a value has
  pub held_text : {m : _} → Row_of-Expr m → List ℕ
  held_text end_of-Expr = []
  held_text (more_of-Expr e rest) = expression_text e

  pub expression_text : Expr → List ℕ
  expression_text (Sum a b) = inner_text a ++ 43 ∷ inner_text b
  expression_text (Difference a b) = inner_text a ++ 45 ∷ inner_text b
  expression_text (Product a b) = inner_text a ++ 42 ∷ inner_text b

-- a number of tenths: whole where it can be, else with one decimal
abbrev pub tenths_text : ℕ → List ℕ
tenths_text n = if n % 10 == 0 then decimal (n / 10) else decimal (n / 10) ++ 46 ∷ digit n ∷ []

-- a number of the machine, with six decimals or as a code
abbrev pub number_text : Bool → ℤ → List ℕ
number_text some z = if some then fixed6 (millionths z) else tenths_text (unsigned_abs z / 100000000000)

-- a value, in brackets where it is an expression
abbrev pub value_text : Bool → Value → List ℕ
value_text some (Num n) = number_text some n
value_text some (Param k) = 35 ∷ decimal k
value_text some (Expr' shape inner) = 91 ∷ held_text inner ++ 93 ∷ []

-- ---- lines

-- a letter and its value
abbrev pub word_over : Word → List ℕ
word_over w = w.letter ∷ value_text (has_decimals w) w.value

-- the number of a parameter and its new value
abbrev pub setting_over : ℕ × Value → List ℕ
setting_over s = 35 ∷ decimal s.0 ++ 61 ∷ value_text true s.1

-- one space between words and settings
abbrev pub line_text_over : Line → List ℕ
line_text_over line = join_with_byte 32 (map word_over line.words ++ map setting_over line.settings)

-- a line and its end, LF
abbrev pub line_bytes : Line → List ℕ
line_bytes line = line_text_over line ++ 10 ∷ []

-- each line and its end
abbrev pub text_over : List Line → List ℕ
text_over lines = flat_map line_bytes lines
