-- Reading the body of a macro statement by statement.
use Rattle.std.specs.Prelude.{ℕ, List, [], ◌∷◌, ◌++◌, Bool, not, if◌then◌else◌, ◌==◌, filter, Option, Some, None, Result, Ok, Err}
use Rattle.std.specs.List.{before_first, after_first, slice_split}
use Rattle.board_base.specs.Binds.{◌>>=◌}
use Rattle.macro_eval.specs.declared.fault.MacroFault.{MacroFault}
use Rattle.macro_eval.specs.declared.fault.MacroFault.TheVariants.{BadExpression}
use Rattle.macro_eval.specs.declared.steps.Step.{Step}
use Rattle.macro_eval.specs.declared.steps.Step.TheVariants.{Assign, Begin, Paint}
use Rattle.macro_eval.specs.Words.{number_in, variable_in}
use Rattle.macro_eval.specs.Reading.{read_behind}

-- whether a byte is this one
abbrev pub is_byte : ℕ → ℕ → Bool
is_byte c b = b == c

-- any other byte than the space
abbrev pub is_no_space : ℕ → Bool
is_no_space b = not (b == 32)

-- a number that has to stand
abbrev pub a_number : Option ℕ → Result ℕ MacroFault
a_number None = Err BadExpression
a_number (Some n) = Ok n

-- the steps of an assignment, from what stands behind its dollar sign
unfoldable pub assignment_behind : ℕ → List Step → List ℕ → Result (List Step) MacroFault
assignment_behind limit steps bytes = do
  n ← a_number (variable_in (before_first (is_byte 61) bytes))
  all ← read_behind limit steps (after_first (is_byte 61) bytes)
  Ok (all ++ Assign n ∷ [])

-- the steps of these fields
abbrev pub fields_behind : ℕ → List Step → List (List ℕ) → Result (List Step) MacroFault
fields_behind limit steps [] = Ok steps
fields_behind limit steps (text ∷ texts) = do
  all ← read_behind limit steps text
  fields_behind limit all texts

-- the steps of a primitive: its code stands before the first comma, and its fields have commas between them
unfoldable pub primitive_behind : ℕ → List Step → List ℕ → Result (List Step) MacroFault
primitive_behind limit steps bytes = do
  code ← a_number (number_in 4294967295 (before_first (is_byte 44) bytes))
  all ← fields_behind limit (steps ++ Begin code ∷ []) (slice_split (is_byte 44) (after_first (is_byte 44) bytes))
  Ok (all ++ Paint ∷ [])

-- the steps of a statement without spaces; a comment begins with 0 and has none
unfoldable pub statement_behind : ℕ → List Step → List ℕ → Result (List Step) MacroFault
statement_behind limit steps [] = Err BadExpression
statement_behind limit steps (b ∷ bytes) =
    if b == 48 then Ok steps
    else if b == 36 then assignment_behind limit steps bytes
    else primitive_behind limit steps (b ∷ bytes)

-- the steps of these statements
abbrev pub statements_behind : ℕ → List Step → List (List ℕ) → Result (List Step) MacroFault
statements_behind limit steps [] = Ok steps
statements_behind limit steps (text ∷ texts) = do
  all ← statement_behind limit steps (filter is_no_space text)
  statements_behind limit all texts

-- the steps of a body, whose statements have stars between them
unfoldable pub body_steps : List ℕ → Result (List Step) MacroFault
body_steps bytes = statements_behind 32 [] (slice_split (is_byte 42) bytes)
