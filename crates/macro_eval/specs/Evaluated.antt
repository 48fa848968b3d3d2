-- The primitives that a macro gives for its arguments.
use Rattle.std.specs.Prelude.{ℕ, ◌-◌, ℤ, pos, List, [], ◌∷◌, ◌++◌, length, set, replicate, Bool, false, if◌then◌else◌, ◌||◌, nat_le, unsigned_abs, Result, Ok, Err}
use Rattle.std.specs.List.{list_all}
use Rattle.board_base.specs.Binds.{◌>>=◌}
use Rattle.macro_eval.specs.declared.fault.MacroFault.{MacroFault}
use Rattle.macro_eval.specs.declared.fault.MacroFault.TheVariants.{BadExpression, Overflow, UnknownPrimitive}
use Rattle.macro_eval.specs.declared.machine.Primitive.{Primitive}
use Rattle.macro_eval.specs.Trees.{Statement, assignment, primitive}
use Rattle.macro_eval.specs.Values.{value_of, values_of}
use Rattle.macro_eval.specs.Fields.{is_known, are_fields, paints}

-- a code that may come, or an unknown primitive
abbrev pub known : ℕ → Bool → Result ℕ MacroFault
known code painted = if is_known code painted then Ok code else Err (UnknownPrimitive code)

-- a primitive with these fields
abbrev pub with_fields : ℕ → List ℤ → Result Primitive MacroFault
with_fields code values = if are_fields code values then Ok (record { code = code; values = values }) else Err BadExpression

-- The primitives of these statements, by what the variables are before them and whether something is painted
-- before them, or their first fault. In a primitive its code comes first, then its values, then its fields.
abbrev pub results : List ℤ → Bool → List Statement → Result (List Primitive) MacroFault
results variables painted [] = Ok []
results variables painted (assignment n e ∷ statements) = do
  v ← value_of variables e
  results (set variables n v) painted statements
results variables painted (primitive code fields ∷ statements) = do
  at_code ← known code painted
  values ← values_of variables fields
  first ← with_fields at_code values
  others ← results variables (painted || paints code values) statements
  Ok (first ∷ others)

-- whether an argument may be a value
abbrev pub is_value : ℤ → Bool
is_value v = nat_le (unsigned_abs v) 1000000000000000000

-- the variables at the start, each at the place of its number: the arguments, and 0 where none is given
abbrev pub started : List ℤ → List ℤ
started arguments = pos 0 ∷ arguments ++ replicate (255 - length arguments) (pos 0)

-- the primitives of a macro for these arguments, or the first fault
unfoldable pub evaluated : List Statement → List ℤ → Result (List Primitive) MacroFault
evaluated statements arguments = if list_all is_value arguments then results (started arguments) false statements else Err Overflow
