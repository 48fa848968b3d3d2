-- Running the steps of a macro.
use Rattle.std.specs.Prelude.{ℕ, ◌≤◌, length, ℤ, pos, neg_ℤ, List, [], ◌∷◌, ◌++◌, get_or, set, reverse, Bool, false, ◌||◌, Result, Ok, Err}
use Rattle.std.specs.List.{AllByRecursion}
use Rattle.board_base.specs.Binds.{◌>>=◌}
use Rattle.macro_eval.specs.declared.fault.MacroFault.{MacroFault}
use Rattle.macro_eval.specs.declared.machine.Primitive.{Primitive}
use Rattle.macro_eval.specs.declared.steps.Step.{Step}
use Rattle.macro_eval.specs.declared.steps.Operand.TheVariants.{Number, Variable}
use Rattle.macro_eval.specs.declared.steps.Step.TheVariants.{Load, Negate, Join, Assign, Begin, Paint}
use Rattle.macro_eval.specs.Values.{IsValue, checked, join_of}
use Rattle.macro_eval.specs.Fields.{paints}
use Rattle.macro_eval.specs.Evaluated.{known, with_fields}

-- what is there between two steps: the variables, the values that wait with the last one first, the code of the
-- primitive that is begun, whether something is painted, and the primitives so far
pub record Run : Type 0 where
  pub variables : List ℤ
  pub stack : List ℤ
  pub code : ℕ
  pub painted : Bool
  pub primitives : List Primitive

-- the last value that waits
abbrev pub top : List ℤ → ℤ
top [] = pos 0
top (v ∷ stack) = v

-- the others
abbrev pub under : List ℤ → List ℤ
under [] = []
under (v ∷ stack) = stack

-- one more value, where it is none too great
abbrev pub with_value : List ℤ → Result ℤ MacroFault → Result (List ℤ) MacroFault
with_value stack (Err e) = Err e
with_value stack (Ok v) = Ok (v ∷ stack)

-- the same in a run
abbrev pub waiting : Run → Result (List ℤ) MacroFault → Result Run MacroFault
waiting r (Err e) = Err e
waiting r (Ok stack) = Ok (record r { stack = stack })

-- a primitive begins
abbrev pub beginning : Run → Result ℕ MacroFault → Result Run MacroFault
beginning r (Err e) = Err e
beginning r (Ok code) = Ok (record r { stack = []; code = code })

-- a primitive is painted
abbrev pub painting : Run → Result Primitive MacroFault → Result Run MacroFault
painting r (Err e) = Err e
painting r (Ok p) = Ok (record r { stack = []; painted = r.painted || paints p.code p.values; primitives = r.primitives ++ p ∷ [] })

-- one step
abbrev pub stepped : Run → Step → Result Run MacroFault
stepped r (Load (Number v)) = waiting r (with_value r.stack (checked v))
stepped r (Load (Variable n)) = waiting r (with_value r.stack (checked (get_or r.variables n (pos 0))))
stepped r Negate = waiting r (with_value (under r.stack) (checked (neg_ℤ (top r.stack))))
stepped r (Join op) = waiting r (with_value (under (under r.stack)) (join_of op (top (under r.stack)) (top r.stack)))
stepped r (Assign n) = Ok (record r { variables = set r.variables n (top r.stack); stack = [] })
stepped r (Begin code) = beginning r (known code r.painted)
stepped r Paint = painting r (with_fields r.code (reverse r.stack))

-- all steps
abbrev pub run_of : Run → List Step → Result Run MacroFault
run_of r [] = Ok r
run_of r (step ∷ steps) = do
  next ← stepped r step
  run_of next steps

-- all values that wait are small, and each variable has a place
pub record IsSound (r : Run) : Type 0 where
  pub stack : AllByRecursion IsValue r.stack
  pub variables : 256 ≤ length r.variables

-- the start of a run with these variables
abbrev pub at_begin : List ℤ → Run
at_begin variables = record { variables = variables; stack = []; code = 0; painted = false; primitives = [] }

-- the primitives of a run
abbrev pub primitives_in : Result Run MacroFault → Result (List Primitive) MacroFault
primitives_in (Err e) = Err e
primitives_in (Ok r) = Ok r.primitives
