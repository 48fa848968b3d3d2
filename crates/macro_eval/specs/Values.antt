-- The values of expressions, in 10^-9.
use Rattle.std.specs.Prelude.{◌≤◌, ℤ, pos, neg_ℤ, ◌+ℤ◌, ◌-ℤ◌, ◌*ℤ◌, int_div, unsigned_abs, List, [], ◌∷◌, get_or, if◌then◌else◌, nat_le, nat_eq, Result, Ok, Err}
use Rattle.board_base.specs.Binds.{◌>>=◌}
use Rattle.macro_eval.specs.declared.fault.MacroFault.{MacroFault}
use Rattle.macro_eval.specs.declared.fault.MacroFault.TheVariants.{Overflow, ZeroDivisor}
use Rattle.macro_eval.specs.declared.steps.Operator.{Operator}
use Rattle.macro_eval.specs.declared.steps.Operator.TheVariants.{Add, Subtract, Multiply, Divide}
use Rattle.macro_eval.specs.declared.steps.Operand.{Operand}
use Rattle.macro_eval.specs.declared.steps.Operand.TheVariants.{Number, Variable}
use Rattle.macro_eval.specs.Trees.{Expression, operand, negated, joined}

-- a value of at most 10^18 in size
abbrev pub IsValue : ℤ → Type 0
IsValue v = unsigned_abs v ≤ 1000000000000000000

-- such a value, or an overflow
abbrev pub checked : ℤ → Result ℤ MacroFault
checked v = if nat_le (unsigned_abs v) 1000000000000000000 then Ok v else Err Overflow

-- two values that are joined; products and quotients are cut towards zero
unfoldable pub join_of : Operator → ℤ → ℤ → Result ℤ MacroFault
join_of Add a b = checked (a +ℤ b)
join_of Subtract a b = checked (a -ℤ b)
join_of Multiply a b = checked (int_div (a *ℤ b) (pos 1000000000))
join_of Divide a b = if nat_eq (unsigned_abs b) 0 then Err ZeroDivisor else checked (int_div (a *ℤ pos 1000000000) b)

-- the value of an operand; a variable that was given none is 0
abbrev pub operand_value : List ℤ → Operand → Result ℤ MacroFault
operand_value variables (Number v) = checked v
operand_value variables (Variable n) = checked (get_or variables n (pos 0))

-- the value of an expression, or its first fault from the left
abbrev pub value_of : List ℤ → Expression → Result ℤ MacroFault
value_of variables (operand o) = operand_value variables o
value_of variables (negated e) = do
  v ← value_of variables e
  checked (neg_ℤ v)
value_of variables (joined op a b) = do
  x ← value_of variables a
  y ← value_of variables b
  join_of op x y

-- the values of expressions, or their first fault from the left
abbrev pub values_of : List ℤ → List Expression → Result (List ℤ) MacroFault
values_of variables [] = Ok []
values_of variables (e ∷ es) = do
  v ← value_of variables e
  vs ← values_of variables es
  Ok (v ∷ vs)
