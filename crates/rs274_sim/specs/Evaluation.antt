-- The numbers that values come to, in 10^-12.
use Rattle.std.specs.Prelude.{ℕ, ◌^◌, ℤ, pos, ◌+ℤ◌, ◌-ℤ◌, ◌*ℤ◌, int_div, unsigned_abs, Bool, if◌then◌else◌, nat_lt, List, [], ◌∷◌, Result, Ok, Err}
use Rattle.std.specs.Int.{int_rem_euclid}
use Rattle.std.specs.Ordering.{int_eq}
use Rattle.board_base.specs.Binds.{◌>>=◌}
use Rattle.rs274_sim.specs.declared.fault.SimFault.{SimFault}
use Rattle.rs274_sim.specs.declared.fault.SimFault.TheVariants.{FinePosition, OutOfRange}
use Rattle.rs274_sim.specs.declared.line.Word.{Word}
use Rattle.rs274_sim.specs.declared.line.Value.{Value, Num, Param, Expr', Row_of-Expr, more_of-Expr, end_of-Expr}
use Rattle.rs274_sim.specs.declared.line.Expr.{Expr, Sum, Difference, Product}

-- one, in 10^-12
abbrev pub one : ℕ
one = 1000000000000

-- a whole number of units
abbrev pub is_whole : ℕ → ℤ → Bool
is_whole unit z = int_eq (int_rem_euclid z (pos unit)) (pos 0)

-- what parameters have, by their numbers
abbrev pub Parameters : Type 0
Parameters = ℕ → ℤ

-- at most 10^6 in size
abbrev pub limited : ℤ → Result ℤ SimFault
limited z = if nat_lt (10 ^ 18) (unsigned_abs z) then Err OutOfRange else Ok z

-- a number of units of 10^-24, whole in 10^-12 and at most 10^6 in size
abbrev pub exact : ℤ → Result ℤ SimFault
exact z = if is_whole one z then limited (int_div z (pos one)) else Err FinePosition

-- a product of two numbers
abbrev pub product_of : ℤ → ℤ → Result ℤ SimFault
product_of a b = exact (a *ℤ b)

-- the number that a value comes to, or the fault that is met first: from the left, inner operations first
abbrev mutual
  pub value_of : Parameters → Value → Result ℤ SimFault
  value_of ps (Num n) = Ok n
  value_of ps (Param n) = Ok (ps n)
  value_of ps (Expr' shape inner) = inner_value ps inner

  -- the one expression that a value has
  pub inner_value : Parameters → {m : _} → Row_of-Expr m → Result ℤ SimFault
  inner_value ps end_of-Expr = Ok (pos 0)
  inner_value ps (more_of-Expr e rest) = expression_value ps e

  pub expression_value : Parameters → Expr → Result ℤ SimFault
  expression_value ps (Sum a b) = value_of ps a >>= (λ x. value_of ps b >>= (λ y. limited (x +ℤ y)))
  expression_value ps (Difference a b) = value_of ps a >>= (λ x. value_of ps b >>= (λ y. limited (x -ℤ y)))
  expression_value ps (Product a b) = value_of ps a >>= (λ x. value_of ps b >>= (λ y. product_of x y))

-- words with the numbers of their values, or the first fault from the left
abbrev pub valued : Parameters → List Word → Result (List Word) SimFault
valued ps [] = Ok []
valued ps (w ∷ ws) = value_of ps w.value >>= (λ v. valued ps ws >>= (λ vs. Ok (record { letter = w.letter; value = Num v } ∷ vs)))

-- the same of settings
abbrev pub set_values : Parameters → List (ℕ × Value) → Result (List (ℕ × ℤ)) SimFault
set_values ps [] = Ok []
set_values ps (s ∷ settings) = value_of ps s.1 >>= (λ v. set_values ps settings >>= (λ vs. Ok ((s.0, v) ∷ vs)))
