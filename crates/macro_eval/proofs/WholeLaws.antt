-- Every primitive has a known code, its fields, and values that aren't too great.
use Rattle.std.proofs.Common.{◌≡◌, refl, ℕ, ◌≤◌, List, [], ◌∷◌, Bool, true, false, cond, Result, Ok, Err, arith, ap, sym, ◌∙◌, subst}
use Rattle.std.specs.Prelude.{ℤ, pos, neg_ℤ, ◌+ℤ◌, ◌-ℤ◌, ◌*ℤ◌, int_div, unsigned_abs, nat_le, nat_eq, set, get_or, not, ◌&&◌, ◌||◌, ◌==◌}
use Rattle.std.specs.List.{AllByRecursion, list_all}
use Rattle.std.proofs.lemmas.Grind.{common_steps}
use Rattle.board_base.specs.Binds.{◌>>=◌}
use Rattle.macro_eval.specs.declared.fault.MacroFault.{MacroFault}
use Rattle.macro_eval.specs.declared.fault.MacroFault.TheVariants.{BadExpression, Overflow, ZeroDivisor, UnknownPrimitive}
use Rattle.macro_eval.specs.declared.machine.Primitive.{Primitive}
use Rattle.macro_eval.specs.declared.steps.Operand.TheVariants.{Number, Variable}
use Rattle.macro_eval.specs.declared.steps.Operator.{Operator}
use Rattle.macro_eval.specs.declared.steps.Operator.TheVariants.{Add, Subtract, Multiply, Divide}
use Rattle.macro_eval.specs.Trees.{Expression, operand, negated, joined, Statement, assignment, primitive}
use Rattle.macro_eval.specs.Values.{IsValue, checked, join_of, value_of, values_of}
use Rattle.macro_eval.specs.Fields.{is_code, is_known, are_fields, paints}
use Rattle.macro_eval.specs.Evaluated.{known, with_fields, results, is_value, started, evaluated}
use Rattle.macro_eval.specs.Primitives.{IsWhole, WholeLaw}
use Rattle.macro_eval.proofs.ZipSound.{bind_ok}

is_small : (n : ℕ) → nat_le n 1000000000000000000 ≡ true → n ≤ 1000000000000000000
is_small n e = grind (arith, common_steps)

checked_small : (v w : ℤ) → checked v ≡ Ok w → IsValue w
checked_small v w e = by_test (nat_le (unsigned_abs v) 1000000000000000000) refl e
  where
    by_test : (t : Bool) → nat_le (unsigned_abs v) 1000000000000000000 ≡ t → cond t (Ok v) (Err Overflow) ≡ Ok w → IsValue w
    by_test true f e = let same : v ≡ w = cc in subst IsValue same (is_small (unsigned_abs v) f)
    by_test false f e = absurd cc

join_small : (op : Operator) (a b v : ℤ) → join_of op a b ≡ Ok v → IsValue v
unfolding join_of
join_small Add a b v e = checked_small (a +ℤ b) v e
join_small Subtract a b v e = checked_small (a -ℤ b) v e
join_small Multiply a b v e = checked_small (int_div (a *ℤ b) (pos 1000000000)) v e
join_small Divide a b v e = by_test (nat_eq (unsigned_abs b) 0) e
  where
    by_test : (t : Bool) → cond t (Err ZeroDivisor) (checked (int_div (a *ℤ pos 1000000000) b)) ≡ Ok v → IsValue v
    by_test true e = absurd cc
    by_test false e = checked_small (int_div (a *ℤ pos 1000000000) b) v e

value_small : (variables : List ℤ) (e : Expression) (v : ℤ) → value_of variables e ≡ Ok v → IsValue v
value_small variables (operand (Number n)) v h = checked_small n v h
value_small variables (operand (Variable n)) v h = checked_small (get_or variables n (pos 0)) v h
value_small variables (negated e) v h =
    let x = bind_ok (value_of variables e) (λ x. checked (neg_ℤ x)) v h in checked_small (neg_ℤ x.0) v x.2
value_small variables (joined op a b) v h =
    let x = bind_ok (value_of variables a) (λ x. value_of variables b >>= λ y. join_of op x y) v h in
    let y = bind_ok (value_of variables b) (λ y. join_of op x.0 y) v x.2 in
    join_small op x.0 y.0 v y.2

values_small : (variables : List ℤ) (es : List Expression) (vs : List ℤ) → values_of variables es ≡ Ok vs → AllByRecursion IsValue vs
values_small variables [] vs h = subst (AllByRecursion IsValue) (same [] vs (Ok []) refl h) tt
  where
    same : (a b : List ℤ) (r : Result (List ℤ) MacroFault) → r ≡ Ok a → r ≡ Ok b → a ≡ b
    same a b r g h = cc
values_small variables (e ∷ es) vs h =
    let v = bind_ok (value_of variables e) (λ v. values_of variables es >>= λ ws. Ok (v ∷ ws)) vs h in
    let ws = bind_ok (values_of variables es) (λ ws. Ok (v.0 ∷ ws)) vs v.2 in
    let all : AllByRecursion IsValue (v.0 ∷ ws.0) = (value_small variables e v.0 v.1, values_small variables es ws.0 ws.1) in
    subst (AllByRecursion IsValue) (same (v.0 ∷ ws.0) vs (Ok (v.0 ∷ ws.0)) refl ws.2) all
  where
    same : (a b : List ℤ) (r : Result (List ℤ) MacroFault) → r ≡ Ok a → r ≡ Ok b → a ≡ b
    same a b r g h = cc

both : (a b : Bool) → (a && b) ≡ true → a ≡ true
both true b e = refl
both false b e = e

known_code : (code : ℕ) (painted : Bool) (c : ℕ) → known code painted ≡ Ok c → (c ≡ code) × (is_code code ≡ true)
known_code code painted c e = by_test (is_known code painted) refl e
  where
    by_test : (t : Bool) → is_known code painted ≡ t → cond t (Ok code) (Err (UnknownPrimitive code)) ≡ Ok c → (c ≡ code) × (is_code code ≡ true)
    by_test true f e = let same : code ≡ c = cc in (sym same, both (is_code code) (not ((code == 7) && painted)) f)
    by_test false f e = absurd cc

whole : (code : ℕ) (values : List ℤ) (p : Primitive) → is_code code ≡ true → AllByRecursion IsValue values → with_fields code values ≡ Ok p → IsWhole p
whole code values p known small e = by_test (are_fields code values) refl e
  where
    by_test : (t : Bool) → are_fields code values ≡ t → cond t (Ok (record { code = code; values = values })) (Err BadExpression) ≡ Ok p → IsWhole p
    by_test true f e = let same : record { code = code; values = values } ≡ p = cc in subst IsWhole same (record { code = known; fields = f; values = small })
    by_test false f e = absurd cc

all_whole : (ss : List Statement) (variables : List ℤ) (painted : Bool) (ps : List Primitive) → results variables painted ss ≡ Ok ps → AllByRecursion IsWhole ps
all_whole [] variables painted ps e = subst (AllByRecursion IsWhole) (same [] ps (Ok []) refl e) tt
  where
    same : (a b : List Primitive) (r : Result (List Primitive) MacroFault) → r ≡ Ok a → r ≡ Ok b → a ≡ b
    same a b r g h = cc
all_whole (assignment n e ∷ ss) variables painted ps h =
    let v = bind_ok (value_of variables e) (λ v. results (set variables n v) painted ss) ps h in all_whole ss (set variables n v.0) painted ps v.2
all_whole (primitive code es ∷ ss) variables painted ps h =
    let c = bind_ok (known code painted) (λ c. values_of variables es >>= λ vs. with_fields c vs >>= λ first. results variables (painted || paints code vs) ss >>= λ others. Ok (first ∷ others)) ps h in
    let vs = bind_ok (values_of variables es) (λ vs. with_fields c.0 vs >>= λ first. results variables (painted || paints code vs) ss >>= λ others. Ok (first ∷ others)) ps c.2 in
    let first = bind_ok (with_fields c.0 vs.0) (λ first. results variables (painted || paints code vs.0) ss >>= λ others. Ok (first ∷ others)) ps vs.2 in
    let others = bind_ok (results variables (painted || paints code vs.0) ss) (λ others. Ok (first.0 ∷ others)) ps first.2 in
    let is = known_code code painted c.0 c.1 in
    let one : IsWhole first.0 = whole c.0 vs.0 first.0 (ap is_code is.0 ∙ is.1) (values_small variables es vs.0 vs.1) first.1 in
    subst (AllByRecursion IsWhole) (same (first.0 ∷ others.0) ps (Ok (first.0 ∷ others.0)) refl others.2) (one, all_whole ss variables (painted || paints code vs.0) others.0 others.1)
  where
    same : (a b : List Primitive) (r : Result (List Primitive) MacroFault) → r ≡ Ok a → r ≡ Ok b → a ≡ b
    same a b r g h = cc

pub whole_law : WholeLaw
unfolding evaluated
whole_law ss arguments ps e = by_test (list_all is_value arguments) e
  where
    by_test : (t : Bool) → cond t (results (started arguments) false ss) (Err Overflow) ≡ Ok ps → AllByRecursion IsWhole ps
    by_test true e = all_whole ss (started arguments) false ps e
    by_test false e = absurd cc
