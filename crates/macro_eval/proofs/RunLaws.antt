-- Running the steps of statements gives their primitives.
use Rattle.std.proofs.Common.{◌≡◌, refl, ℕ, List, [], ◌∷◌, ◌++◌, Bool, true, false, cond, Result, Ok, Err, ap, sym, ◌∙◌, append_assoc}
use Rattle.std.specs.Prelude.{ℤ, pos, neg_ℤ, reverse, flat_map, set, get_or, ◌||◌}
use Rattle.std.proofs.lemmas.List.{append-nil, reverse-append, reverse-reverse}
use Rattle.board_base.specs.Binds.{◌>>=◌}
use Rattle.macro_eval.specs.declared.fault.MacroFault.{MacroFault}
use Rattle.macro_eval.specs.declared.fault.MacroFault.TheVariants.{BadExpression, UnknownPrimitive}
use Rattle.macro_eval.specs.declared.machine.Primitive.{Primitive}
use Rattle.macro_eval.specs.declared.steps.Operand.TheVariants.{Number, Variable}
use Rattle.macro_eval.specs.declared.steps.Step.{Step}
use Rattle.macro_eval.specs.declared.steps.Step.TheVariants.{Negate, Join, Assign, Paint}
use Rattle.macro_eval.specs.Trees.{Expression, operand, negated, joined, Statement, assignment, primitive, steps_in, steps_of}
use Rattle.macro_eval.specs.Values.{checked, join_of, value_of, values_of}
use Rattle.macro_eval.specs.Fields.{is_known, are_fields, paints}
use Rattle.macro_eval.specs.Evaluated.{with_fields, results}
use Rattle.macro_eval.specs.Running.{Run, with_value, waiting, beginning, painting, run_of, at_begin, primitives_in}

abbrev pub on_stack : Run → List ℤ → Run
on_stack r stack = record r { stack = stack }

-- steps that may refuse group as they like
pub bind_assoc : {A B C : Type 0} (r : Result A MacroFault) (f : A → Result B MacroFault) (g : B → Result C MacroFault) → ((r >>= f) >>= g) ≡ (r >>= λ x. f x >>= g)
bind_assoc (Ok x) f g = refl
bind_assoc (Err e) f g = refl

pub bind_same : {A B : Type 0} (r : Result A MacroFault) (f g : A → Result B MacroFault) → ((x : A) → f x ≡ g x) → (r >>= f) ≡ (r >>= g)
bind_same (Ok x) f g h = h x
bind_same (Err e) f g h = refl

-- a value that is put on the others
put_on : {B : Type 0} (r : Run) (stack : List ℤ) (c : Result ℤ MacroFault) (f : Run → Result B MacroFault) → (waiting r (with_value stack c) >>= f) ≡ (c >>= λ v. f (on_stack r (v ∷ stack)))
put_on r stack (Ok v) f = refl
put_on r stack (Err e) f = refl

pub expression_run : (e : Expression) (r : Run) (rest : List Step) → run_of r (steps_in e ++ rest) ≡ (value_of r.variables e >>= λ v. run_of (on_stack r (v ∷ r.stack)) rest)
expression_run (operand (Number v)) r rest = put_on r r.stack (checked v) (λ n. run_of n rest)
expression_run (operand (Variable n)) r rest = put_on r r.stack (checked (get_or r.variables n (pos 0))) (λ n. run_of n rest)
expression_run (negated e) r rest =
    ap (run_of r) (append_assoc (steps_in e) (Negate ∷ []) rest) ∙ expression_run e r (Negate ∷ rest)
    ∙ bind_same (value_of r.variables e) (λ v. run_of (on_stack r (v ∷ r.stack)) (Negate ∷ rest)) (λ v. checked (neg_ℤ v) >>= λ w. run_of (on_stack r (w ∷ r.stack)) rest)
    (λ v. put_on (on_stack r (v ∷ r.stack)) r.stack (checked (neg_ℤ v)) (λ n. run_of n rest))
    ∙ sym (bind_assoc (value_of r.variables e) (λ v. checked (neg_ℤ v)) (λ w. run_of (on_stack r (w ∷ r.stack)) rest))
expression_run (joined op a b) r rest =
    ap (run_of r) (append_assoc (steps_in a ++ steps_in b) (Join op ∷ []) rest ∙ append_assoc (steps_in a) (steps_in b) (Join op ∷ rest))
    ∙ expression_run a r (steps_in b ++ Join op ∷ rest)
    ∙ bind_same (value_of r.variables a) (λ x. run_of (on_stack r (x ∷ r.stack)) (steps_in b ++ Join op ∷ rest)) (λ x. value_of r.variables b >>= λ y. run_of (on_stack r (y ∷ x ∷ r.stack)) (Join op ∷ rest))
    (λ x. expression_run b (on_stack r (x ∷ r.stack)) (Join op ∷ rest))
    ∙ bind_same (value_of r.variables a) (λ x. value_of r.variables b >>= λ y. run_of (on_stack r (y ∷ x ∷ r.stack)) (Join op ∷ rest)) (λ x. (value_of r.variables b >>= λ y. join_of op x y) >>= λ v. run_of (on_stack r (v ∷ r.stack)) rest)
    (λ x. bind_same (value_of r.variables b) (λ y. run_of (on_stack r (y ∷ x ∷ r.stack)) (Join op ∷ rest)) (λ y. join_of op x y >>= λ v. run_of (on_stack r (v ∷ r.stack)) rest)
    (λ y. put_on (on_stack r (y ∷ x ∷ r.stack)) r.stack (join_of op x y) (λ n. run_of n rest))
    ∙ sym (bind_assoc (value_of r.variables b) (λ y. join_of op x y) (λ v. run_of (on_stack r (v ∷ r.stack)) rest)))
    ∙ sym (bind_assoc (value_of r.variables a) (λ x. value_of r.variables b >>= λ y. join_of op x y) (λ v. run_of (on_stack r (v ∷ r.stack)) rest))

fields_run : (es : List Expression) (r : Run) (rest : List Step) → run_of r (flat_map steps_in es ++ rest) ≡ (values_of r.variables es >>= λ vs. run_of (on_stack r (reverse vs ++ r.stack)) rest)
fields_run [] r rest = refl
fields_run (e ∷ es) r rest =
    ap (run_of r) (append_assoc (steps_in e) (flat_map steps_in es) rest)
    ∙ expression_run e r (flat_map steps_in es ++ rest)
    ∙ bind_same (value_of r.variables e) (λ v. run_of (on_stack r (v ∷ r.stack)) (flat_map steps_in es ++ rest)) (λ v. (values_of r.variables es >>= λ vs. Ok (v ∷ vs)) >>= λ vs. run_of (on_stack r (reverse vs ++ r.stack)) rest)
    (λ v. fields_run es (on_stack r (v ∷ r.stack)) rest
    ∙ bind_same (values_of r.variables es) (λ vs. run_of (on_stack r (reverse vs ++ v ∷ r.stack)) rest) (λ vs. run_of (on_stack r (reverse (v ∷ vs) ++ r.stack)) rest) (λ vs. ap (λ stack. run_of (on_stack r stack) rest) (turned v vs r.stack))
    ∙ sym (bind_assoc (values_of r.variables es) (λ vs. Ok (v ∷ vs)) (λ vs. run_of (on_stack r (reverse vs ++ r.stack)) rest)))
    ∙ sym (bind_assoc (value_of r.variables e) (λ v. values_of r.variables es >>= λ vs. Ok (v ∷ vs)) (λ vs. run_of (on_stack r (reverse vs ++ r.stack)) rest))
  where
    turned : (v : ℤ) (vs stack : List ℤ) → reverse vs ++ v ∷ stack ≡ reverse (v ∷ vs) ++ stack
    turned v vs stack = sym (append_assoc (reverse vs) (v ∷ []) stack) ∙ ap (λ l. l ++ stack) (sym (reverse-append (v ∷ []) vs))

-- a run between two statements
abbrev pub between : List ℤ → ℕ → Bool → List Primitive → Run
between variables code painted ps = record { variables = variables; stack = []; code = code; painted = painted; primitives = ps }

-- primitives before others
abbrev pub before : List Primitive → Result (List Primitive) MacroFault → Result (List Primitive) MacroFault
before ps (Ok qs) = Ok (ps ++ qs)
before ps (Err e) = Err e

-- running the steps of statements
pub statements_run : (ss : List Statement) (variables : List ℤ) (code : ℕ) (painted : Bool) (ps : List Primitive)
    → primitives_in (run_of (between variables code painted ps) (steps_of ss)) ≡ before ps (results variables painted ss)
statements_run [] variables code painted ps = ap Ok (sym (append-nil ps))
statements_run (assignment n e ∷ ss) variables code painted ps =
    let r = between variables code painted ps in
    ap (λ steps. primitives_in (run_of r steps)) (append_assoc (steps_in e) (Assign n ∷ []) (steps_of ss))
    ∙ ap primitives_in (expression_run e r (Assign n ∷ steps_of ss))
    ∙ by_value (value_of variables e) (λ v. statements_run ss (set variables n v) code painted ps)
  where
    by_value : (c : Result ℤ MacroFault)
        → ((v : ℤ) → primitives_in (run_of (between (set variables n v) code painted ps) (steps_of ss)) ≡ before ps (results (set variables n v) painted ss))
        → primitives_in (c >>= λ v. run_of (between (set variables n v) code painted ps) (steps_of ss)) ≡ before ps (c >>= λ v. results (set variables n v) painted ss)
    by_value (Ok v) h = h v
    by_value (Err f) h = refl
statements_run (primitive other es ∷ ss) variables code painted ps =
    by_code (is_known other painted)
    (λ vs p. statements_run ss variables other (painted || paints other vs) (ps ++ p ∷ []))
  where
    by_fields : (vs : List ℤ) (t : Bool)
        → ((p : Primitive) → primitives_in (run_of (between variables other (painted || paints other vs) (ps ++ p ∷ [])) (steps_of ss)) ≡ before (ps ++ p ∷ []) (results variables (painted || paints other vs) ss))
        → primitives_in (painting (record { variables = variables; stack = reverse vs; code = other; painted = painted; primitives = ps }) (cond t (Ok (record { code = other; values = vs })) (Err BadExpression)) >>= λ n. run_of n (steps_of ss))
        ≡ before ps (cond t (Ok (record { code = other; values = vs })) (Err BadExpression) >>= λ first. results variables (painted || paints other vs) ss >>= λ others. Ok (first ∷ others))
    by_fields vs true h = h (record { code = other; values = vs }) ∙ moved (results variables (painted || paints other vs) ss)
      where
        moved : (c : Result (List Primitive) MacroFault) → before (ps ++ record { code = other; values = vs } ∷ []) c ≡ before ps (c >>= λ others. Ok (record { code = other; values = vs } ∷ others))
        moved (Ok qs) = ap Ok (append_assoc ps (record { code = other; values = vs } ∷ []) qs)
        moved (Err f) = refl
    by_fields vs false h = refl

    by_values : (c : Result (List ℤ) MacroFault)
        → ((vs : List ℤ) (p : Primitive) → primitives_in (run_of (between variables other (painted || paints other vs) (ps ++ p ∷ [])) (steps_of ss)) ≡ before (ps ++ p ∷ []) (results variables (painted || paints other vs) ss))
        → primitives_in (c >>= λ vs. run_of (record { variables = variables; stack = reverse vs ++ []; code = other; painted = painted; primitives = ps }) (Paint ∷ steps_of ss))
        ≡ before ps (c >>= λ vs. with_fields other vs >>= λ first. results variables (painted || paints other vs) ss >>= λ others. Ok (first ∷ others))
    by_values (Ok vs) h =
        ap (λ stack. primitives_in (run_of (record { variables = variables; stack = stack; code = other; painted = painted; primitives = ps }) (Paint ∷ steps_of ss))) (append-nil (reverse vs))
        ∙ ap (λ fields. primitives_in (painting (record { variables = variables; stack = reverse vs; code = other; painted = painted; primitives = ps }) (with_fields other fields) >>= λ n. run_of n (steps_of ss))) (reverse-reverse vs)
        ∙ by_fields vs (are_fields other vs) (h vs)
    by_values (Err f) h = refl

    by_code : (t : Bool)
        → ((vs : List ℤ) (p : Primitive) → primitives_in (run_of (between variables other (painted || paints other vs) (ps ++ p ∷ [])) (steps_of ss)) ≡ before (ps ++ p ∷ []) (results variables (painted || paints other vs) ss))
        → primitives_in (beginning (between variables code painted ps) (cond t (Ok other) (Err (UnknownPrimitive other))) >>= λ n. run_of n ((flat_map steps_in es ++ Paint ∷ []) ++ steps_of ss))
        ≡ before ps (cond t (Ok other) (Err (UnknownPrimitive other)) >>= λ c. values_of variables es >>= λ vs. with_fields c vs >>= λ first. results variables (painted || paints other vs) ss >>= λ others. Ok (first ∷ others))
    by_code true h =
        ap (λ steps. primitives_in (run_of (between variables other painted ps) steps)) (append_assoc (flat_map steps_in es) (Paint ∷ []) (steps_of ss))
        ∙ ap primitives_in (fields_run es (between variables other painted ps) (Paint ∷ steps_of ss))
        ∙ by_values (values_of variables es) h
    by_code false h = refl

-- the whole of it
pub all_run : (ss : List Statement) (variables : List ℤ) → primitives_in (run_of (at_begin variables) (steps_of ss)) ≡ results variables false ss
all_run ss variables = statements_run ss variables 0 false [] ∙ alone (results variables false ss)
  where
    alone : (c : Result (List Primitive) MacroFault) → before [] c ≡ c
    alone (Ok ps) = refl
    alone (Err f) = refl
