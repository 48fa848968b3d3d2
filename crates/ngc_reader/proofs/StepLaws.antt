-- One operation of an expression after another.
use Rattle.std.proofs.Common.{◌≡◌, refl, ℕ, zero, suc, ◌-◌, ◌<◌, List, [], ◌∷◌, Bool, true, false, cond, Option, Some, None, Result, Ok, Err, length, ap, sym, ◌∙◌, arith, ◌==◌}
use Rattle.std.proofs.lemmas.Grind.{common_steps}
use Rattle.board_base.specs.Binds.{◌>>=◌}
use Rattle.rs274_sim.specs.declared.line.Value.{Value}
use Rattle.rs274_sim.specs.Text.{Operation, joined, left_after, term_after}
use Rattle.rs274_sim.specs.Reading.{LineFault, BadExpression, Found, operation_of, if_operation, ended, steps_at}
use Rattle.ngc_reader.specs.declared.error.NgcKind.{NgcKind}
use Rattle.ngc_reader.specs.declared.error.NgcKind.TheVariants as kinds
use Rattle.ngc_reader.specs.Gives.{Fails}

-- a step that fails ends what follows
pub fails_bind : {A B : Type 0} (kind : NgcKind) (r : Result A LineFault) (f : A → Result B LineFault) → Fails kind r → Fails kind (r >>= f)
fails_bind kinds.LongLine r f e = ap (λ r. r >>= f) e
fails_bind kinds.BadNumber r f e = ap (λ r. r >>= f) e
fails_bind kinds.BadExpression r f e = ap (λ r. r >>= f) e
fails_bind kinds.TooDeep r f e = ap (λ r. r >>= f) e
fails_bind kinds.OpenComment r f e = ap (λ r. r >>= f) e
fails_bind kinds.BadParameter r f e = ap (λ r. r >>= f) e
fails_bind kinds.BadByte r f e = ap (λ r. r >>= f) e
fails_bind kinds.TooFine r f e = ap (λ r. r >>= f) e
fails_bind kinds.Memory r f e = tt

eq_true : (b k : ℕ) → b ≡ k → (b == k) ≡ true
eq_true b k e = grind (arith, common_steps)

pub eq_false : (b k : ℕ) → (b ≡ k → ⊥) → (b == k) ≡ false
eq_false b k h = by_test (b == k) refl
  where
    by_test : (p : Bool) → (b == k) ≡ p → p ≡ false
    by_test true e = absurd (h (grind (arith, common_steps, e)))
    by_test false e = refl

one_less : (n : ℕ) → n ≡ suc n - 1
one_less n = omega arith

-- nothing is left
pub at_end : (read : List ℕ → Found Value) (most : ℕ) (some : Bool) (left : Option (Value × Operation)) (term : Value) (rest : List ℕ) → length rest ≡ 0 → steps_at read most some left term rest ≡ Err BadExpression
at_end read zero some left term rest e = refl
at_end read (suc most) some left term [] e = refl
at_end read (suc most) some left term (b ∷ rest) e = absurd (omega (arith, e))

-- a closing bracket
pub at_closing : (read : List ℕ → Found Value) (most : ℕ) (some : Bool) (left : Option (Value × Operation)) (term : Value) (rest : List ℕ) (b : ℕ) (after : List ℕ) → 0 < most → rest ≡ b ∷ after → b ≡ 93
    → steps_at read most some left term rest ≡ ended some (joined left term) after
at_closing read zero some left term rest b after h e is = absurd (omega (arith, h))
at_closing read (suc most) some left term rest b after h e is =
    ap (steps_at read (suc most) some left term) e
    ∙ ap (λ p. cond p (ended some (joined left term) after) (if_operation (operation_of b) (λ op. read after >>= (λ v. steps_at read most true (left_after op left term) (term_after op term v.0) v.1)))) (eq_true b 93 is)

-- another byte
pub at_byte : (read : List ℕ → Found Value) (most : ℕ) (some : Bool) (left : Option (Value × Operation)) (term : Value) (rest : List ℕ) (b : ℕ) (after : List ℕ) → 0 < most → rest ≡ b ∷ after → (b ≡ 93 → ⊥)
    → steps_at read most some left term rest ≡ if_operation (operation_of b) (λ op. read after >>= (λ v. steps_at read (most - 1) true (left_after op left term) (term_after op term v.0) v.1))
at_byte read zero some left term rest b after h e other = absurd (omega (arith, h))
at_byte read (suc most) some left term rest b after h e other =
    ap (steps_at read (suc most) some left term) e
    ∙ ap (λ p. cond p (ended some (joined left term) after) (if_operation (operation_of b) (λ op. read after >>= (λ v. steps_at read most true (left_after op left term) (term_after op term v.0) v.1)))) (eq_false b 93 other)
    ∙ ap (λ n. if_operation (operation_of b) (λ op. read after >>= (λ v. steps_at read n true (left_after op left term) (term_after op term v.0) v.1))) (one_less most)

-- a byte that is no operation
pub at_none : (read : List ℕ → Found Value) (most : ℕ) (some : Bool) (left : Option (Value × Operation)) (term : Value) (rest : List ℕ) (b : ℕ) (after : List ℕ) → 0 < most → rest ≡ b ∷ after → (b ≡ 93 → ⊥)
    → None ≡ operation_of b → steps_at read most some left term rest ≡ Err BadExpression
at_none read most some left term rest b after h e other none =
    at_byte read most some left term rest b after h e other
    ∙ ap (λ o. if_operation o (λ op. read after >>= (λ v. steps_at read (most - 1) true (left_after op left term) (term_after op term v.0) v.1))) (sym none)

-- an operation
pub at_operation : (read : List ℕ → Found Value) (most : ℕ) (some : Bool) (left : Option (Value × Operation)) (term : Value) (rest : List ℕ) (b : ℕ) (after : List ℕ) (op : Operation) → 0 < most → rest ≡ b ∷ after
    → (b ≡ 93 → ⊥) → Some op ≡ operation_of b
    → steps_at read most some left term rest ≡ (read after >>= (λ v. steps_at read (most - 1) true (left_after op left term) (term_after op term v.0) v.1))
at_operation read most some left term rest b after op h e other is =
    at_byte read most some left term rest b after h e other
    ∙ ap (λ o. if_operation o (λ op. read after >>= (λ v. steps_at read (most - 1) true (left_after op left term) (term_after op term v.0) v.1))) (sym is)

-- an operation and its value
pub at_value : (read : List ℕ → Found Value) (most : ℕ) (some : Bool) (left next : Option (Value × Operation)) (term more : Value) (rest : List ℕ) (b : ℕ) (after behind : List ℕ) (op : Operation) (v : Value) → 0 < most
    → rest ≡ b ∷ after → (b ≡ 93 → ⊥) → Some op ≡ operation_of b → read after ≡ Ok (v, behind) → next ≡ left_after op left term → more ≡ term_after op term v
    → steps_at read (most - 1) true next more behind ≡ steps_at read most some left term rest
at_value read most some left next term more rest b after behind op v h e other is found next_is more_is =
    ap (λ l. steps_at read (most - 1) true l more behind) next_is ∙ ap (λ t. steps_at read (most - 1) true (left_after op left term) t behind) more_is
    ∙ sym (at_operation read most some left term rest b after op h e other is ∙ ap (λ (r : Found Value). r >>= (λ v. steps_at read (most - 1) true (left_after op left term) (term_after op term v.0) v.1)) found)
