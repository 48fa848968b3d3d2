-- Steps that give something or refuse, where what they give is a relation.
use Rattle.std.specs.Prelude.{◌≡◌, ◌⊎◌, Result, Ok, Err}

-- a step that computes its answer
abbrev pub Is : {A E : Type 0} → Result A E → Result A E → Type 0
Is expected answer = answer ≡ expected

-- a step, and the next one over what it gave; the first refusal is the answer
abbrev pub Then : {A B E : Type 0} → (Result A E → Type 0) → (A → Result B E → Type 0) → Result B E → Type 0
Then {A = A} First Next (Ok b) = (a : A) × First (Ok a) × Next a (Ok b)
Then {A = A} First Next (Err e) = First (Err e) ⊎ ((a : A) × First (Ok a) × Next a (Err e))
