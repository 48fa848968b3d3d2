-- What readers find, taken apart; and the bytes at the front of others.
use Rattle.std.proofs.Common.{◌≡◌, refl, ℕ, ◌≤◌, List, [], ◌∷◌, ◌++◌, Bool, true, false, cond, Result, Ok, Err, ap, ◌∙◌, arith}
use Rattle.std.specs.List.{AllByRecursion}
use Rattle.std.specs.Char.{is_ascii_digit}
use Rattle.std.specs.Str.Parse.{AllDigits}
use Rattle.std.proofs.lemmas.Grind.{common_steps}
use Rattle.std.proofs.lemmas.Str.{digit_value_digit}
use Rattle.std.proofs.lemmas.Str.Parse.{digit_from_value}
use Rattle.board_base.specs.Binds.{◌>>=◌}
use Rattle.rs274_sim.specs.Reading.{front, behind}

-- ---- results

abbrev or_else : {A E : Type 0} → A → Result A E → A
or_else x (Ok y) = y
or_else x (Err e) = x

pub same_ok : {A E : Type 0} (x y : A) → ◌≡◌ {A = Result A E} (Ok x) (Ok y) → x ≡ y
same_ok x y e = ap (or_else x) e

pub not_ok : {A E : Type 0} (e : E) (y : A) → ◌≡◌ {A = Result A E} (Err e) (Ok y) → ⊥
not_ok e y h = cc

-- a step that goes on
pub bind_ok : {A B E : Type 0} (r : Result A E) (f : A → Result B E) (y : B) → (r >>= f) ≡ Ok y → (x : A) × (r ≡ Ok x) × (f x ≡ Ok y)
bind_ok (Ok x) f y e = (x, refl, e)
bind_ok (Err d) f y e = absurd (not_ok d y e)

-- a test that fails, and one that passes
pub guard_ok : {A E : Type 0} (b : Bool) (d : E) (r : Result A E) (y : A) → cond b (Err d) r ≡ Ok y → (b ≡ false) × (r ≡ Ok y)
guard_ok true d r y e = absurd (not_ok d y e)
guard_ok false d r y e = (refl, e)

pub passed_ok : {A E : Type 0} (b : Bool) (d : E) (r : Result A E) (y : A) → cond b r (Err d) ≡ Ok y → (b ≡ true) × (r ≡ Ok y)
passed_ok true d r y e = (refl, e)
passed_ok false d r y e = absurd (not_ok d y e)

-- ---- fronts

-- nothing, or a first byte that has Q
abbrev pub Begins : (ℕ → Type 0) → List ℕ → Type 0
Begins Q [] = Unit {0}
Begins Q (b ∷ bs) = Q b

-- all bytes pass
abbrev pub Pass : (ℕ → Bool) → List ℕ → Type 0
Pass t bytes = AllByRecursion (λ b. t b ≡ true) bytes

pub front_behind : (t : ℕ → Bool) (bytes : List ℕ) → front t bytes ++ behind t bytes ≡ bytes
front_behind t [] = refl
front_behind t (b ∷ bytes) = by_test (t b) (front_behind t bytes)
  where
    by_test : (p : Bool) → front t bytes ++ behind t bytes ≡ bytes → cond p (b ∷ front t bytes) [] ++ cond p (behind t bytes) (b ∷ bytes) ≡ b ∷ bytes
    by_test true e = ap (λ x. b ∷ x) e
    by_test false e = refl

pub front_passes : (t : ℕ → Bool) (bytes : List ℕ) → Pass t (front t bytes)
front_passes t [] = tt
front_passes t (b ∷ bytes) = by_test (t b) refl (front_passes t bytes)
  where
    by_test : (p : Bool) → t b ≡ p → Pass t (front t bytes) → Pass t (cond p (b ∷ front t bytes) [])
    by_test true e h = (e, h)
    by_test false e h = tt

pub front_is : (t : ℕ → Bool) (xs rest : List ℕ) → Pass t xs → Begins (λ b. t b ≡ false) rest → front t (xs ++ rest) ≡ xs
front_is t [] [] h e = refl
front_is t [] (b ∷ rest) h e = ap (λ p. cond p (b ∷ front t rest) []) e
front_is t (x ∷ xs) rest h e = ap (λ p. cond p (x ∷ front t (xs ++ rest)) []) h.0 ∙ ap (λ y. x ∷ y) (front_is t xs rest h.1 e)

pub behind_is : (t : ℕ → Bool) (xs rest : List ℕ) → Pass t xs → Begins (λ b. t b ≡ false) rest → behind t (xs ++ rest) ≡ rest
behind_is t [] [] h e = refl
behind_is t [] (b ∷ rest) h e = ap (λ p. cond p (behind t rest) (b ∷ rest)) e
behind_is t (x ∷ xs) rest h e = ap (λ p. cond p (behind t (xs ++ rest)) (x ∷ (xs ++ rest))) h.0 ∙ behind_is t xs rest h.1 e

-- ---- digits

is_digit : (d : ℕ) → 48 ≤ d → d ≤ 57 → is_ascii_digit d ≡ true
is_digit d low high = grind (arith, common_steps)

from_digit : (d : ℕ) → is_ascii_digit d ≡ true → (48 ≤ d) × (d ≤ 57)
from_digit d e = grind (arith, common_steps, e)

pub digits_pass : (ds : List ℕ) → AllDigits 10 ds → Pass is_ascii_digit ds
digits_pass [] h = tt
digits_pass (d ∷ ds) h = let range = digit_from_value d h.0 in (is_digit d range.0 (omega (arith, range.1)), digits_pass ds h.1)

pub pass_digits : (ds : List ℕ) → Pass is_ascii_digit ds → AllDigits 10 ds
pass_digits [] h = tt
pass_digits (d ∷ ds) h = let range = from_digit d h.0 in (omega (arith, digit_value_digit d (range.0, range.1), range.1), pass_digits ds h.1)
