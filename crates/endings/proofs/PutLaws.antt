-- Lines that are put one by one.
use Rattle.std.proofs.Common.{◌≡◌, ℕ, zero, suc, ◌≤◌, List, [], ◌∷◌, ◌++◌, Option, Some, None, Result, Ok, Err, IsErrOf, OnErr, take, drop, refl, ap, ◌∙◌, arith, append_assoc}
use Rattle.std.specs.List.{between}
use Rattle.std.proofs.lemmas.Slice.{between_is}
use Rattle.board_base.specs.Sink.{appended, AppendsPrefix}
use Rattle.board_base.specs.declared.sink.SinkError.{SinkError}
use Rattle.board_base.specs.declared.sink.SinkError.TheVariants.{Failed, Memory}
use Rattle.endings.proofs.TellLaws.{appended_twice}

take_nothing : (n : ℕ) → ◌≡◌ {A = List ℕ} (take n []) []
take_nothing zero = refl
take_nothing (suc n) = refl

joined : (xs : List ℕ) (s e : ℕ) → s ≤ e → take s xs ++ drop s (take e xs) ≡ take e xs
joined xs zero e h = refl
joined xs (suc s) zero h = absurd (omega (arith, h))
joined [] (suc s) (suc e) h = refl
joined (x ∷ xs) (suc s) (suc e) h = ap (λ l. x ∷ l) (joined xs s e (omega (arith, h)))

-- the front of a front
front_twice : (xs : List ℕ) (n e : ℕ) → (m : ℕ) × (take n (take e xs) ≡ take m xs)
front_twice xs zero e = (0, refl)
front_twice xs (suc n) zero = (0, refl)
front_twice [] (suc n) (suc e) = (0, refl)
front_twice (x ∷ xs) (suc n) (suc e) = let r = front_twice xs n e in (suc r.0, ap (λ l. x ∷ l) r.1)

front_on : (xs : List ℕ) (s e n : ℕ) → s ≤ e → (m : ℕ) × (take s xs ++ take n (drop s (take e xs)) ≡ take m xs)
front_on xs zero e n h = front_twice xs n e
front_on xs (suc s) zero n h = absurd (omega (arith, h))
front_on [] (suc s) (suc e) n h = (0, take_nothing n)
front_on (x ∷ xs) (suc s) (suc e) n h = let r = front_on xs s e n (omega (arith, h)) in (suc r.0, ap (λ l. x ∷ l) r.1)

-- bytes that go on with a text
abbrev pub GoesOnWith : List ℕ → ℕ → List ℕ → Type 0
GoesOnWith xs s bytes = (n : ℕ) → (m : ℕ) × (take s xs ++ take n bytes ≡ take m xs)

pub between_on : (xs : List ℕ) (s e : ℕ) → s ≤ e → GoesOnWith xs s (between s e xs)
between_on xs s e h n = let r = front_on xs s e n h in (r.0, ap (λ l. take s xs ++ take n l) (between_is xs s e) ∙ r.1)

-- one more line was put
pub one_more : (xs : List ℕ) (s e : ℕ) (before between_text now : Option (List ℕ)) → s ≤ e → between_text ≡ appended (take s xs) before → now ≡ appended (between s e xs) between_text → now ≡ appended (take e xs) before
one_more xs s e before mid now h first second =
    second ∙ ap (appended (between s e xs)) first ∙ appended_twice (take s xs) (between s e xs) before
    ∙ ap (λ l. appended l before) (ap (λ l. take s xs ++ l) (between_is xs s e) ∙ joined xs s e h)

so_far : (xs : List ℕ) (s : ℕ) (bytes : List ℕ) (before mid now : Option (List ℕ)) → GoesOnWith xs s bytes → mid ≡ appended (take s xs) before → AppendsPrefix bytes mid now → AppendsPrefix xs before now
so_far xs s bytes before mid now on first (n, e) =
    let r = on n in
    (r.0, e ∙ ap (appended (take n bytes)) first ∙ appended_twice (take s xs) (take n bytes) before ∙ ap (λ l. appended l before) r.1)

-- a put failed behind some of the lines
pub put_failed : (r : Result (Unit {0}) SinkError) (xs : List ℕ) (s : ℕ) (bytes : List ℕ) (before mid now : Option (List ℕ)) → GoesOnWith xs s bytes → mid ≡ appended (take s xs) before
    → (IsErrOf r Failed → AppendsPrefix bytes mid now) → (IsErrOf r Memory → now ≡ mid) → OnErr r (AppendsPrefix xs before now)
put_failed (Ok u) xs s bytes before mid now on first f m = tt
put_failed (Err Failed) xs s bytes before mid now on first f m = so_far xs s bytes before mid now on first (f refl)
put_failed (Err Memory) xs s bytes before mid now on first f m = (s, m refl ∙ first)

pub passed_on : {A B E : Type 0} (P : Type 0) (r : Result A E) (e : E) (q : Result B E) → r ≡ Err e → OnErr r P → OnErr q P
passed_on P r e (Ok u) is p = tt
passed_on P (Err x) e (Err y) is p = p
passed_on P (Ok u) e (Err y) is p = absurd (grind (arith, is))
