-- Bytes at the front, one after another.
use Rattle.std.proofs.Common.{◌≡◌, ℕ, zero, suc, ◌<◌, List, [], ◌∷◌, ◌++◌, Bool, true, false, cond, length, take, drop, get_or, ap, sym, subst, arith}
use Rattle.rs274_sim.specs.Reading.{front, behind}

-- one more byte at the front
pub one_more : (t : ℕ → Bool) (bytes : List ℕ) (n b : ℕ) → n < length bytes → b ≡ get_or bytes n b → t b ≡ true
    → (take (suc n) bytes ++ front t (drop (suc n) bytes) ≡ take n bytes ++ front t (drop n bytes)) × (behind t (drop (suc n) bytes) ≡ behind t (drop n bytes))
one_more t [] n b h here e = absurd (omega (arith, h))
one_more t (c ∷ bytes) zero b h here e =
    let passes : t c ≡ true = subst (λ x. t x ≡ true) here e in
    (sym (ap (λ p. cond p (c ∷ front t bytes) []) passes), sym (ap (λ p. cond p (behind t bytes) (c ∷ bytes)) passes))
one_more t (c ∷ bytes) (suc n) b h here e =
    let rest = one_more t bytes n b (omega (arith, h)) here e in
    (ap (λ x. c ∷ x) rest.0, rest.1)

-- the byte behind the front
pub no_more : (t : ℕ → Bool) (bytes : List ℕ) (n b : ℕ) → n < length bytes → b ≡ get_or bytes n b → t b ≡ false
    → (front t (drop n bytes) ≡ []) × (behind t (drop n bytes) ≡ drop n bytes)
no_more t [] n b h here e = absurd (omega (arith, h))
no_more t (c ∷ bytes) zero b h here e =
    let fails : t c ≡ false = subst (λ x. t x ≡ false) here e in
    (ap (λ p. cond p (c ∷ front t bytes) []) fails, ap (λ p. cond p (behind t bytes) (c ∷ bytes)) fails)
no_more t (c ∷ bytes) (suc n) b h here e = no_more t bytes n b (omega (arith, h)) here e
