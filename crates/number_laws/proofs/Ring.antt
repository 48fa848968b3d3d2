-- a test for equations of polynomials: both sides are brought to one normal form
use Rattle.std.proofs.Common.{◌≡◌, ℕ, zero, suc, ℤ, pos, negsuc, ◌+ℤ◌, ◌-ℤ◌, ◌*ℤ◌, neg_ℤ, Bool, true, false, cond, ◌&&◌, T, eqb, leb, ltb, List, [], ◌∷◌, refl, sym, ap, ◌∙◌}
use lib.IntN.{+ℤ_assoc, +ℤ_idl, +ℤ_idr}
use lib.Dec.{eqb→eq}
use Rattle.number_laws.proofs.Laws.{mul_assoc, add_mul, mul_add, one_mul, mul_one, zero_mul, mul_zero, minus_one_mul, add_left_comm, mul_left_comm, mul_swap}

-- an expression over variables by number
pub data Ex : Type 0 where
  var : ℕ → Ex
  num : ℤ → Ex
  add : Ex → Ex → Ex
  mul : Ex → Ex → Ex
  neg : Ex → Ex

abbrev pub sub : Ex → Ex → Ex
sub a b = add a (neg b)

abbrev pub at : List ℤ → ℕ → ℤ
at [] i = pos 0
at (x ∷ xs) zero = x
at (x ∷ xs) (suc i) = at xs i

-- what an expression means
abbrev pub value : List ℤ → Ex → ℤ
value r (var i) = at r i
value r (num z) = z
value r (add a b) = value r a +ℤ value r b
value r (mul a b) = value r a *ℤ value r b
value r (neg a) = neg_ℤ (value r a)

-- a product of variables, in order, and a sum of such products with their factors
pub record Term : Type 0 where
  pub times : ℤ
  pub vars : List ℕ

abbrev term : ℤ → List ℕ → Term
term z m = record { times = z; vars = m }

abbrev pub vars_value : List ℤ → List ℕ → ℤ
vars_value r [] = pos 1
vars_value r (i ∷ is) = at r i *ℤ vars_value r is

abbrev pub terms_value : List ℤ → List Term → ℤ
terms_value r [] = pos 0
terms_value r (t ∷ ts) = t.times *ℤ vars_value r t.vars +ℤ terms_value r ts

abbrev insert_var : ℕ → List ℕ → List ℕ
insert_var i [] = i ∷ []
insert_var i (j ∷ js) = cond (leb i j) (i ∷ j ∷ js) (j ∷ insert_var i js)

abbrev join : List ℕ → List ℕ → List ℕ
join [] ms = ms
join (i ∷ is) ms = insert_var i (join is ms)

abbrev same : List ℕ → List ℕ → Bool
same [] [] = true
same [] (j ∷ js) = false
same (i ∷ is) [] = false
same (i ∷ is) (j ∷ js) = eqb i j && same is js

abbrev before : List ℕ → List ℕ → Bool
before [] ms = true
before (i ∷ is) [] = false
before (i ∷ is) (j ∷ js) = cond (ltb i j) true (eqb i j && before is js)

abbrev add_term : ℤ → List ℕ → List Term → List Term
add_term z m [] = term z m ∷ []
add_term z m (t ∷ ts) = cond (same m t.vars) (term (z +ℤ t.times) m ∷ ts) (cond (before m t.vars) (term z m ∷ t ∷ ts) (t ∷ add_term z m ts))

abbrev add_terms : List Term → List Term → List Term
add_terms [] q = q
add_terms (t ∷ ts) q = add_term t.times t.vars (add_terms ts q)

abbrev mul_term : ℤ → List ℕ → List Term → List Term
mul_term z m [] = []
mul_term z m (t ∷ ts) = add_term (z *ℤ t.times) (join m t.vars) (mul_term z m ts)

abbrev mul_terms : List Term → List Term → List Term
mul_terms [] q = []
mul_terms (t ∷ ts) q = add_terms (mul_term t.times t.vars q) (mul_terms ts q)

abbrev is_zero : ℤ → Bool
is_zero (pos zero) = true
is_zero (pos (suc n)) = false
is_zero (negsuc n) = false

abbrev clean : List Term → List Term
clean [] = []
clean (t ∷ ts) = cond (is_zero t.times) (clean ts) (t ∷ clean ts)

abbrev terms : Ex → List Term
terms (var i) = term (pos 1) (i ∷ []) ∷ []
terms (num z) = term z [] ∷ []
terms (add a b) = add_terms (terms a) (terms b)
terms (mul a b) = mul_terms (terms a) (terms b)
terms (neg a) = mul_term (negsuc 0) [] (terms a)

abbrev pub normal : Ex → List Term
normal e = clean (terms e)

-- ---- the normal form means the same

by_cond : {A : Type 0} (P : A → Type 0) (b : Bool) (x y : A) → (b ≡ true → P x) → P y → P (cond b x y)
by_cond P true x y f g = f refl
by_cond P false x y f g = g

insert_var_is : (r : List ℤ) (i : ℕ) (ms : List ℕ) → vars_value r (insert_var i ms) ≡ at r i *ℤ vars_value r ms
insert_var_is r i [] = refl
insert_var_is r i (j ∷ js) =
    by_cond (λ (l : List ℕ). vars_value r l ≡ at r i *ℤ (at r j *ℤ vars_value r js)) (leb i j) (i ∷ j ∷ js) (j ∷ insert_var i js) (λ _. refl)
    (ap (λ (x : ℤ). at r j *ℤ x) (insert_var_is r i js) ∙ mul_left_comm (at r j) (at r i) (vars_value r js))

join_is : (r : List ℤ) (is ms : List ℕ) → vars_value r (join is ms) ≡ vars_value r is *ℤ vars_value r ms
join_is r [] ms = sym (one_mul (vars_value r ms))
join_is r (i ∷ is) ms =
    insert_var_is r i (join is ms) ∙ ap (λ (x : ℤ). at r i *ℤ x) (join_is r is ms) ∙ sym (mul_assoc (at r i) (vars_value r is) (vars_value r ms))

and_left : (a b : Bool) → (a && b) ≡ true → T a
and_left true b e = tt
and_left false b e = cc

and_right : (a b : Bool) → (a && b) ≡ true → b ≡ true
and_right true b e = e
and_right false b e = cc

same_is : (r : List ℤ) (is js : List ℕ) → same is js ≡ true → vars_value r is ≡ vars_value r js
same_is r [] [] e = refl
same_is r [] (j ∷ js) e = cc
same_is r (i ∷ is) [] e = cc
same_is r (i ∷ is) (j ∷ js) e =
    let first : i ≡ j = eqb→eq i j (and_left (eqb i j) (same is js) e) in
    let rest = same_is r is js (and_right (eqb i j) (same is js) e) in
    cc (first, rest)

add_term_is : (r : List ℤ) (z : ℤ) (m : List ℕ) (ts : List Term) → terms_value r (add_term z m ts) ≡ z *ℤ vars_value r m +ℤ terms_value r ts
add_term_is r z m [] = refl
add_term_is r z m (t ∷ ts) =
    by_cond (λ (l : List Term). terms_value r l ≡ z *ℤ vars_value r m +ℤ (t.times *ℤ vars_value r t.vars +ℤ terms_value r ts))
    (same m t.vars) (term (z +ℤ t.times) m ∷ ts) (cond (before m t.vars) (term z m ∷ t ∷ ts) (t ∷ add_term z m ts))
    (λ e.
    let f = same_is r m t.vars e in
    let g = add_mul z t.times (vars_value r m) in
    let h = +ℤ_assoc (z *ℤ vars_value r m) (t.times *ℤ vars_value r m) (terms_value r ts) in
    cc (f, g, h))
    (by_cond (λ (l : List Term). terms_value r l ≡ z *ℤ vars_value r m +ℤ (t.times *ℤ vars_value r t.vars +ℤ terms_value r ts))
    (before m t.vars) (term z m ∷ t ∷ ts) (t ∷ add_term z m ts) (λ _. refl)
    (ap (λ (x : ℤ). t.times *ℤ vars_value r t.vars +ℤ x) (add_term_is r z m ts) ∙ add_left_comm (t.times *ℤ vars_value r t.vars) (z *ℤ vars_value r m) (terms_value r ts)))

add_terms_is : (r : List ℤ) (p q : List Term) → terms_value r (add_terms p q) ≡ terms_value r p +ℤ terms_value r q
add_terms_is r [] q = sym (+ℤ_idl (terms_value r q))
add_terms_is r (t ∷ ts) q =
    add_term_is r t.times t.vars (add_terms ts q) ∙ ap (λ (x : ℤ). t.times *ℤ vars_value r t.vars +ℤ x) (add_terms_is r ts q)
    ∙ sym (+ℤ_assoc (t.times *ℤ vars_value r t.vars) (terms_value r ts) (terms_value r q))

mul_term_is : (r : List ℤ) (z : ℤ) (m : List ℕ) (q : List Term) → terms_value r (mul_term z m q) ≡ (z *ℤ vars_value r m) *ℤ terms_value r q
mul_term_is r z m [] = sym (mul_zero (z *ℤ vars_value r m))
mul_term_is r z m (t ∷ ts) =
    let a = add_term_is r (z *ℤ t.times) (join m t.vars) (mul_term z m ts) in
    let b = join_is r m t.vars in
    let c = mul_term_is r z m ts in
    let d = mul_swap z t.times (vars_value r m) (vars_value r t.vars) in
    let e = mul_add (t.times *ℤ vars_value r t.vars) (terms_value r ts) (z *ℤ vars_value r m) in
    cc (a, b, c, d, e)

mul_terms_is : (r : List ℤ) (p q : List Term) → terms_value r (mul_terms p q) ≡ terms_value r p *ℤ terms_value r q
mul_terms_is r [] q = sym (zero_mul (terms_value r q))
mul_terms_is r (t ∷ ts) q =
    let a = add_terms_is r (mul_term t.times t.vars q) (mul_terms ts q) in
    let b = mul_term_is r t.times t.vars q in
    let c = mul_terms_is r ts q in
    let d = add_mul (t.times *ℤ vars_value r t.vars) (terms_value r ts) (terms_value r q) in
    cc (a, b, c, d)

is_zero_is : (z x : ℤ) → is_zero z ≡ true → z *ℤ x ≡ pos 0
is_zero_is (pos zero) x e = zero_mul x
is_zero_is (pos (suc n)) x e = cc
is_zero_is (negsuc n) x e = cc

clean_is : (r : List ℤ) (ts : List Term) → terms_value r (clean ts) ≡ terms_value r ts
clean_is r [] = refl
clean_is r (t ∷ ts) =
    by_cond (λ (l : List Term). terms_value r l ≡ t.times *ℤ vars_value r t.vars +ℤ terms_value r ts) (is_zero t.times) (clean ts) (t ∷ clean ts)
    (λ e.
    let z = is_zero_is t.times (vars_value r t.vars) e in
    let i = +ℤ_idl (terms_value r ts) in
    let c = clean_is r ts in
    cc (z, i, c))
    (ap (λ (x : ℤ). t.times *ℤ vars_value r t.vars +ℤ x) (clean_is r ts))

terms_is : (r : List ℤ) (e : Ex) → terms_value r (terms e) ≡ value r e
terms_is r (var i) = +ℤ_idr (pos 1 *ℤ (at r i *ℤ pos 1)) ∙ one_mul (at r i *ℤ pos 1) ∙ mul_one (at r i)
terms_is r (num z) = +ℤ_idr (z *ℤ pos 1) ∙ mul_one z
terms_is r (add a b) = add_terms_is r (terms a) (terms b) ∙ cc (terms_is r a, terms_is r b)
terms_is r (mul a b) = mul_terms_is r (terms a) (terms b) ∙ cc (terms_is r a, terms_is r b)
terms_is r (neg a) =
    mul_term_is r (negsuc 0) [] (terms a) ∙ cc (mul_one (negsuc 0), terms_is r a, minus_one_mul (value r a))

-- two expressions with one normal form are equal at all numbers
pub ring : (r : List ℤ) (a b : Ex) → normal a ≡ normal b → value r a ≡ value r b
ring r a b e = sym (clean_is r (terms a) ∙ terms_is r a) ∙ ap (terms_value r) e ∙ clean_is r (terms b) ∙ terms_is r b

-- an example: the product of two sums of two squares
lagrange : (a b c d : ℤ) → (a *ℤ a +ℤ b *ℤ b) *ℤ (c *ℤ c +ℤ d *ℤ d) ≡ (a *ℤ c +ℤ b *ℤ d) *ℤ (a *ℤ c +ℤ b *ℤ d) +ℤ (a *ℤ d -ℤ b *ℤ c) *ℤ (a *ℤ d -ℤ b *ℤ c)
lagrange a b c d =
    let A = var 0 in let B = var 1 in let C = var 2 in let D = var 3 in
    let p = add (mul A C) (mul B D) in
    let q = sub (mul A D) (mul B C) in
    ring (a ∷ b ∷ c ∷ d ∷ []) (mul (add (mul A A) (mul B B)) (add (mul C C) (mul D D))) (add (mul p p) (mul q q)) refl
