-- laws of `stands`
use Rattle.std.proofs.Common.{◌≡◌, ℕ, ◌+◌, ◌<◌, Bool, true, false, not, ◌&&◌, ◌||◌, List, [], ◌∷◌, ◌++◌, length, take, get_or, refl, sym, ap, ◌∙◌}
use Rattle.std.proofs.lemmas.List.{take_more}
use Rattle.std.specs.List.{list_any}
use Rattle.shape_parts.specs.Stands.{stands}

-- whatever passes the first test passes the second
pub record IsWithin {X : Type 0} (s t : X → Bool) : Type 0 where
  pub more : (x : X) → s x ≡ true → t x ≡ true

pub both_true : (a b : Bool) → a ≡ true → b ≡ true → (a && b) ≡ true
both_true true b e f = f
both_true false b e f = e

pub first_true : (a b : Bool) → (a && b) ≡ true → a ≡ true
first_true true b e = refl
first_true false b e = e

pub second_true : (a b : Bool) → (a && b) ≡ true → b ≡ true
second_true true b e = e
second_true false b e = cc

pub left_true : (a b : Bool) → a ≡ true → (a || b) ≡ true
left_true true b e = refl
left_true false b e = cc

pub right_true : (a b : Bool) → b ≡ true → (a || b) ≡ true
right_true true b e = refl
right_true false b e = e

-- an `or` that holds, by cases
pub either : {P : Type 0} (a b : Bool) → (a || b) ≡ true → (a ≡ true → P) → (b ≡ true → P) → P
either true b e f g = f refl
either false b e f g = g e

-- what is not true of the larger test is not true of the smaller
pub turned : (a b : Bool) → (a ≡ true → b ≡ true) → not b ≡ true → not a ≡ true
turned true b f e = sym (ap not (f refl)) ∙ e
turned false b f e = refl

any_more : {X : Type 0} (s t : X → Bool) → IsWithin s t → (xs : List X) → list_any s xs ≡ true → list_any t xs ≡ true
any_more s t w [] e = e
any_more s t w (x ∷ xs) e = either (s x) (list_any s xs) e (λ h. left_true (t x) (list_any t xs) (w.more x h)) (λ h. right_true (t x) (list_any t xs) (any_more s t w xs h))

-- more that adds and less that takes away
pub stands_more : {X : Type 0} (adds takes adds' takes' : X → Bool) → IsWithin adds adds' → IsWithin takes' takes → (xs : List X) → stands adds takes xs ≡ true → stands adds' takes' xs ≡ true
stands_more adds takes adds' takes' a t [] e = e
stands_more adds takes adds' takes' a t (x ∷ xs) e =
    either (adds x && not (list_any takes xs)) (stands adds takes xs) e
    (λ h. left_true (adds' x && not (list_any takes' xs)) (stands adds' takes' xs)
    (both_true (adds' x) (not (list_any takes' xs)) (a.more x (first_true (adds x) (not (list_any takes xs)) h))
    (turned (list_any takes' xs) (list_any takes xs) (any_more takes' takes t xs) (second_true (adds x) (not (list_any takes xs)) h))))
    (λ h. right_true (adds' x && not (list_any takes' xs)) (stands adds' takes' xs) (stands_more adds takes adds' takes' a t xs h))

-- ---- one more member, as at a step of a loop

any-append_one : {X : Type 0} (s : X → Bool) (xs : List X) (x : X) → list_any s (xs ++ x ∷ []) ≡ (list_any s xs || s x)
any-append_one s [] x = end (s x)
  where
    end : (b : Bool) → (b || false) ≡ b
    end true = refl
    end false = refl
any-append_one s (y ∷ ys) x = ap (λ (b : Bool). s y || b) (any-append_one s ys x) ∙ sym (assoc (s y) (list_any s ys) (s x))
  where
    assoc : (a b c : Bool) → ((a || b) || c) ≡ (a || (b || c))
    assoc true b c = refl
    assoc false b c = refl

stands-append_one : {X : Type 0} (adds takes : X → Bool) (xs : List X) (x : X) → stands adds takes (xs ++ x ∷ []) ≡ (adds x || (stands adds takes xs && not (takes x)))
stands-append_one adds takes [] x = end (adds x)
  where
    end : (a : Bool) → ((a && true) || false) ≡ (a || false)
    end true = refl
    end false = refl
stands-append_one adds takes (y ∷ ys) x =
    ap (λ (b : Bool). (adds y && not b) || stands adds takes (ys ++ x ∷ [])) (any-append_one takes ys x)
    ∙ ap (λ (b : Bool). (adds y && not (list_any takes ys || takes x)) || b) (stands-append_one adds takes ys x)
    ∙ join (adds y) (list_any takes ys) (takes x) (adds x) (stands adds takes ys)
  where
    join : (a n t b s : Bool) → ((a && not (n || t)) || (b || (s && not t))) ≡ (b || (((a && not n) || s) && not t))
    join true true t b s = refl
    join true false true true s = refl
    join true false true false true = refl
    join true false true false false = refl
    join true false false true s = refl
    join true false false false true = refl
    join true false false false false = refl
    join false n t b s = refl

pub stands_next : {X : Type 0} (adds takes : X → Bool) (xs : List X) (i : ℕ) (d : X) → i < length xs → stands adds takes (take (i + 1) xs) ≡ (adds (get_or xs i d) || (stands adds takes (take i xs) && not (takes (get_or xs i d))))
stands_next adds takes xs i d l = ap (stands adds takes) (take_more xs i d l) ∙ stands-append_one adds takes (take i xs) (get_or xs i d)

pub stands_step : {X : Type 0} (adds takes : X → Bool) (xs : List X) (i : ℕ) (x : X) (held held' : Bool) → i < length xs → x ≡ get_or xs i x → held ≡ stands adds takes (take i xs) → held' ≡ (adds x || (held && not (takes x))) → held' ≡ stands adds takes (take (i + 1) xs)
stands_step adds takes xs i x held held' l e before after =
    after
    ∙ ap (λ (s : Bool). adds x || (s && not (takes x))) before
    ∙ ap (λ y. adds y || (stands adds takes (take i xs) && not (takes y))) e
    ∙ sym (stands_next adds takes xs i x l)

-- a step of a loop that reads the member by its number
pub stands_at : {X : Type 0} (adds takes : X → Bool) (xs : List X) (i : ℕ) (d : X) (held held' : Bool) → i < length xs → held ≡ stands adds takes (take i xs)
    → held' ≡ (adds (get_or xs i d) || (held && not (takes (get_or xs i d)))) → held' ≡ stands adds takes (take (i + 1) xs)
stands_at adds takes xs i d held held' l before after =
    after ∙ ap (λ (s : Bool). adds (get_or xs i d) || (s && not (takes (get_or xs i d)))) before ∙ sym (stands_next adds takes xs i d l)

pub and_true : (a b r : Bool) → a ≡ true → r ≡ b → r ≡ (a && b)
and_true true b r e f = f
and_true false b r e f = cc
