-- What lists have, and how often.
use Rattle.std.proofs.Common.{◌≡◌, ℕ, zero, suc, ◌+◌, ◌<◌, ◌≤◌, Bool, true, false, ◌↔◌, inl, inr, List, [], ◌∷◌, ◌++◌, length, map, get_or, refl, sym, ap, subst, ◌∙◌, arith}
use Rattle.std.specs.Prelude.{if◌then◌else◌}
use Rattle.std.specs.Bool.{Decides}
use Rattle.std.specs.Cmp.{IsTotalOrder}
use Rattle.std.specs.List.{All, Contains, IsDistinct, flat_map, range_with_len}
use Rattle.std.specs.List.Sorted.{IsPermutation}
use Rattle.std.specs.Ordering.{eq_by_cmp, is_eq}
use Rattle.std.specs.declared.cmp.Ordering.{Ordering}
use Rattle.std.specs.declared.cmp.Ordering.TheVariants.{Less, Equal, Greater}
use Rattle.std.proofs.lemmas.Bool.{false≢true}
use Rattle.std.proofs.lemmas.Cmp.{eq_by_cmp_equiv}
use Rattle.std.proofs.lemmas.List.Elements.{All-contains}
use Rattle.std.proofs.lemmas.List.Sorted.{IsPermutation-map, IsPermutation-sym, Contains-permutation}
use Rattle.std.proofs.lemmas.Map.Keys.{IsDistinct-from_sorted, IsDistinct-IsPermutation}
use Rattle.std.proofs.lemmas.Map.Made.{AllPairs-from_IsDistinct, is_member-Decides, length-le_from_is_member}
use Rattle.drill_plan.specs.Sets.{Has, IsAscending, HasEachOnce}
use Rattle.drill_plan.proofs.SetLaws.{IsExact, has_either, by_either}

-- ---- single items

pub has_contains : {X : Type 0} (xs : List X) (x : X) → Has xs x → Contains xs x
has_contains [] x none = absurd none
has_contains (y ∷ ys) x (inl same) = (0, omega arith, same)
has_contains (y ∷ ys) x (inr h) = let c = has_contains ys x h in (suc c.0, omega (arith, c.1), c.2)

pub contains_has : {X : Type 0} (xs : List X) (x : X) → Contains xs x → Has xs x
contains_has [] x c = absurd (omega (arith, c.1))
contains_has (y ∷ ys) x (zero, l, e) = inl e
contains_has (y ∷ ys) x (suc k, l, e) = inr (contains_has ys x (k, omega (arith, l), e))

-- what holds of all holds of each one
pub all_has : {X : Type 0} (P : X → Type 0) (xs : List X) (x : X) → All P xs → Has xs x → P x
all_has P xs x all h = All-contains P xs x all (has_contains xs x h)

pub has_left : {X : Type 0} (xs ys : List X) (x : X) → Has xs x → Has (xs ++ ys) x
has_left [] ys x none = absurd none
has_left (y ∷ xs) ys x (inl same) = inl same
has_left (y ∷ xs) ys x (inr h) = inr (has_left xs ys x h)

pub has_right : {X : Type 0} (xs ys : List X) (x : X) → Has ys x → Has (xs ++ ys) x
has_right [] ys x h = h
has_right (y ∷ xs) ys x h = inr (has_right xs ys x h)

-- the list of all that f gives has what it gives of one item
pub has_flat : {A X : Type 0} (f : A → List X) (items : List A) (a : A) (x : X) → Has items a → Has (f a) x → Has (flat_map f items) x
has_flat f [] a x none h = absurd none
has_flat f (b ∷ items) a x (inl same) h = has_left (f b) (flat_map f items) x (subst (λ c. Has (f c) x) (sym same) h)
has_flat f (b ∷ items) a x (inr k) h = has_right (f b) (flat_map f items) x (has_flat f items a x k h)

-- and no more
pub from_flat : {A X : Type 0} (f : A → List X) (items : List A) (x : X) → Has (flat_map f items) x → (a : A) × (Has items a × Has (f a) x)
from_flat f [] x none = absurd none
from_flat f (b ∷ items) x h =
    by_either (λ here. (b, (inl refl, here))) (λ later. (let r = from_flat f items x later in (r.0, (inr r.1.0, r.1.1)))) (has_either (f b) (flat_map f items) x h)

-- one item where a test holds
pub has_if : {X : Type 0} (b : Bool) (x : X) → b ≡ true → Has (if b then x ∷ [] else []) x
has_if true x e = inl refl
has_if false x e = absurd (false≢true e)

pub from_if : {X : Type 0} (b : Bool) (x y : X) → Has (if b then x ∷ [] else []) y → (b ≡ true) × (x ≡ y)
from_if true x y (inl same) = (refl, same)
from_if true x y (inr none) = absurd none
from_if false x y none = absurd none

-- ---- each once

-- the order is equal where the items are
pub decides : {X : Type 0} (cmp : X → X → Ordering) → IsTotalOrder cmp → IsExact cmp → (a b : X) → Decides (eq_by_cmp cmp a b) (a ≡ b)
decides cmp total exact a b = (λ e. exact a b (equal (cmp a b) e), λ e. subst (λ c. eq_by_cmp cmp a c ≡ true) e ((eq_by_cmp_equiv total).refl a))
  where
    equal : (o : Ordering) → is_eq o ≡ true → o ≡ Equal
    equal Less e = absurd (false≢true e)
    equal Equal e = refl
    equal Greater e = absurd (false≢true e)

module _ {X : Type 0} (cmp : X → X → Ordering) (total : IsTotalOrder cmp) (exact : IsExact cmp) where
  -- an ascending list has each of its items once
  pub ascending_once : (Wanted : X → Type 0) (given ascending : List X) → IsAscending cmp given ascending → ((x : X) → Wanted x ↔ Has given x) → HasEachOnce Wanted ascending
  ascending_once Wanted given ascending a wants = record {
    same = λ x. ((λ w. (a.same x).0 ((wants x).0 w)), (λ h. (wants x).1 ((a.same x).1 h)));
    once = AllPairs-from_IsDistinct (decides cmp total exact) ascending (IsDistinct-from_sorted cmp ascending a.rising);
  }

  -- so has each other list of them
  pub permuted_once : (Wanted : X → Type 0) (given ascending items : List X) → IsAscending cmp given ascending → ((x : X) → Wanted x ↔ Has given x) → IsPermutation ascending items → HasEachOnce Wanted items
  permuted_once Wanted given ascending items a wants p = record {
    same = λ x. (
      (λ w. contains_has items x (Contains-permutation ascending items x p (has_contains ascending x ((a.same x).0 ((wants x).0 w))))),
      (λ h. (wants x).1 ((a.same x).1 (contains_has ascending x (Contains-permutation items ascending x (IsPermutation-sym ascending items p) (has_contains items x h))))),
    );
    once =
        AllPairs-from_IsDistinct (decides cmp total exact) items
        (IsDistinct-IsPermutation (eq_by_cmp cmp) (eq_by_cmp_equiv total).symm ascending items p (IsDistinct-from_sorted cmp ascending a.rising));
  }

  -- a list that has nothing twice is no longer than one that has all of it
  pub no_longer : (xs ys : List X) → IsDistinct (eq_by_cmp cmp) xs → ((x : X) → Has xs x → Has ys x) → length xs ≤ length ys
  no_longer xs ys d within =
      length-le_from_is_member (eq_by_cmp_equiv total) xs ys d
      (λ q m. (is_member-Decides (decides cmp total exact) ys q).1 (has_contains ys q (within q (contains_has xs q ((is_member-Decides (decides cmp total exact) xs q).0 m)))))

-- ---- lists by their indices

by_index : {X : Type 0} (xs : List X) (d : X) (a : ℕ) (all : List X) → ((i : ℕ) → i < length xs → get_or all (a + i) d ≡ get_or xs i d) → map (λ k. get_or all k d) (range_with_len a (length xs)) ≡ xs
by_index [] d a all h = refl
by_index (x ∷ xs) d a all h =
    let zeroth : a + 0 ≡ a = omega arith in
    let head : get_or all a d ≡ x = sym (ap (λ (i : ℕ). get_or all i d) zeroth) ∙ h 0 (omega arith) in
    let rest = by_index xs d (a + 1) all (λ i l. (let e : a + 1 + i ≡ a + suc i = omega arith in ap (λ (j : ℕ). get_or all j d) e ∙ h (suc i) (omega (arith, l)))) in
    ap (λ y. y ∷ map (λ k. get_or all k d) (range_with_len (a + 1) (length xs))) head ∙ ap (λ l. x ∷ l) rest

-- the items in an order of their indices are the same items
pub in_order : {X : Type 0} (xs : List X) (d : X) (order : List ℕ) → IsPermutation (range_with_len 0 (length xs)) order → IsPermutation xs (map (λ k. get_or xs k d) order)
in_order xs d order p =
    subst (λ l. IsPermutation l (map (λ k. get_or xs k d) order)) (by_index xs d 0 xs (λ i l. (let z : 0 + i ≡ i = omega arith in ap (λ (j : ℕ). get_or xs j d) z)))
    (IsPermutation-map (λ k. get_or xs k d) (range_with_len 0 (length xs)) order p)
