-- Sets, and the lists that were added to them.
use Rattle.std.proofs.Common.{◌≡◌, refl, ℕ, zero, suc, Bool, true, false, pos, length-append, ◌+◌, ◌≤◌, ◌⊎◌, ◌↔◌, inl, inr, Result, Ok, Err, IfOk, OnOk, List, [], ◌∷◌, ◌++◌, map, take, get_or, ◌<◌, length, arith, ap, sym, ◌∙◌, subst, ℤ}
use Rattle.std.specs.Prelude.{◌&&◌, if◌then◌else◌}
use Rattle.std.specs.List.{All, flat_map, AllByRecursion}
use Rattle.std.specs.List.Sorted.{IsStrictlySortedBy}
use Rattle.std.specs.declared.cmp.Ordering.{Ordering}
use Rattle.std.specs.declared.cmp.Ordering.TheVariants.{Less, Equal, Greater}
use Rattle.std.specs.Ordering.{match_ordering, int_cmp, int_eq, ordering_then}
use Rattle.std.proofs.lemmas.Grind.{common_steps}
use Rattle.std.proofs.lemmas.Int.{ints}
use Rattle.board_base.specs.declared.places.Point.{Point}
use Rattle.std.specs.BTreeSet.{insert_key}
use Rattle.std.proofs.lemmas.Grind.{flat_map-append}
use Rattle.std.proofs.lemmas.List.{append-nil, map-append, length-map}
use Rattle.board_base.specs.Places.{IsPlace}
use Rattle.excellon.specs.Fits.{IsHole, IsSlot, IsDrilled}
use Rattle.excellon.specs.declared.file.DrillFile.{DrillFile}
use Rattle.path_order.specs.Orders.{ArePlaces}
use Rattle.drill_plan.specs.declared.plans.ToolPlan.{ToolPlan}
use Rattle.drill_plan.specs.Tools.{tool_of}
use Rattle.drill_plan.specs.Sets.{Has, IsAscending}
use Rattle.drill_plan.specs.Entries.{by_rows, by_ends, is_hole, hole_place, slot_place, places_of}
use Rattle.drill_plan.specs.Keys.{insert_all, spot_of, spot_place, by_spot, key_of, key_ends, by_key}
use Rattle.drill_plan.specs.declared.entries.Spot.{Spot}
use Rattle.drill_plan.specs.declared.entries.Ends.{Ends}

insert_all-append : {K : Type 0} (cmp : K → K → Ordering) (keys xs ys : List K) → insert_all cmp keys (xs ++ ys) ≡ insert_all cmp (insert_all cmp keys xs) ys
insert_all-append cmp keys [] ys = refl
insert_all-append cmp keys (x ∷ xs) ys = insert_all-append cmp (insert_key cmp keys x) xs ys

one_each : {A X : Type 0} (f : A → List X) (x : A) → flat_map f (x ∷ []) ≡ f x
one_each f x = append-nil (f x)

-- one item more of a list is added
pub grown : {A X K : Type 0} (cmp : K → K → Ordering) (g : X → K) (f : A → List X) (start old new : List K) (before after : List A) (x : A)
    → old ≡ insert_all cmp start (map g (flat_map f before)) → after ≡ before ++ x ∷ [] → new ≡ insert_all cmp old (map g (f x)) → new ≡ insert_all cmp start (map g (flat_map f after))
grown cmp g f start old new before after x o a n =
    n ∙ ap (λ keys. insert_all cmp keys (map g (f x))) o
    ∙ sym (insert_all-append cmp start (map g (flat_map f before)) (map g (f x)))
    ∙ ap (insert_all cmp start) (sym (map-append g (flat_map f before) (f x)))
    ∙ ap (λ l. insert_all cmp start (map g (flat_map f before ++ l))) (sym (one_each f x))
    ∙ ap (λ l. insert_all cmp start (map g l)) (sym (flat_map-append f before (x ∷ [])))
    ∙ ap (λ l. insert_all cmp start (map g (flat_map f l))) (sym a)

-- the same of numbers
pub grown_by : {A K : Type 0} (cmp : K → K → Ordering) (f : A → List K) (start old new : List K) (before after : List A) (x : A)
    → old ≡ insert_all cmp start (flat_map f before) → after ≡ before ++ x ∷ [] → new ≡ insert_all cmp old (f x) → new ≡ insert_all cmp start (flat_map f after)
grown_by cmp f start old new before after x o a n =
    n ∙ ap (λ keys. insert_all cmp keys (f x)) o
    ∙ sym (insert_all-append cmp start (flat_map f before) (f x))
    ∙ ap (λ l. insert_all cmp start (flat_map f before ++ l)) (sym (one_each f x))
    ∙ ap (λ l. insert_all cmp start l) (sym (flat_map-append f before (x ∷ [])))
    ∙ ap (λ l. insert_all cmp start (flat_map f l)) (sym a)

-- two lists, one after the other
pub both_added : {X K : Type 0} (cmp : K → K → Ordering) (g : X → K) (middle new : List K) (xs ys : List X)
    → middle ≡ insert_all cmp [] (map g xs) → new ≡ insert_all cmp middle (map g ys) → new ≡ insert_all cmp [] (map g (xs ++ ys))
both_added cmp g middle new xs ys m n =
    n ∙ ap (λ keys. insert_all cmp keys (map g ys)) m ∙ sym (insert_all-append cmp [] (map g xs) (map g ys)) ∙ ap (insert_all cmp []) (sym (map-append g xs ys))

pub both_added_by : {K : Type 0} (cmp : K → K → Ordering) (middle new xs ys : List K) → middle ≡ insert_all cmp [] xs → new ≡ insert_all cmp middle ys → new ≡ insert_all cmp [] (xs ++ ys)
both_added_by cmp middle new xs ys m n = n ∙ ap (λ keys. insert_all cmp keys ys) m ∙ sym (insert_all-append cmp [] xs ys)

-- What a set has.

-- equal keys are the same
abbrev pub IsExact : {K : Type 0} → (K → K → Ordering) → Type 0
IsExact {K} cmp = (a b : K) → cmp a b ≡ Equal → a ≡ b

inserted : {K : Type 0} (cmp : K → K → Ordering) → IsExact cmp → (keys : List K) (k x : K) → Has keys x ⊎ (k ≡ x) → Has (insert_key cmp keys k) x
inserted cmp exact [] k x (inl none) = absurd none
inserted cmp exact [] k x (inr same) = inl same
inserted cmp exact (y ∷ ys) k x h = by_order (cmp k y) refl (exact k y) h (inserted cmp exact ys k x)
  where
    by_order : (o : Ordering) → cmp k y ≡ o → (cmp k y ≡ Equal → k ≡ y) → Has (y ∷ ys) x ⊎ (k ≡ x) → (Has ys x ⊎ (k ≡ x) → Has (insert_key cmp ys k) x) → Has (match_ordering o (k ∷ y ∷ ys) (y ∷ ys) (y ∷ insert_key cmp ys k)) x
    by_order Less e s (inl has) more = inr has
    by_order Less e s (inr same) more = inl same
    by_order Equal e s (inl has) more = has
    by_order Equal e s (inr same) more = inl (sym (s e) ∙ same)
    by_order Greater e s (inl (inl first)) more = inl first
    by_order Greater e s (inl (inr later)) more = inr (more (inl later))
    by_order Greater e s (inr same) more = inr (more (inr same))

-- what it has was there or was added
kept : {K : Type 0} (cmp : K → K → Ordering) (keys : List K) (k x : K) → Has (insert_key cmp keys k) x → Has keys x ⊎ (k ≡ x)
kept cmp [] k x (inl same) = inr same
kept cmp [] k x (inr none) = absurd none
kept cmp (y ∷ ys) k x h = by_order (cmp k y) h (kept cmp ys k x)
  where
    later : Has ys x ⊎ (k ≡ x) → Has (y ∷ ys) x ⊎ (k ≡ x)
    later (inl has) = inl (inr has)
    later (inr same) = inr same

    by_order : (o : Ordering) → Has (match_ordering o (k ∷ y ∷ ys) (y ∷ ys) (y ∷ insert_key cmp ys k)) x → (Has (insert_key cmp ys k) x → Has ys x ⊎ (k ≡ x)) → Has (y ∷ ys) x ⊎ (k ≡ x)
    by_order Less (inl same) less = inr same
    by_order Less (inr has) less = inl has
    by_order Equal has less = inl has
    by_order Greater (inl first) less = inl (inl first)
    by_order Greater (inr has) less = later (less has)

-- all that were added, and those before
all_inserted : {K : Type 0} (cmp : K → K → Ordering) → IsExact cmp → (keys xs : List K) (x : K) → Has keys x ⊎ Has xs x → Has (insert_all cmp keys xs) x
all_inserted cmp exact keys [] x (inl has) = has
all_inserted cmp exact keys [] x (inr none) = absurd none
all_inserted cmp exact keys (y ∷ ys) x (inl has) = all_inserted cmp exact (insert_key cmp keys y) ys x (inl (inserted cmp exact keys y x (inl has)))
all_inserted cmp exact keys (y ∷ ys) x (inr (inl same)) = all_inserted cmp exact (insert_key cmp keys y) ys x (inl (inserted cmp exact keys y x (inr same)))
all_inserted cmp exact keys (y ∷ ys) x (inr (inr has)) = all_inserted cmp exact (insert_key cmp keys y) ys x (inr has)

all_kept : {K : Type 0} (cmp : K → K → Ordering) (keys xs : List K) (x : K) → Has (insert_all cmp keys xs) x → Has keys x ⊎ Has xs x
all_kept cmp keys [] x has = inl has
all_kept cmp keys (y ∷ ys) x has = one (all_kept cmp (insert_key cmp keys y) ys x has)
  where
    was : Has keys x ⊎ (y ≡ x) → Has keys x ⊎ Has (y ∷ ys) x
    was (inl has) = inl has
    was (inr same) = inr (inl same)

    one : Has (insert_key cmp keys y) x ⊎ Has ys x → Has keys x ⊎ Has (y ∷ ys) x
    one (inl has) = was (kept cmp keys y x has)
    one (inr has) = inr (inr has)

no_left : {P Q : Type 0} → (P → ⊥) → P ⊎ Q → Q
no_left never (inl p) = absurd (never p)
no_left never (inr q) = q

-- a set has what was added to it, and no more
pub set_has : {K : Type 0} (cmp : K → K → Ordering) → IsExact cmp → (xs : List K) (x : K) → Has xs x ↔ Has (insert_all cmp [] xs) x
set_has cmp exact xs x = (λ has. all_inserted cmp exact [] xs x (inr has), λ has. no_left (λ none. none) (all_kept cmp [] xs x has))

-- Lists of other things.

pub has_map : {X K : Type 0} (g : X → K) (xs : List X) (x : X) → Has xs x → Has (map g xs) (g x)
has_map g (y ∷ ys) x (inl same) = inl (ap g same)
has_map g (y ∷ ys) x (inr has) = inr (has_map g ys x has)
has_map g [] x none = absurd none

map_back : {X K : Type 0} (g : X → K) (back : K → X) → ((x : X) → back (g x) ≡ x) → (xs : List X) → map back (map g xs) ≡ xs
map_back g back e [] = refl
map_back g back e (x ∷ xs) = λ t. e x t ∷ map_back g back e xs t

-- the list of a set of keys has what the keys were made of
pub list_has : {X K : Type 0} (cmp : K → K → Ordering) → IsExact cmp → (g : X → K) (back : K → X) → ((x : X) → back (g x) ≡ x) → ((k : K) → g (back k) ≡ k) → (xs list : List X) (keys : List K)
    → keys ≡ insert_all cmp [] (map g xs) → list ≡ map back keys → (x : X) → Has xs x ↔ Has list x
list_has cmp exact g back there here xs list keys k l x = (
  λ has. subst (λ list. Has list x) (sym l) (subst (λ y. Has (map back keys) y) (there x) (has_map back keys (g x)
      (subst (λ keys. Has keys (g x)) (sym k) ((set_has cmp exact (map g xs) (g x)).0 (has_map g xs x has))))),
  λ has. let all : Has (map g xs) (g x) = (set_has cmp exact (map g xs) (g x)).1 (subst (λ keys. Has keys (g x)) k (subst (λ ks. Has ks (g x)) (map_back back g here keys) (has_map g (map back keys) x (subst (λ list. Has list x) l has)))) in
      subst (λ y. Has xs y) (there x) (subst (λ ys. Has ys (back (g x))) (map_back g back there xs) (has_map back (map g xs) (g x) all)),
)

-- Order.

all_map : {X K : Type 0} (P : K → Type 0) (Q : X → Type 0) (back : K → X) → ((k : K) → P k → Q (back k)) → (ks : List K) → AllByRecursion P ks → AllByRecursion Q (map back ks)
all_map P Q back e [] a = tt
all_map P Q back e (k ∷ ks) a = (e k a.0, all_map P Q back e ks a.1)

-- lists of keys and of what they were made of ascend alike
pub rising_map : {X K : Type 0} (cmp : K → K → Ordering) (by : X → X → Ordering) (back : K → X) → ((a b : K) → cmp a b ≡ Less → by (back a) (back b) ≡ Less) → (ks : List K)
    → IsStrictlySortedBy cmp ks → IsStrictlySortedBy by (map back ks)
unfolding IsStrictlySortedBy
rising_map cmp by back e [] r = tt
rising_map cmp by back e (k ∷ ks) r = (all_map (λ y. cmp k y ≡ Less) (λ y. by (back k) y ≡ Less) back (λ y. e k y) ks r.0, rising_map cmp by back e ks r.1)

-- Exact orders.

pub int_same : (a b : ℤ) → int_cmp a b ≡ Equal → a ≡ b
int_same a b e = grind (arith, ints, e)

pub then_equal : (o p : Ordering) → ordering_then o p ≡ Equal → (o ≡ Equal) × (p ≡ Equal)
then_equal Less p e = absurd cc
then_equal Equal p e = (refl, e)
then_equal Greater p e = absurd cc

pub exact_number : IsExact int_cmp
exact_number = int_same

pub exact_spot : IsExact by_spot
exact_spot a b e =
    let both = then_equal (int_cmp a.y b.y) (int_cmp a.x b.x) e in
    let y : a.y ≡ b.y = int_same a.y b.y both.0 in
    let x : a.x ≡ b.x = int_same a.x b.x both.1 in
    λ t. record { y = y t; x = x t }

pub exact_key : IsExact by_key
exact_key a b e =
    let both = then_equal (ordering_then (int_cmp a.from.x b.from.x) (int_cmp a.from.y b.from.y)) (ordering_then (int_cmp a.to.x b.to.x) (int_cmp a.to.y b.to.y)) e in
    let from = then_equal (int_cmp a.from.x b.from.x) (int_cmp a.from.y b.from.y) both.0 in
    let to = then_equal (int_cmp a.to.x b.to.x) (int_cmp a.to.y b.to.y) both.1 in
    let from_x : a.from.x ≡ b.from.x = int_same a.from.x b.from.x from.0 in
    let from_y : a.from.y ≡ b.from.y = int_same a.from.y b.from.y from.1 in
    let to_x : a.to.x ≡ b.to.x = int_same a.to.x b.to.x to.0 in
    let to_y : a.to.y ≡ b.to.y = int_same a.to.y b.to.y to.1 in
    λ t. record { from = record { x = from_x t; y = from_y t }; to = record { x = to_x t; y = to_y t } }

-- Lists of sets.

pub slots_ascend : (slots list : List (Point × Point)) (keys : List Ends) → keys ≡ insert_all by_key [] (map key_of slots) → list ≡ map key_ends keys → IsStrictlySortedBy by_key keys → IsAscending by_ends slots list
unfolding key_ends
slots_ascend slots list keys k l r = record {
  rising = subst (λ list. IsStrictlySortedBy by_ends list) (sym l) (rising_map by_key by_ends key_ends (λ a b e. e) keys r);
  same = list_has by_key exact_key key_of key_ends (λ e. refl) (λ k. refl) slots list keys k l;
}

pub points_ascend : (points list : List Point) (keys : List Spot) → keys ≡ insert_all by_spot [] (map spot_of points) → list ≡ map spot_place keys → IsStrictlySortedBy by_spot keys → IsAscending by_rows points list
points_ascend points list keys k l r = record {
  rising = subst (λ list. IsStrictlySortedBy by_rows list) (sym l) (rising_map by_spot by_rows spot_place (λ a b e. e) keys r);
  same = list_has by_spot exact_spot spot_of spot_place (λ p. refl) (λ k. refl) points list keys k l;
}

pub numbers_ascend : (numbers keys : List ℤ) → keys ≡ insert_all int_cmp [] numbers → IsStrictlySortedBy int_cmp keys → IsAscending int_cmp numbers keys
numbers_ascend numbers keys k r = record { rising = r; same = λ x. subst (λ keys. Has numbers x ↔ Has keys x) (sym k) (set_has int_cmp exact_number numbers x) }

-- one item more
pub take_one : {X : Type 0} (xs : List X) (i : ℕ) (d : X) → i < length xs → take (i + 1) xs ≡ take i xs ++ get_or xs i d ∷ []
take_one xs i d h = grind (arith, common_steps, h)

-- Places and how many there are.

pub all_head : {X : Type 0} (P : X → Type 0) (x : X) (xs : List X) → All P (x ∷ xs) → P x
all_head P x xs a = a zero x (omega arith)

pub all_tail : {X : Type 0} (P : X → Type 0) (x : X) (xs : List X) → All P (x ∷ xs) → All P xs
all_tail P x xs a k d h = a (suc k) d (omega (arith, h))

-- what holds of each thing that a list has
pub all_of_has : {X : Type 0} (P : X → Type 0) (xs : List X) → ((x : X) → Has xs x → P x) → All P xs
all_of_has P [] has k d h = absurd (omega (arith, h))
all_of_has P (x ∷ xs) has zero d h = has x (inl refl)
all_of_has P (x ∷ xs) has (suc k) d h = all_of_has P xs (λ y in_rest. has y (inr in_rest)) k d (omega (arith, h))

pub has_either : {X : Type 0} (xs ys : List X) (x : X) → Has (xs ++ ys) x → Has xs x ⊎ Has ys x
has_either [] ys x h = inr h
has_either (y ∷ xs) ys x (inl same) = inl (inl same)
has_either (y ∷ xs) ys x (inr h) = later (has_either xs ys x h)
  where
    later : Has xs x ⊎ Has ys x → Has (y ∷ xs) x ⊎ Has ys x
    later (inl a) = inl (inr a)
    later (inr b) = inr b

pub by_either : {A B C : Type 0} → (A → C) → (B → C) → A ⊎ B → C
by_either f g (inl a) = f a
by_either f g (inr b) = g b

from_each : {A X : Type 0} (f : A → List X) (Q : A → Type 0) (P : X → Type 0) → ((a : A) → Q a → (x : X) → Has (f a) x → P x) → (items : List A) → All Q items → (x : X) → Has (flat_map f items) x → P x
from_each f Q P each [] all x none = absurd none
from_each f Q P each (a ∷ items) all x h = by_either (each a (all_head Q a items all) x) (from_each f Q P each items (all_tail Q a items all) x) (has_either (f a) (flat_map f items) x h)

one_place : (b : Bool) (p q : Point) → IsPlace p → Has (if b then p ∷ [] else []) q → IsPlace q
one_place true p q place (inl same) = subst (λ q. IsPlace q) same place
one_place true p q place (inr none) = absurd none
one_place false p q place none = absurd none

-- all places of a file are in the range
pub are_places : (file : DrillFile) (available : List ℤ) (tool : ℤ) → IsDrilled file → (p : Point) → Has (places_of file available tool) p → IsPlace p
are_places file available tool d p h = by_either
    (from_each (hole_place available tool) IsHole IsPlace (λ h is p. one_place (int_eq (tool_of available h.diameter) tool) h.at p is.place) file.holes d.holes p)
    (from_each (slot_place available tool) IsSlot IsPlace (λ s is p. one_place (int_eq (tool_of available s.diameter) tool && is_hole s) s.from p is.from) file.slots d.slots p)
    (has_either (flat_map (hole_place available tool) file.holes) (flat_map (slot_place available tool) file.slots) p h)

insert_size : {K : Type 0} (cmp : K → K → Ordering) (keys : List K) (k : K) → length (insert_key cmp keys k) ≤ length keys + 1
insert_size cmp [] k = omega arith
insert_size cmp (y ∷ ys) k = by_order (cmp k y) (insert_size cmp ys k)
  where
    by_order : (o : Ordering) → length (insert_key cmp ys k) ≤ length ys + 1 → length (match_ordering o (k ∷ y ∷ ys) (y ∷ ys) (y ∷ insert_key cmp ys k)) ≤ length (y ∷ ys) + 1
    by_order Less h = omega arith
    by_order Equal h = omega arith
    by_order Greater h = omega (arith, h)

all_size : {K : Type 0} (cmp : K → K → Ordering) (keys xs : List K) → length (insert_all cmp keys xs) ≤ length keys + length xs
all_size cmp keys [] = omega arith
all_size cmp keys (x ∷ xs) = omega (arith, insert_size cmp keys x, all_size cmp (insert_key cmp keys x) xs)

each_size : {A X : Type 0} (f : A → List X) → ((a : A) → length (f a) ≤ 1) → (items : List A) → length (flat_map f items) ≤ length items
each_size f one [] = omega arith
each_size f one (a ∷ items) = omega (arith, one a, each_size f one items, length-append (f a) (flat_map f items))

at_most_one : {X : Type 0} (b : Bool) (x : X) → length (if b then x ∷ [] else []) ≤ 1
at_most_one true x = omega arith
at_most_one false x = omega arith

-- there are no more of them than holes and slots
pub few_places : (file : DrillFile) (available : List ℤ) (tool : ℤ) (keys : List Spot) (list : List Point) → IsDrilled file → keys ≡ insert_all by_spot [] (map spot_of (places_of file available tool)) → list ≡ map spot_place keys → length list ≤ 10000
few_places file available tool keys list d k l =
    let of_list : length list ≡ length keys = ap length l ∙ length-map keys spot_place in
    let of_keys : length keys ≡ length (insert_all by_spot [] (map spot_of (places_of file available tool))) = ap length k in
    let added = all_size by_spot [] (map spot_of (places_of file available tool)) in
    let mapped : length (map spot_of (places_of file available tool)) ≡ length (places_of file available tool) = length-map (places_of file available tool) spot_of in
    let holes = each_size (hole_place available tool) (λ h. at_most_one (int_eq (tool_of available h.diameter) tool) h.at) file.holes in
    let slots = each_size (slot_place available tool) (λ s. at_most_one (int_eq (tool_of available s.diameter) tool && is_hole s) s.from) file.slots in
    let both = length-append (flat_map (hole_place available tool) file.holes) (flat_map (slot_place available tool) file.slots) in
    omega (arith, of_list, of_keys, added, mapped, holes, slots, both, d.few)

-- the list is one of places that can be ordered
pub are_places_of : (file : DrillFile) (available : List ℤ) (tool : ℤ) (list : List Point) → IsDrilled file → IsAscending by_rows (places_of file available tool) list → length list ≤ 10000 → ArePlaces list
are_places_of file available tool list d a few = record {
  few = omega (arith, few);
  each = all_of_has IsPlace list (λ p h. are_places file available tool d p ((a.same p).1 h));
}

-- what the list of a set of places is, where there is one
pub places_are : {V E : Type 0} (view : V → List Point) (file : DrillFile) (available : List ℤ) (tool : ℤ) (keys : List Spot) (result : Result V E) → IsDrilled file
    → keys ≡ insert_all by_spot [] (map spot_of (places_of file available tool)) → IfOk result (λ v. view v ≡ map spot_place keys) → OnOk result (IsStrictlySortedBy by_spot keys)
    → IfOk result (λ v. IsAscending by_rows (places_of file available tool) (view v)) × IfOk result (λ v. ArePlaces (view v)) × IfOk result (λ v. length (view v) ≤ 10000)
places_are view file available tool keys (Ok v) d k l r =
    let ascends = points_ascend (places_of file available tool) (view v) keys k l r in
    let few = few_places file available tool keys (view v) d k l in
    (ascends, are_places_of file available tool (view v) d ascends few, few)
places_are view file available tool keys (Err e) d k l r = (tt, tt, tt)

-- the same of numbers
pub numbers_are : {V E : Type 0} (view : V → List ℤ) (numbers keys : List ℤ) (result : Result V E) → keys ≡ insert_all int_cmp [] numbers → IfOk result (λ v. view v ≡ keys) → OnOk result (IsStrictlySortedBy int_cmp keys)
    → IfOk result (λ v. IsAscending int_cmp numbers (view v))
numbers_are view numbers keys (Ok v) k l r = subst (λ list. IsAscending int_cmp numbers list) (sym l) (numbers_ascend numbers keys k r)
numbers_are view numbers keys (Err e) k l r = tt

-- the same of slots
pub slots_are : {E : Type 0} (slots : List (Point × Point)) (keys listed : List Ends) (result : Result (List (Point × Point)) E) → keys ≡ insert_all by_key [] (map key_of slots) → listed ≡ keys → IsStrictlySortedBy by_key keys
    → IfOk result (λ ends. ends ≡ map key_ends listed) → IfOk result (λ ends. IsAscending by_ends slots ends)
slots_are slots keys listed (Ok list) k same r l = slots_ascend slots list keys k (l ∙ ap (map key_ends) same) r
slots_are slots keys listed (Err e) k same r l = tt

-- the tools of a plan with one more
pub more_tools : (plan new : List ToolPlan) (t : ToolPlan) (tools : List ℤ) (i : ℕ) → i < length tools → map (λ t. t.diameter) plan ≡ take i tools → new ≡ plan ++ t ∷ [] → t.diameter ≡ get_or tools i (pos 0)
    → map (λ t. t.diameter) new ≡ take (i + 1) tools
more_tools plan new t tools i h e n d =
    ap (map (λ t. t.diameter)) n ∙ map-append (λ t. t.diameter) plan (t ∷ []) ∙ ap (λ l. l ++ t.diameter ∷ []) e ∙ ap (λ v. take i tools ++ v ∷ []) d ∙ sym (take_one tools i (pos 0) h)
