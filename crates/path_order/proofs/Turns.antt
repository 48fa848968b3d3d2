-- Turning a stretch of an order round.
use Rattle.std.proofs.Common.{◌≡◌, ℕ, zero, suc, ◌+◌, ◌-◌, ◌<◌, ◌≤◌, cond, Bool, true, false, List, [], ◌∷◌, ◌++◌, length, take, drop, map, reverse, get_or, inl, inr, refl, sym, ap, subst, ◌∙◌, arith}
use Rattle.std.specs.Prelude.{nat_lt}
use Rattle.std.specs.List.Sorted.{IsPermutation}
use Rattle.std.proofs.lemmas.List.{reverse-append, take-append-drop, take_more, drop_more, map-append, length-drop, get_or-drop, take-map, drop-map, drop-drop, length-map, get_or-map}
use Rattle.std.proofs.lemmas.List.Sorted.{IsPermutation-refl, IsPermutation-reverse, IsPermutation-put_mid, All-permutation}
use Rattle.std.proofs.lemmas.Bool.{lt-ltb, ltb-true, cases_lt, false≢true}
use Rattle.number_laws.proofs.Tests.{same_test}
use Rattle.board_base.specs.declared.places.Point.{Point}
use Rattle.path_order.specs.Orders.{point_at, far_of}
use Rattle.path_order.specs.Tours.{travel_of, way_of, turned, tried}
use Rattle.path_order.specs.declared.tours.Start.{Start}
use Rattle.path_order.specs.Trials.{to_place, from_place, way_from, IsStart, AreIndices, IsTried}
use Rattle.path_order.proofs.Travel.{travel_turned, to_last}

-- what lies after a stretch
after_stretch : {X : Type 0} (i j : ℕ) (xs : List X) → i ≤ j → drop (j + 1 - i) (drop i xs) ≡ drop (j + 1) xs
after_stretch {X} i j xs l = let e : i + (j + 1 - i) ≡ j + 1 = omega (arith, l) in drop-drop (j + 1 - i) i xs ∙ ap (λ (n : ℕ). drop n xs) e

-- as the code turns it
pub as_turned : {X : Type 0} (i j : ℕ) (xs ys : List X) → i < j → ys ≡ reverse (take (j + 1 - i) (drop i xs)) → take i xs ++ (ys ++ drop (j + 1 - i) (drop i xs)) ≡ turned i j xs
unfolding turned
as_turned {X} i j xs ys l e =
    ap (λ (mid : List X). take i xs ++ (mid ++ drop (j + 1 - i) (drop i xs))) e
    ∙ ap (λ (post : List X). take i xs ++ (reverse (take (j + 1 - i) (drop i xs)) ++ post)) (after_stretch i j xs (omega (arith, l)))

pub turned_moves : {X : Type 0} (i j : ℕ) (xs : List X) → i < j → IsPermutation xs (turned i j xs)
turned_moves {X} i j xs l =
    subst (IsPermutation xs) (as_turned i j xs (reverse (take (j + 1 - i) (drop i xs))) l refl)
    (IsPermutation-put_mid i (j + 1 - i) xs (reverse (take (j + 1 - i) (drop i xs))) (IsPermutation-reverse (take (j + 1 - i) (drop i xs))))

-- the list in three parts
whole : {X : Type 0} (i j : ℕ) (xs : List X) → i ≤ j → take i xs ++ (take (j + 1 - i) (drop i xs) ++ drop (j + 1) xs) ≡ xs
whole {X} i j xs l =
    ap (λ (post : List X). take i xs ++ (take (j + 1 - i) (drop i xs) ++ post)) (sym (after_stretch i j xs l))
    ∙ ap (λ (rest : List X). take i xs ++ rest) (take-append-drop (j + 1 - i) (drop i xs)) ∙ take-append-drop i xs

-- the first of a stretch
first_of : {X : Type 0} (i j : ℕ) (xs : List X) (d : X) → i < j → j < length xs → take (j + 1 - i) (drop i xs) ≡ get_or xs i d ∷ take (j - i) (drop (i + 1) xs)
first_of {X} i j xs d l k =
    let n : j + 1 - i ≡ suc (j - i) = omega (arith, l) in
    ap (λ (m : ℕ). take m (drop i xs)) n ∙ ap (λ (rest : List X). take (suc (j - i)) rest) (drop_more xs i d (omega (arith, l, k)))

-- the last
last_of : {X : Type 0} (i j : ℕ) (xs : List X) (d : X) → i < j → j < length xs → take (j + 1 - i) (drop i xs) ≡ take (j - i) (drop i xs) ++ get_or xs j d ∷ []
last_of {X} i j xs d l k =
    let n : j + 1 - i ≡ j - i + 1 = omega (arith, l) in
    let len : length (drop i xs) ≡ length xs - i = length-drop i xs in
    let at : i + (j - i) ≡ j = omega (arith, l) in
    ap (λ (m : ℕ). take m (drop i xs)) n ∙ take_more (drop i xs) (j - i) d (omega (arith, len, l, k))
    ∙ ap (λ (x : X). take (j - i) (drop i xs) ++ x ∷ []) (get_or-drop i xs (j - i) d ∙ ap (λ (m : ℕ). get_or xs m d) at)

-- turning a stretch round changes only the ways to its ends
turned_travel : (xs : List Point) (i j : ℕ) (d : Point) → i < j → j < length xs
    → travel_of (turned i j xs) + (to_place (take i xs) (get_or xs i d) + from_place (get_or xs j d) (drop (j + 1) xs)) ≡ travel_of xs + (to_place (take i xs) (get_or xs j d) + from_place (get_or xs i d) (drop (j + 1) xs))
unfolding turned
turned_travel xs i j d l k =
    let mid : List Point = take (j + 1 - i) (drop i xs) in
    let first : mid ≡ get_or xs i d ∷ take (j - i) (drop (i + 1) xs) = first_of i j xs d l k in
    let last : mid ≡ take (j - i) (drop i xs) ++ get_or xs j d ∷ [] = last_of i j xs d l k in
    let law = travel_turned (take i xs) (take (j - i) (drop (i + 1) xs)) (take (j - i) (drop i xs)) (drop (j + 1) xs) (get_or xs i d) (get_or xs j d) (sym first ∙ last) in
    let now : travel_of (take i xs ++ ((get_or xs i d ∷ take (j - i) (drop (i + 1) xs)) ++ drop (j + 1) xs)) ≡ travel_of xs =
    ap travel_of (ap (λ (x : List Point). take i xs ++ (x ++ drop (j + 1) xs)) (sym first) ∙ whole i j xs (omega (arith, l))) in
    let then : travel_of (take i xs ++ (reverse (get_or xs i d ∷ take (j - i) (drop (i + 1) xs)) ++ drop (j + 1) xs)) ≡ travel_of (take i xs ++ (reverse mid ++ drop (j + 1) xs)) =
    ap travel_of (ap (λ (x : List Point). take i xs ++ (reverse x ++ drop (j + 1) xs)) (sym first)) in
    omega (arith, law, now, then)

-- ---- of the points in an order

map_reverse : {X Y : Type 0} (f : X → Y) (xs : List X) → map f (reverse xs) ≡ reverse (map f xs)
map_reverse f [] = refl
map_reverse f (x ∷ xs) =
    ap (map f) (reverse-append (x ∷ []) xs) ∙ map-append f (reverse xs) (x ∷ []) ∙ ap (λ l. l ++ f x ∷ []) (map_reverse f xs) ∙ sym (reverse-append (f x ∷ []) (map f xs))

map_turned : {X Y : Type 0} (f : X → Y) (i j : ℕ) (xs : List X) → map f (turned i j xs) ≡ turned i j (map f xs)
unfolding turned
map_turned {X} {Y} f i j xs =
    let mid : List X = take (j + 1 - i) (drop i xs) in
    let is : map f (reverse mid) ≡ reverse (take (j + 1 - i) (drop i (map f xs))) = map_reverse f mid ∙ ap reverse (sym (ap (take (j + 1 - i)) (drop-map f i xs) ∙ take-map f (j + 1 - i) (drop i xs))) in
    map-append f (take i xs) (reverse mid ++ drop (j + 1) xs) ∙ ap (λ (l : List Y). l ++ map f (reverse mid ++ drop (j + 1) xs)) (sym (take-map f i xs))
    ∙ ap (λ (l : List Y). take i (map f xs) ++ l) (map-append f (reverse mid) (drop (j + 1) xs) ∙ ap (λ (l : List Y). l ++ map f (drop (j + 1) xs)) is ∙ ap (λ (l : List Y). reverse (take (j + 1 - i) (drop i (map f xs))) ++ l) (sym (drop-map f (j + 1) xs)))

module _ (points : List Point) where
  abbrev at : ℕ → Point
  at = point_at points

  -- the way from the entry before
  before_is : (order : List ℕ) (i : ℕ) (start : Start) (p : Point) → i < length order → IsStart points order i start → way_from i start.before p ≡ to_place (map at (take i order)) p
  before_is order zero start p l h = refl
  before_is order (suc i) start p l h =
      let cut : take (suc i) order ≡ take i order ++ get_or order i 0 ∷ [] = ap (λ (x : ℕ). take x order) (one_more i) ∙ take_more order i 0 (omega (arith, l)) in
      ap (λ (x : Point). far_of x p) h.before ∙ ap (λ (n : ℕ). far_of (at (get_or order n 0)) p) (one_less i)
      ∙ sym (ap (λ (x : List ℕ). to_place (map at x) p) cut ∙ ap (λ (x : List Point). to_place x p) (map-append at (take i order) (get_or order i 0 ∷ [])) ∙ to_last (map at (take i order)) (at (get_or order i 0)) p)
    where
      one_more : (n : ℕ) → suc n ≡ n + 1
      one_more n = omega arith

      one_less : (n : ℕ) → suc n - 1 ≡ n
      one_less n = omega arith

  -- the ways to the ends of a stretch, as it is and turned round
  turned_way : (order : List ℕ) (i j : ℕ) → i < j → j < length order
      → way_of points (turned i j order) + (to_place (map at (take i order)) (at (get_or order i 0)) + from_place (at (get_or order j 0)) (map at (drop (j + 1) order)))
      ≡ way_of points order + (to_place (map at (take i order)) (at (get_or order j 0)) + from_place (at (get_or order i 0)) (map at (drop (j + 1) order)))
  turned_way order i j l k =
      let n : length (map at order) ≡ length order = length-map order at in
      let law = turned_travel (map at order) i j (at 0) l (omega (arith, k, n)) in
      let first : get_or (map at order) i (at 0) ≡ at (get_or order i 0) = get_or-map at order i 0 (at 0) (omega (arith, l, k)) in
      let last : get_or (map at order) j (at 0) ≡ at (get_or order j 0) = get_or-map at order j 0 (at 0) k in
      let pre : take i (map at order) ≡ map at (take i order) = take-map at i order in
      let post : drop (j + 1) (map at order) ≡ map at (drop (j + 1) order) = drop-map at (j + 1) order in
      let turned_is : travel_of (map at (turned i j order)) ≡ travel_of (turned i j (map at order)) = ap travel_of (map_turned at i j order) in
      let a : to_place (map at (take i order)) (at (get_or order i 0)) ≡ to_place (take i (map at order)) (get_or (map at order) i (at 0)) = ends to_place (sym pre) (sym first) in
      let b : to_place (map at (take i order)) (at (get_or order j 0)) ≡ to_place (take i (map at order)) (get_or (map at order) j (at 0)) = ends to_place (sym pre) (sym last) in
      let c : from_place (at (get_or order j 0)) (map at (drop (j + 1) order)) ≡ from_place (get_or (map at order) j (at 0)) (drop (j + 1) (map at order)) = ends (λ x y. from_place y x) (sym post) (sym last) in
      let d : from_place (at (get_or order i 0)) (map at (drop (j + 1) order)) ≡ from_place (get_or (map at order) i (at 0)) (drop (j + 1) (map at order)) = ends (λ x y. from_place y x) (sym post) (sym first) in
      omega (arith, law, turned_is, a, b, c, d)
    where
      ends : (f : List Point → Point → ℕ) {xs ys : List Point} {p q : Point} → xs ≡ ys → p ≡ q → f xs p ≡ f ys q
      ends f {xs} {ys} {p} {q} e h = ap (λ (x : List Point). f x p) e ∙ ap (f ys) h

  -- the test of the code is that of the travels
  pub shortens_is : (order : List ℕ) (i j b c d : ℕ) (start : Start) (last : Point) → i < j → j < length order → IsStart points order i start → last ≡ at (get_or order j 0)
      → b ≡ from_place last (map at (drop (j + 1) order)) → c ≡ way_from i start.before last → d ≡ from_place start.first (map at (drop (j + 1) order))
      → nat_lt (c + d) (start.way + b) ≡ nat_lt (way_of points (turned i j order)) (way_of points order)
  shortens_is order i j b c d start last l k h le be ce de =
      let law = turned_way order i j l k in
      let in_row : i < length order = omega (arith, l, k) in
      let first : start.way ≡ to_place (map at (take i order)) (at (get_or order i 0)) = h.way ∙ before_is order i start start.first in_row h ∙ ap (to_place (map at (take i order))) h.first in
      let then : c ≡ to_place (map at (take i order)) (at (get_or order j 0)) = ce ∙ before_is order i start last in_row h ∙ ap (to_place (map at (take i order))) le in
      let now : b ≡ from_place (at (get_or order j 0)) (map at (drop (j + 1) order)) = be ∙ ap (λ (p : Point). from_place p (map at (drop (j + 1) order))) le in
      let back : d ≡ from_place (at (get_or order i 0)) (map at (drop (j + 1) order)) = de ∙ ap (λ (p : Point). from_place p (map at (drop (j + 1) order))) h.first in
      same_test (nat_lt (c + d) (start.way + b)) (nat_lt (way_of points (turned i j order)) (way_of points order))
      (λ t u. let less = ltb-true (c + d) (start.way + b) t in absurd (false≢true (sym u ∙ lt-ltb (way_of points (turned i j order)) (way_of points order) (omega (arith, law, less, first, then, now, back)))))
      (λ u t. let less = ltb-true (way_of points (turned i j order)) (way_of points order) t in absurd (false≢true (sym u ∙ lt-ltb (c + d) (start.way + b) (omega (arith, law, less, first, then, now, back)))))

  -- the indices of what was turned round
  pub turned_indices : (order new : List ℕ) (i j : ℕ) → i < j → AreIndices points order → new ≡ turned i j order → AreIndices points new
  turned_indices order new i j l h e = subst (AreIndices points) (sym e) (All-permutation (λ k. k < length points) order (turned i j order) (turned_moves i j order l) h)

  -- what the code's choice is
  pub tried_on : (order new : List ℕ) (i j : ℕ) (t : Bool) → t ≡ nat_lt (way_of points (turned i j order)) (way_of points order) → t ≡ true → new ≡ turned i j order → new ≡ tried points i j order
  unfolding tried
  tried_on order new i j t e h n = n ∙ sym (ap (λ (x : Bool). cond x (turned i j order) order) (sym e ∙ h))

  pub tried_off : (order : List ℕ) (i j : ℕ) (t : Bool) → t ≡ nat_lt (way_of points (turned i j order)) (way_of points order) → t ≡ false → order ≡ tried points i j order
  unfolding tried
  tried_off order i j t e h = sym (ap (λ (x : Bool). cond x (turned i j order) order) (sym e ∙ h))

  pub change_on : (order new : List ℕ) (i j : ℕ) (t : Bool) → i < j → t ≡ nat_lt (way_of points (turned i j order)) (way_of points order) → t ≡ true → new ≡ turned i j order → IsTried points order new true
  change_on order new i j t l e h n =
      subst (λ (x : List ℕ). IsTried points order x true) (sym n) (record {
        moved = turned_moves i j order l;
        shorter = λ _. ltb-true (way_of points (turned i j order)) (way_of points order) (sym e ∙ h);
        same = λ z. absurd (false≢true (sym z));
      })

  pub change_off : (order : List ℕ) → IsTried points order order false
  change_off order = record { moved = IsPermutation-refl order; shorter = λ z. absurd (false≢true z); same = λ _. refl }

  pub quiet_off : (order : List ℕ) (i j : ℕ) (t : Bool) → t ≡ nat_lt (way_of points (turned i j order)) (way_of points order) → t ≡ false → way_of points order ≤ way_of points (turned i j order)
  quiet_off order i j t e h =
      elim (cases_lt (way_of points (turned i j order)) (way_of points order)) as (λ _. way_of points order ≤ way_of points (turned i j order)) [
        | inl less ↦ absurd (false≢true (sym h ∙ e ∙ lt-ltb (way_of points (turned i j order)) (way_of points order) less))
        | inr past ↦ past
      ]
