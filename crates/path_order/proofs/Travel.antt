-- The travel of lists that are put together, and of a list turned round.
use Rattle.std.proofs.Common.{◌≡◌, ℕ, ◌+◌, ◌-ℤ◌, ℤ, List, [], ◌∷◌, ◌++◌, reverse, append_assoc, refl, sym, ap, ◌∙◌, arith}
use Rattle.std.specs.Prelude.{unsigned_abs, max}
use Rattle.std.proofs.lemmas.List.{reverse-append}
use borrow.Author.Differences.{ints}
use Rattle.board_base.specs.declared.places.Point.{Point}
use Rattle.path_order.specs.Orders.{far_of}
use Rattle.path_order.specs.Tours.{travel_of}
use Rattle.path_order.specs.Trials.{to_place, from_place}

-- both ways are as far
far_sym : (a b : Point) → far_of a b ≡ far_of b a
unfolding far_of
far_sym a b = let x = same a.x b.x in let y = same a.y b.y in ap (λ (n : ℕ). max n (unsigned_abs (a.y -ℤ b.y))) x ∙ ap (max (unsigned_abs (b.x -ℤ a.x))) y
  where
    same : (m n : ℤ) → unsigned_abs (m -ℤ n) ≡ unsigned_abs (n -ℤ m)
    same m n = omega (arith, ints)

-- one point more in front
travel_cons : (a : Point) (xs : List Point) → travel_of (a ∷ xs) ≡ from_place a xs + travel_of xs
travel_cons a [] = refl
travel_cons a (b ∷ xs) = refl

-- two lists, one after the other
travel_join : (xs : List Point) (a : Point) (ys : List Point) → travel_of (xs ++ a ∷ ys) ≡ travel_of xs + to_place xs a + travel_of (a ∷ ys)
travel_join [] a ys = omega arith
travel_join (x ∷ []) a ys = omega arith
travel_join (x ∷ y ∷ xs) a ys = let h = travel_join (y ∷ xs) a ys in omega (arith, h)

pub to_last : (xs : List Point) (b p : Point) → to_place (xs ++ b ∷ []) p ≡ far_of b p
to_last [] b p = refl
to_last (x ∷ []) b p = refl
to_last (x ∷ y ∷ xs) b p = to_last (y ∷ xs) b p

reverse_cons : (a : Point) (xs : List Point) → reverse (a ∷ xs) ≡ reverse xs ++ a ∷ []
reverse_cons a xs = reverse-append (a ∷ []) xs

to_reversed : (xs : List Point) (a : Point) → to_place (reverse xs) a ≡ from_place a xs
to_reversed [] a = refl
to_reversed (b ∷ xs) a = ap (λ (l : List Point). to_place l a) (reverse_cons b xs) ∙ to_last (reverse xs) b a ∙ far_sym b a

travel_reversed : (xs : List Point) → travel_of (reverse xs) ≡ travel_of xs
travel_reversed [] = refl
travel_reversed (a ∷ xs) =
    let joined = travel_join (reverse xs) a [] in
    let split : travel_of (reverse (a ∷ xs)) ≡ travel_of (reverse xs ++ a ∷ []) = ap travel_of (reverse_cons a xs) in
    omega (arith, split, joined, to_reversed xs a, travel_reversed xs, travel_cons a xs)

-- a stretch from f to l between others
travel_between : (pre m' m'' post : List Point) (f l : Point) → f ∷ m' ≡ m'' ++ l ∷ [] → travel_of (pre ++ ((f ∷ m') ++ post)) ≡ travel_of pre + to_place pre f + travel_of (f ∷ m') + from_place l post + travel_of post
travel_between pre m' m'' post f l e =
    let outer = travel_join pre f (m' ++ post) in
    let inner = travel_join m'' l post in
    let alone = travel_join m'' l [] in
    let same : travel_of (f ∷ (m' ++ post)) ≡ travel_of (m'' ++ l ∷ post) = ap (λ (x : List Point). travel_of (x ++ post)) e ∙ ap travel_of (append_assoc m'' (l ∷ []) post) in
    let mid : travel_of (f ∷ m') ≡ travel_of (m'' ++ l ∷ []) = ap travel_of e in
    omega (arith, outer, inner, alone, same, mid, travel_cons l post)

-- turning the stretch round changes only the ways to its ends
pub travel_turned : (pre m' m'' post : List Point) (f l : Point) → f ∷ m' ≡ m'' ++ l ∷ []
    → travel_of (pre ++ (reverse (f ∷ m') ++ post)) + (to_place pre f + from_place l post) ≡ travel_of (pre ++ ((f ∷ m') ++ post)) + (to_place pre l + from_place f post)
travel_turned pre m' m'' post f l e =
    let front : reverse (f ∷ m') ≡ l ∷ reverse m'' = ap reverse e ∙ reverse-append m'' (l ∷ []) in
    let back : l ∷ reverse m'' ≡ reverse m' ++ f ∷ [] = sym front ∙ reverse_cons f m' in
    let there = travel_between pre m' m'' post f l e in
    let turned = travel_between pre (reverse m'') (reverse m') post l f back in
    let same : travel_of (pre ++ (reverse (f ∷ m') ++ post)) ≡ travel_of (pre ++ ((l ∷ reverse m'') ++ post)) = ap (λ (x : List Point). travel_of (pre ++ (x ++ post))) front in
    let middle : travel_of (l ∷ reverse m'') ≡ travel_of (f ∷ m') = sym (ap travel_of front) ∙ travel_reversed (f ∷ m') in
    omega (arith, there, turned, same, middle)
