-- Points that are one, and points by their ranks.
use Rattle.std.proofs.Common.{◌≡◌, ℕ, ◌+◌, ◌*◌, ◌/◌, ◌%◌, ◌<◌, ℤ, pos, neg_ℤ, ◌+ℤ◌, ◌-ℤ◌, ◌≤ℤ◌, unsigned_abs, Bool, true, false, ◌&&◌, ◌||◌, ◌⊎◌, inl, inr, refl, ap, ◌∙◌, subst, arith}
use Rattle.std.specs.Ordering.{int_eq}
use Rattle.std.proofs.lemmas.Bool.{and_parts, and_from, or_cases, or_left, or_right}
use Rattle.std.proofs.lemmas.Bool.Decides.{Decides-int_eq}
use borrow.Author.Differences.{ints}
use Rattle.board_base.specs.declared.places.Point.{Point}
use Rattle.board_base.specs.Places.{IsPlace}
use Rattle.outline_loops.specs.Segments.{is_same, are_ends}
use Rattle.outline_loops.specs.Ways.{rank_of, place_of, way_of, from_of, to_of, back_of}

-- ---- one point

same_record : (p q : Point) → p.x ≡ q.x → p.y ≡ q.y → p ≡ q
same_record p q e f = λ t. record { x = e t; y = f t }

pub same_point : (p q : Point) → is_same p q ≡ true → p ≡ q
unfolding is_same
same_point p q e =
    let both = and_parts (int_eq p.x q.x) (int_eq p.y q.y) e in
    same_record p q ((Decides-int_eq p.x q.x).0 both.0) ((Decides-int_eq p.y q.y).0 both.1)

pub itself : (p : Point) → is_same p p ≡ true
unfolding is_same
itself p = and_from (int_eq p.x p.x) (int_eq p.y p.y) ((Decides-int_eq p.x p.x).1 refl) ((Decides-int_eq p.y p.y).1 refl)

pub point_same : (p q : Point) → p ≡ q → is_same p q ≡ true
point_same p q e = subst (λ r. is_same p r ≡ true) e (itself p)

-- ---- the ends of a line

pub ends_are : (a b u v : Point) → are_ends a b u v ≡ true → ((a ≡ u) × (b ≡ v)) ⊎ ((a ≡ v) × (b ≡ u))
unfolding are_ends
ends_are a b u v e = by (or_cases (is_same a u && is_same b v) (is_same a v && is_same b u) e)
  where
    by : ((is_same a u && is_same b v) ≡ true) ⊎ ((is_same a v && is_same b u) ≡ true) → ((a ≡ u) × (b ≡ v)) ⊎ ((a ≡ v) × (b ≡ u))
    by (inl f) = let both = and_parts (is_same a u) (is_same b v) f in inl (same_point a u both.0, same_point b v both.1)
    by (inr f) = let both = and_parts (is_same a v) (is_same b u) f in inr (same_point a v both.0, same_point b u both.1)

pub are_there : (a b : Point) → are_ends a b a b ≡ true
unfolding are_ends
are_there a b = or_left (is_same a a && is_same b b) (is_same a b && is_same b a) (and_from (is_same a a) (is_same b b) (itself a) (itself b))

pub are_back : (a b : Point) → are_ends a b b a ≡ true
unfolding are_ends
are_back a b = or_right (is_same a b && is_same b a) (is_same a a && is_same b b) (and_from (is_same a a) (is_same b b) (itself a) (itself b))

-- ---- ranks

shift : (z : ℤ) → neg_ℤ (pos 500000000) ≤ℤ z → pos (unsigned_abs (z +ℤ pos 500000000)) -ℤ pos 500000000 ≡ z
shift z h = omega (arith, ints)

low : (z : ℤ) → neg_ℤ (pos 500000000) ≤ℤ z → z ≤ℤ pos 500000000 → unsigned_abs (z +ℤ pos 500000000) < 1073741824
low z h k = omega (arith, ints)

quotient : (a b : ℕ) → b < 1073741824 → (a * 1073741824 + b) / 1073741824 ≡ a
quotient a b h = omega arith

remainder : (a b : ℕ) → b < 1073741824 → (a * 1073741824 + b) % 1073741824 ≡ b
remainder a b h = omega arith

-- the rank of a place gives it back
pub placed : (p : Point) → IsPlace p → place_of (rank_of p) ≡ p
unfolding place_of rank_of
placed p place =
    let row : ℕ = unsigned_abs (p.y +ℤ pos 500000000) in
    let column : ℕ = unsigned_abs (p.x +ℤ pos 500000000) in
    let small : column < 1073741824 = low p.x (place.x).low (place.x).high in
    same_record (place_of (rank_of p)) p
    (ap (λ (n : ℕ). pos n -ℤ pos 500000000) (remainder row column small) ∙ shift p.x (place.x).low)
    (ap (λ (n : ℕ). pos n -ℤ pos 500000000) (quotient row column small) ∙ shift p.y (place.y).low)

pub rank_small : (p : Point) → IsPlace p → rank_of p < 1152921504606846976
unfolding rank_of
rank_small p place = by (unsigned_abs (p.y +ℤ pos 500000000)) (unsigned_abs (p.x +ℤ pos 500000000)) (low p.y (place.y).low (place.y).high) (low p.x (place.x).low (place.x).high)
  where
    by : (a b : ℕ) → a < 1073741824 → b < 1073741824 → a * 1073741824 + b < 1152921504606846976
    by a b h k = omega arith

-- points of one rank alone are one
pub one_rank : (m n : ℕ) → place_of m ≡ place_of n → m ≡ n
unfolding place_of
one_rank m n e = by m n (ap (λ (p : Point). p.x) e) (ap (λ (p : Point). p.y) e)
  where
    by : (m n : ℕ) → pos (m % 1073741824) -ℤ pos 500000000 ≡ pos (n % 1073741824) -ℤ pos 500000000 → pos (m / 1073741824) -ℤ pos 500000000 ≡ pos (n / 1073741824) -ℤ pos 500000000 → m ≡ n
    by m n e f = omega (arith, ints)

-- ---- ways

way_front : (a b : ℕ) → b < 1152921504606846976 → (a * 1152921504606846976 + b) / 1152921504606846976 ≡ a
way_front a b h = omega arith

way_back : (a b : ℕ) → b < 1152921504606846976 → (a * 1152921504606846976 + b) % 1152921504606846976 ≡ b
way_back a b h = omega arith

pub way_from : (a b : Point) → IsPlace a → IsPlace b → from_of (way_of a b) ≡ a
unfolding from_of way_of
way_from a b pa pb = ap place_of (way_front (rank_of a) (rank_of b) (rank_small b pb)) ∙ placed a pa

pub way_to : (a b : Point) → IsPlace a → IsPlace b → to_of (way_of a b) ≡ b
unfolding to_of way_of
way_to a b pa pb = ap place_of (way_back (rank_of a) (rank_of b) (rank_small b pb)) ∙ placed b pb

pub way_small : (a b : Point) → IsPlace a → IsPlace b → way_of a b < 1329227995784915872903807060280344576
unfolding way_of
way_small a b pa pb = by (rank_of a) (rank_of b) (rank_small a pa) (rank_small b pb)
  where
    by : (a b : ℕ) → a < 1152921504606846976 → b < 1152921504606846976 → a * 1152921504606846976 + b < 1329227995784915872903807060280344576
    by a b h k = omega arith

-- ways with the same ends are one
pub one_way : (v w : ℕ) → from_of v ≡ from_of w → to_of v ≡ to_of w → v ≡ w
unfolding from_of to_of
one_way v w e f = by v w (one_rank (v / 1152921504606846976) (w / 1152921504606846976) e) (one_rank (v % 1152921504606846976) (w % 1152921504606846976) f)
  where
    by : (v w : ℕ) → v / 1152921504606846976 ≡ w / 1152921504606846976 → v % 1152921504606846976 ≡ w % 1152921504606846976 → v ≡ w
    by v w e f = omega arith

-- the way back leads the other way
pub back_from : (w : ℕ) → w < 1329227995784915872903807060280344576 → from_of (back_of w) ≡ to_of w
unfolding from_of to_of back_of
back_from w small = ap place_of (way_front (w % 1152921504606846976) (w / 1152921504606846976) (by w small))
  where
    by : (w : ℕ) → w < 1329227995784915872903807060280344576 → w / 1152921504606846976 < 1152921504606846976
    by w h = omega arith

pub back_to : (w : ℕ) → w < 1329227995784915872903807060280344576 → to_of (back_of w) ≡ from_of w
unfolding from_of to_of back_of
back_to w small = ap place_of (way_back (w % 1152921504606846976) (w / 1152921504606846976) (by w small))
  where
    by : (w : ℕ) → w < 1329227995784915872903807060280344576 → w / 1152921504606846976 < 1152921504606846976
    by w h = omega arith
