-- The quarter in which an arc ends.
use Rattle.std.proofs.Common.{◌≡◌, refl, zero, suc, ℤ, pos, negsuc, neg_ℤ, ◌+ℤ◌, ◌-ℤ◌, ◌*ℤ◌, ◌≤ℤ◌, ◌<ℤ◌, int_le, int_lt, Bool, true, false, ◌&&◌, [], ◌∷◌, arith, ap, sym, ◌∙◌}
use Rattle.std.specs.Prelude.{if◌then◌else◌}
use borrow.Author.Differences.{ints}
use Rattle.std.proofs.lemmas.Grind.{common_steps}
use Rattle.number_laws.proofs.Laws.{mul_zero}
use Rattle.number_laws.proofs.Order.{square_nonneg, cancel}
use Rattle.number_laws.proofs.Ring.{Ex, var, add, sub, mul, neg, ring}
use Rattle.number_laws.proofs.Tests.{of_le}
use Rattle.std.proofs.lemmas.Bool.{false≢true}
use Rattle.std.proofs.lemmas.Int.{by_lt_z}
use Rattle.std.specs.Ordering.{int_eq}
use Rattle.board_base.specs.declared.places.Point.{Point}
use Rattle.plane_arcs.specs.Vectors.{is_zero, dot, cross, quarter_on, turned, ends_in, last_quarter}

-- which side of q, seen in this direction, v lies on
abbrev side : Bool → Point → Point → ℤ
side ccw q v = if ccw then cross q v else neg_ℤ (cross q v)

-- v lies past q by at most a quarter, by the two products alone
abbrev in_quarter : ℤ → ℤ → Bool
in_quarter along beside = int_le (pos 0) along && int_lt (pos 0) beside

turned_test : (c : ℤ) → int_lt c (pos 0) ≡ int_lt (pos 0) (neg_ℤ c)
turned_test (pos zero) = refl
turned_test (pos (suc n)) = grind (arith, common_steps)
turned_test (negsuc n) = grind (arith, common_steps)

ends_by : (ccw : Bool) (q v : Point) → ends_in ccw q v ≡ in_quarter (dot q v) (side ccw q v)
unfolding ends_in
ends_by true q v = refl
ends_by false q v = ap (λ b. int_le (pos 0) (dot q v) && b) (turned_test (cross q v))

-- a quarter on, the two products change places
dot_on : (ccw : Bool) (q v : Point) → dot (quarter_on ccw q) v ≡ side ccw q v
unfolding dot cross quarter_on
dot_on true q v =
    let X = var 0 in let Y = var 1 in let P = var 2 in let Q = var 3 in
    ring (q.x ∷ q.y ∷ v.x ∷ v.y ∷ []) (add (mul (neg Y) P) (mul X Q)) (sub (mul X Q) (mul Y P)) refl
dot_on false q v =
    let X = var 0 in let Y = var 1 in let P = var 2 in let Q = var 3 in
    ring (q.x ∷ q.y ∷ v.x ∷ v.y ∷ []) (add (mul Y P) (mul (neg X) Q)) (neg (sub (mul X Q) (mul Y P))) refl

side_on : (ccw : Bool) (q v : Point) → side ccw (quarter_on ccw q) v ≡ neg_ℤ (dot q v)
unfolding dot cross quarter_on
side_on true q v =
    let X = var 0 in let Y = var 1 in let P = var 2 in let Q = var 3 in
    ring (q.x ∷ q.y ∷ v.x ∷ v.y ∷ []) (sub (mul (neg Y) Q) (mul X P)) (neg (add (mul X P) (mul Y Q))) refl
side_on false q v =
    let X = var 0 in let Y = var 1 in let P = var 2 in let Q = var 3 in
    ring (q.x ∷ q.y ∷ v.x ∷ v.y ∷ []) (neg (sub (mul Y Q) (mul (neg X) P))) (neg (add (mul X P) (mul Y Q))) refl

-- a vector that a quarter holds
holds : (d s : ℤ) → pos 0 ≤ℤ d → pos 0 <ℤ s → in_quarter d s ≡ true
holds d s h k = rw (along, beside)
  where
    along : int_le (pos 0) d ≡ true
    along = of_le (pos 0) d h

    beside : int_lt (pos 0) s ≡ true
    beside = sym (omega (arith, ints))

never : (d s : ℤ) → in_quarter d s ≡ false → pos 0 ≤ℤ d → pos 0 <ℤ s → ⊥
never d s e h k = false≢true (sym e ∙ holds d s h k)

-- one of the four quarters holds each
one_of_four : (d s : ℤ) → (d ≡ pos 0 → s ≡ pos 0 → ⊥)
    → in_quarter d s ≡ false → in_quarter s (neg_ℤ d) ≡ false → in_quarter (neg_ℤ d) (neg_ℤ s) ≡ false → in_quarter (neg_ℤ s) (neg_ℤ (neg_ℤ d)) ≡ true
one_of_four d s some first second third =
    by_lt_z d (pos 0)
    (λ (less : d <ℤ pos 0). by_lt_z s (pos 0)
    (λ (low : s <ℤ pos 0). absurd (never (neg_ℤ d) (neg_ℤ s) third (omega (arith, ints)) (omega (arith, ints))))
    (λ (up : pos 0 ≤ℤ s). absurd (never s (neg_ℤ d) second up (omega (arith, ints)))))
    (λ (more : pos 0 ≤ℤ d). by_lt_z (pos 0) s
    (λ (up : pos 0 <ℤ s). absurd (never d s first more up))
    (λ (low : s ≤ℤ pos 0). by_lt_z (pos 0) d
    (λ (above : pos 0 <ℤ d). holds (neg_ℤ s) (neg_ℤ (neg_ℤ d)) (omega (arith, ints)) (omega (arith, ints)))
    (λ (none : d ≤ℤ pos 0). by_lt_z s (pos 0)
    (λ (less : s <ℤ pos 0). absurd (never (neg_ℤ d) (neg_ℤ s) third (omega (arith, ints)) (omega (arith, ints))))
    (λ (not_less : pos 0 ≤ℤ s). absurd (some (omega (arith, ints)) (omega (arith, ints)))))))

-- a square that isn't nothing
some_square : (x : ℤ) → int_eq x (pos 0) ≡ false → pos 0 <ℤ (x *ℤ x)
some_square (pos zero) e = absurd cc
some_square (pos (suc n)) e = omega (arith, ints)
some_square (negsuc n) e = omega (arith, ints)

some_length : (x y : ℤ) (a b : Bool) → int_eq x (pos 0) ≡ a → int_eq y (pos 0) ≡ b → (a && b) ≡ false → pos 0 <ℤ (x *ℤ x +ℤ y *ℤ y)
some_length x y true true h k e = absurd cc
some_length x y false b h k e = sum_right (x *ℤ x) (y *ℤ y) (some_square x h) (square_nonneg y)
  where
    sum_right : (a b : ℤ) → pos 0 <ℤ a → pos 0 ≤ℤ b → pos 0 <ℤ (a +ℤ b)
    sum_right a b h k = omega (arith, ints)
some_length x y true false h k e = sum_left (x *ℤ x) (y *ℤ y) (square_nonneg x) (some_square y k)
  where
    sum_left : (a b : ℤ) → pos 0 ≤ℤ a → pos 0 <ℤ b → pos 0 <ℤ (a +ℤ b)
    sum_left a b h k = omega (arith, ints)

-- a factor of nothing beside one that isn't nothing
no_factor : (n p : ℤ) → pos 0 <ℤ n → n *ℤ p ≡ pos 0 → p ≡ pos 0
no_factor n p h e =
    let none = e ∙ sym (mul_zero n) in
    let low = cancel n p (pos 0) h (same (n *ℤ p) (n *ℤ pos 0) none) in
    let high = cancel n (pos 0) p h (same (n *ℤ pos 0) (n *ℤ p) (sym none)) in
    omega (arith, ints)
  where
    same : (a b : ℤ) → a ≡ b → a ≤ℤ b
    same a b e = omega (arith, ints)

-- two vectors both of whose products are nothing
no_length : (u v : Point) → dot u v ≡ pos 0 → cross u v ≡ pos 0 → is_zero u ≡ false → is_zero v ≡ false → ⊥
unfolding dot cross
no_length u v d c some other =
    let n : ℤ = u.x *ℤ u.x +ℤ u.y *ℤ u.y in
    let above : pos 0 <ℤ n = some_length u.x u.y (int_eq u.x (pos 0)) (int_eq u.y (pos 0)) refl refl some in
    let first : n *ℤ v.x ≡ u.x *ℤ (u.x *ℤ v.x +ℤ u.y *ℤ v.y) -ℤ u.y *ℤ (u.x *ℤ v.y -ℤ u.y *ℤ v.x) =
    ring (u.x ∷ u.y ∷ v.x ∷ v.y ∷ []) (mul (add (mul X X) (mul Y Y)) P) (sub (mul X (add (mul X P) (mul Y Q))) (mul Y (sub (mul X Q) (mul Y P)))) refl in
    let second : n *ℤ v.y ≡ u.y *ℤ (u.x *ℤ v.x +ℤ u.y *ℤ v.y) +ℤ u.x *ℤ (u.x *ℤ v.y -ℤ u.y *ℤ v.x) =
    ring (u.x ∷ u.y ∷ v.x ∷ v.y ∷ []) (mul (add (mul X X) (mul Y Y)) Q) (add (mul Y (add (mul X P) (mul Y Q))) (mul X (sub (mul X Q) (mul Y P)))) refl in
    let x = no_factor n v.x above (first ∙ nothing u.x u.y (u.x *ℤ v.x +ℤ u.y *ℤ v.y) (u.x *ℤ v.y -ℤ u.y *ℤ v.x) d c) in
    let y = no_factor n v.y above (second ∙ nothing_more u.y u.x (u.x *ℤ v.x +ℤ u.y *ℤ v.y) (u.x *ℤ v.y -ℤ u.y *ℤ v.x) d c) in
    false≢true (sym other ∙ zero_is v.x v.y x y)
  where
    X : Ex
    X = var 0

    Y : Ex
    Y = var 1

    P : Ex
    P = var 2

    Q : Ex
    Q = var 3

    nothing : (x y d c : ℤ) → d ≡ pos 0 → c ≡ pos 0 → x *ℤ d -ℤ y *ℤ c ≡ pos 0
    nothing x y d c h k = rw (h, k, mul_zero x, mul_zero y)

    nothing_more : (x y d c : ℤ) → d ≡ pos 0 → c ≡ pos 0 → x *ℤ d +ℤ y *ℤ c ≡ pos 0
    nothing_more x y d c h k = rw (h, k, mul_zero x, mul_zero y)

    zero_is : (x y : ℤ) → x ≡ pos 0 → y ≡ pos 0 → (int_eq x (pos 0) && int_eq y (pos 0)) ≡ true
    zero_is x y h k = rw (h, k)

no_side : (ccw : Bool) (u v : Point) → side ccw u v ≡ pos 0 → cross u v ≡ pos 0
no_side true u v e = e
no_side false u v e = omega (arith, ints)

-- the last quarter, by the tests of the first three
last_is : (ccw : Bool) (u v : Point) → is_zero u ≡ false → is_zero v ≡ false → (a b c : Bool)
    → ends_in ccw u v ≡ a → ends_in ccw (turned 1 ccw u) v ≡ b → ends_in ccw (turned 2 ccw u) v ≡ c
    → ends_in ccw (turned (if a then 0 else if b then 1 else if c then 2 else 3) ccw u) v ≡ true
last_is ccw u v some other true b c x y z = x
last_is ccw u v some other false true c x y z = y
last_is ccw u v some other false false true x y z = z
last_is ccw u v some other false false false x y z =
    let d1 = dot_on ccw u v in
    let s1 = side_on ccw u v in
    let d2 : dot (turned 2 ccw u) v ≡ neg_ℤ (dot u v) = dot_on ccw (turned 1 ccw u) v ∙ s1 in
    let s2 : side ccw (turned 2 ccw u) v ≡ neg_ℤ (side ccw u v) = side_on ccw (turned 1 ccw u) v ∙ ap neg_ℤ d1 in
    let d3 : dot (turned 3 ccw u) v ≡ neg_ℤ (side ccw u v) = dot_on ccw (turned 2 ccw u) v ∙ s2 in
    let s3 : side ccw (turned 3 ccw u) v ≡ neg_ℤ (neg_ℤ (dot u v)) = side_on ccw (turned 2 ccw u) v ∙ ap neg_ℤ d2 in
    ends_by ccw (turned 3 ccw u) v ∙ same d3 s3
    ∙ one_of_four (dot u v) (side ccw u v) (λ d s. no_length u v d (no_side ccw u v s) some other)
    (sym (ends_by ccw u v) ∙ x)
    (sym (same d1 s1) ∙ sym (ends_by ccw (turned 1 ccw u) v) ∙ y)
    (sym (same d2 s2) ∙ sym (ends_by ccw (turned 2 ccw u) v) ∙ z)
  where
    same : {a b c d : ℤ} → a ≡ c → b ≡ d → in_quarter a b ≡ in_quarter c d
    same e f = rw (e, f)

pub quarter_holds : (ccw : Bool) (u v : Point) → is_zero u ≡ false → is_zero v ≡ false → ends_in ccw (turned (last_quarter ccw u v) ccw u) v ≡ true
unfolding last_quarter
quarter_holds ccw u v some other = last_is ccw u v some other (ends_in ccw u v) (ends_in ccw (turned 1 ccw u) v) (ends_in ccw (turned 2 ccw u) v) refl refl refl
