-- Copies of a block.
use Rattle.std.proofs.Common.{◌≡◌, ℕ, zero, suc, ◌+◌, ◌*◌, ◌-◌, ◌<◌, ◌≤◌, ℤ, pos, ◌+ℤ◌, List, [], ◌∷◌, ◌++◌, length, map, Bool, true, false, not, ◌&&◌, ◌||◌, refl, ap, sym, ◌∙◌, arith, append_assoc, length-append, nat_le, get_or}
use Rattle.std.specs.List.{list_any, flat_map, range_with_len}
use Rattle.std.proofs.lemmas.List.Folds.{list_any-append}
use Rattle.std.proofs.lemmas.List.{length-map}
use Rattle.std.proofs.Math.Nat.{mul-le-mul_right}
use Rattle.std.proofs.lemmas.Grind.{common_steps}
use Rattle.std.proofs.lemmas.Int.{ints}
use Rattle.number_laws.proofs.Tests.{by_bool}
use Rattle.plane_arcs.specs.Turned.{in_range, is_far}
use Rattle.board_base.specs.declared.places.Point.{Point}
use Rattle.shape_parts.specs.declared.shape.Part.{Part}
use Rattle.shape_parts.specs.declared.shape.Part.TheVariants.{Disc, Capsule, Area}
use Rattle.shape_parts.specs.declared.shape.Piece.{Piece}
use Rattle.apertures.specs.Defined.{at}
use Rattle.gerber_image.specs.Image.{shifted_point, shifted_part, shifted_piece, shifted, copy, copies_of}
use Rattle.gerber_image.specs.Checks.{part_leaves, piece_leaves, is_outside}
use Rattle.gerber_image.specs.Copies.{AreInside}
use Rattle.gerber_image.specs.declared.repeat.Repeat.{Repeat}
use Rattle.shape_parts.specs.declared.shape.Painted.{Painted}

pub or_false : (a b : Bool) → (a || b) ≡ false → (a ≡ false) × (b ≡ false)
or_false false b e = (refl, e)
or_false true b e = absurd (grind (arith, e))

-- one number more
pub range_more : {A : Type 0} (f : ℕ → List A) (a n : ℕ) → flat_map f (range_with_len a (n + 1)) ≡ flat_map f (range_with_len a n) ++ f (a + n)
range_more f a zero = grind (arith, common_steps)
range_more f a (suc n) =
    let more : flat_map f (range_with_len (a + 1) (n + 1)) ≡ flat_map f (range_with_len (a + 1) n) ++ f (a + 1 + n) = range_more f (a + 1) n in
    let same : a + 1 + n ≡ a + suc n = omega arith in
    let next : suc n + 1 ≡ suc (n + 1) = omega arith in
    ap (λ k. flat_map f (range_with_len a k)) next
    ∙ ap (λ l. f a ++ l) (more ∙ ap (λ k. flat_map f (range_with_len (a + 1) n) ++ f k) same)
    ∙ sym (append_assoc (f a) (flat_map f (range_with_len (a + 1) n)) (f (a + suc n)))

-- a test that fails for all copies fails for each
pub none_each : {A : Type 0} (p : A → Bool) (f : ℕ → List A) (a n : ℕ) → list_any p (flat_map f (range_with_len a n)) ≡ false → (i : ℕ) → a ≤ i → i < a + n → list_any p (f i) ≡ false
none_each p f a zero e i low high = absurd (omega arith)
none_each p f a (suc n) e i low high =
    let both = or_false (list_any p (f a)) (list_any p (flat_map f (range_with_len (a + 1) n))) (sym (list_any-append p (f a) (flat_map f (range_with_len (a + 1) n))) ∙ e) in
    by_bool (nat_le i a)
    (λ t. let same : i ≡ a = grind (arith, t, low) in rw same both.0)
    (λ t. none_each p f (a + 1) n both.1 i (grind (arith, t)) (omega (arith, high)))

pub each_none : {A : Type 0} (p : A → Bool) (f : ℕ → List A) (a n : ℕ) → ((i : ℕ) → a ≤ i → i < a + n → list_any p (f i) ≡ false) → list_any p (flat_map f (range_with_len a n)) ≡ false
each_none p f a zero each = refl
each_none p f a (suc n) each =
    list_any-append p (f a) (flat_map f (range_with_len (a + 1) n))
    ∙ rw (each a (omega arith) (omega arith)) (each_none p f (a + 1) n (λ i low high. each i (omega (arith, low)) (omega (arith, high))))

pub are_inside : (r : Repeat) (block : List Painted) → list_any is_outside (copies_of r block) ≡ false → AreInside r block
are_inside r block e i j hi hj =
    none_each is_outside (copy r block i) 0 r.rows
    (none_each is_outside (λ i. flat_map (copy r block i) (range_with_len 0 r.rows)) 0 r.columns e i (omega arith) (omega (arith, hi)))
    j (omega arith) (omega (arith, hj))

pub from_inside : (r : Repeat) (block : List Painted) → AreInside r block → list_any is_outside (copies_of r block) ≡ false
from_inside r block e =
    each_none is_outside (λ i. flat_map (copy r block i) (range_with_len 0 r.rows)) 0 r.columns
    (λ i low high. each_none is_outside (copy r block i) 0 r.rows (λ j jlow jhigh. e i j (omega (arith, high)) (omega (arith, jhigh))))

-- between two places in the range
in_between : (x : ℤ) (m n : ℕ) → m ≤ n → in_range (x +ℤ pos 0) ≡ true → in_range (x +ℤ pos n) ≡ true → in_range (x +ℤ pos m) ≡ true
unfolding in_range
in_between x m n h a b = grind (arith, ints, h, a, b)

and_true : (a b : Bool) → (a && b) ≡ true → (a ≡ true) × (b ≡ true)
and_true true b e = (refl, e)
and_true false b e = absurd (grind (arith, e))

not_false : (b : Bool) → not b ≡ false → b ≡ true
not_false true e = refl
not_false false e = sym e

far_false : (x y : ℤ) → is_far (at x y) ≡ false → (in_range x ≡ true) × (in_range y ≡ true)
far_false x y e = and_true (in_range x) (in_range y) (not_false (in_range x && in_range y) e)

point_between : (p : Point) (m n i j : ℕ) → i ≤ m → j ≤ n → is_far (at (p.x +ℤ pos 0) (p.y +ℤ pos 0)) ≡ false → is_far (at (p.x +ℤ pos m) (p.y +ℤ pos n)) ≡ false
    → is_far (at (p.x +ℤ pos i) (p.y +ℤ pos j)) ≡ false
point_between p m n i j hi hj a b =
    let u = far_false (p.x +ℤ pos 0) (p.y +ℤ pos 0) a in
    let v = far_false (p.x +ℤ pos m) (p.y +ℤ pos n) b in
    rw (in_between p.x i m hi u.0 v.0, in_between p.y j n hj u.1 v.1) refl

-- what no member passes with two changes it passes with none between them
any_between : {A B : Type 0} (p : B → Bool) (f g h : A → B) → ((a : A) → p (f a) ≡ false → p (g a) ≡ false → p (h a) ≡ false)
    → (xs : List A) → list_any p (map f xs) ≡ false → list_any p (map g xs) ≡ false → list_any p (map h xs) ≡ false
any_between p f g h each [] a b = refl
any_between p f g h each (x ∷ xs) a b =
    let u = or_false (p (f x)) (list_any p (map f xs)) a in
    let v = or_false (p (g x)) (list_any p (map g xs)) b in
    rw (each x u.0 v.0) (any_between p f g h each xs u.1 v.1)

part_between : (p : Part) (m n i j : ℕ) → i ≤ m → j ≤ n → part_leaves (shifted_part (pos 0) (pos 0) p) ≡ false → part_leaves (shifted_part (pos m) (pos n) p) ≡ false
    → part_leaves (shifted_part (pos i) (pos j) p) ≡ false
part_between (Disc c d) m n i j hi hj a b = point_between c m n i j hi hj a b
part_between (Capsule p q d) m n i j hi hj a b =
    let u = or_false (is_far (at (p.x +ℤ pos 0) (p.y +ℤ pos 0))) (is_far (at (q.x +ℤ pos 0) (q.y +ℤ pos 0))) a in
    let v = or_false (is_far (at (p.x +ℤ pos m) (p.y +ℤ pos n))) (is_far (at (q.x +ℤ pos m) (q.y +ℤ pos n))) b in
    rw (point_between p m n i j hi hj u.0 v.0, point_between q m n i j hi hj u.1 v.1) refl
part_between (Area loops) m n i j hi hj a b =
    any_between (list_any is_far) (map (shifted_point (pos 0) (pos 0))) (map (shifted_point (pos m) (pos n))) (map (shifted_point (pos i) (pos j)))
    (any_between is_far (shifted_point (pos 0) (pos 0)) (shifted_point (pos m) (pos n)) (shifted_point (pos i) (pos j)) (λ p u v. point_between p m n i j hi hj u v))
    loops a b

piece_between : (m n i j : ℕ) → i ≤ m → j ≤ n → (p : Piece) → piece_leaves (shifted_piece (pos 0) (pos 0) p) ≡ false → piece_leaves (shifted_piece (pos m) (pos n) p) ≡ false
    → piece_leaves (shifted_piece (pos i) (pos j) p) ≡ false
piece_between m n i j hi hj p a b = part_between p.part m n i j hi hj a b

object_between : (m n i j : ℕ) → i ≤ m → j ≤ n → (p : Painted) → is_outside (shifted (pos 0) (pos 0) p) ≡ false → is_outside (shifted (pos m) (pos n) p) ≡ false
    → is_outside (shifted (pos i) (pos j) p) ≡ false
object_between m n i j hi hj p a b =
    any_between piece_leaves (shifted_piece (pos 0) (pos 0)) (shifted_piece (pos m) (pos n)) (shifted_piece (pos i) (pos j)) (piece_between m n i j hi hj) p.shape a b

pub all_between : (block : List Painted) (m n i j : ℕ) → i ≤ m → j ≤ n → list_any is_outside (map (shifted (pos 0) (pos 0)) block) ≡ false → list_any is_outside (map (shifted (pos m) (pos n)) block) ≡ false
    → list_any is_outside (map (shifted (pos i) (pos j)) block) ≡ false
all_between block m n i j hi hj a b =
    any_between is_outside (shifted (pos 0) (pos 0)) (shifted (pos m) (pos n)) (shifted (pos i) (pos j)) (object_between m n i j hi hj) block a b

-- how many copies there are
length_more : {A : Type 0} (f : ℕ → List A) (a n k : ℕ) → ((i : ℕ) → length (f i) ≡ k) → length (flat_map f (range_with_len a n)) ≡ n * k
length_more f a zero k each = omega arith
length_more f a (suc n) k each = length-append (f a) (flat_map f (range_with_len (a + 1) n)) ∙ omega (arith, each a, length_more f (a + 1) n k each)

pub length_copies : (r : Repeat) (block : List Painted) → length (copies_of r block) ≡ r.columns * (r.rows * length block)
length_copies r block = length_more _ 0 r.columns (r.rows * length block) (λ i. length_more (copy r block i) 0 r.rows (length block) (λ j. length-map block (shifted (pos (i * r.dx)) (pos (j * r.dy)))))

times_le : (i m d : ℕ) → i ≤ m → i * d ≤ m * d
times_le i m d h = mul-le-mul_right d h

-- the first copy and the last one tell for all
pub one_leaves : (r : Repeat) (block : List Painted) (i j m n : ℕ) → i < r.columns → j < r.rows → m ≡ i * r.dx → n ≡ j * r.dy → list_any is_outside (map (shifted (pos m) (pos n)) block) ≡ true → true ≡ list_any is_outside (copies_of r block)
one_leaves r block i j m n hi hj em en e = by_bool (list_any is_outside (copies_of r block))
    (λ t. sym t)
    (λ f.
    let g : list_any is_outside (map (shifted (pos m) (pos n)) block) ≡ false = rw (em, en) (are_inside r block f i j hi hj) in
    absurd (grind (arith, e, g)))

pub none_leaves : (r : Repeat) (block : List Painted) → 0 < r.columns → 0 < r.rows → list_any is_outside (map (shifted (pos 0) (pos 0)) block) ≡ false
    → list_any is_outside (map (shifted (pos ((r.columns - 1) * r.dx)) (pos ((r.rows - 1) * r.dy))) block) ≡ false → false ≡ list_any is_outside (copies_of r block)
none_leaves r block hc hr a b = sym (from_inside r block (λ i j hi hj. all_between block ((r.columns - 1) * r.dx) ((r.rows - 1) * r.dy) (i * r.dx) (j * r.dy) (times_le i (r.columns - 1) r.dx (omega (arith, hi))) (times_le j (r.rows - 1) r.dy (omega (arith, hj))) a b))

-- what the two tests say
pub two_leave : (r : Repeat) (block : List Painted) (first last : Bool) → 0 < r.columns → 0 < r.rows → first ≡ list_any is_outside (map (shifted (pos 0) (pos 0)) block)
    → last ≡ list_any is_outside (map (shifted (pos ((r.columns - 1) * r.dx)) (pos ((r.rows - 1) * r.dy))) block) → (first || last) ≡ list_any is_outside (copies_of r block)
two_leave r block true last hc hr a b = one_leaves r block 0 0 0 0 hc hr (omega arith) (omega arith) (sym a)
two_leave r block false true hc hr a b = one_leaves r block (r.columns - 1) (r.rows - 1) _ _ (omega (arith, hc)) (omega (arith, hr)) refl refl (sym b)
two_leave r block false false hc hr a b = none_leaves r block hc hr (sym a) (sym b)

-- one copy more
pub pushed : {A : Type 0} (f : ℕ → List A) (n : ℕ) (start old new : List A) → old ≡ start ++ flat_map f (range_with_len 0 n) → new ≡ old ++ f n → new ≡ start ++ flat_map f (range_with_len 0 (n + 1))
pushed f n start old new e g =
    let zero_more : 0 + n ≡ n = omega arith in
    let more : flat_map f (range_with_len 0 (n + 1)) ≡ flat_map f (range_with_len 0 n) ++ f n = range_more f 0 n ∙ ap (λ k. flat_map f (range_with_len 0 n) ++ f k) zero_more in
    g ∙ ap (λ l. l ++ f n) e ∙ append_assoc start (flat_map f (range_with_len 0 n)) (f n) ∙ ap (λ l. start ++ l) (sym more)

-- none fails, so this one doesn't
pub not_this : {A B : Type 0} (p : B → Bool) (f : A → B) (xs : List A) (i : ℕ) (d : A) → i < length xs → list_any p (map f xs) ≡ false → p (f (get_or xs i d)) ≡ false
not_this p f [] i d h e = absurd (omega (arith, h))
not_this p f (x ∷ xs) zero d h e = (or_false (p (f x)) (list_any p (map f xs)) e).0
not_this p f (x ∷ xs) (suc i) d h e = not_this p f xs i d (omega (arith, h)) (or_false (p (f x)) (list_any p (map f xs)) e).1
