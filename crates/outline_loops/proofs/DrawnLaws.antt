-- The ways along drawn lines are the segments.
use Rattle.std.proofs.Common.{◌≡◌, ℕ, zero, suc, ◌<◌, Bool, true, false, not, cond, ◌&&◌, ◌||◌, ◌⊎◌, inl, inr, List, [], ◌∷◌, ◌++◌, length, get_or, refl, sym, ap, ◌∙◌, subst, arith}
use Rattle.std.specs.List.{All, Contains, list_any, flat_map}
use Rattle.std.proofs.lemmas.Bool.{and_parts, and_from}
use Rattle.std.proofs.lemmas.List.Elements.{All-contains, Contains-append_left, Contains-append_right}
use Rattle.std.proofs.lemmas.List.Folds.{Any-from_list_any, list_any-from_Any}
use Rattle.board_base.specs.declared.places.Point.{Point}
use Rattle.board_base.specs.Places.{IsPlace}
use Rattle.shape_parts.specs.declared.shape.Part.{Part}
use Rattle.shape_parts.specs.declared.shape.Part.TheVariants.{Disc, Capsule, Area}
use Rattle.shape_parts.specs.declared.shape.Piece.{Piece}
use Rattle.shape_parts.specs.declared.shape.Painted.{Painted}
use Rattle.shape_parts.specs.Parts.{IsPart, IsPiece}
use Rattle.outline_loops.specs.Segments.{is_same, are_ends, is_line, is_drawn, is_segment}
use Rattle.outline_loops.specs.Ways.{way_of, from_of, to_of, line_ways, part_ways, piece_ways, object_ways, drawn_ways, HasParts, AreWays}
use Rattle.outline_loops.proofs.PointLaws.{same_point, point_same, ends_are, are_there, way_from, way_to, way_small}

-- ---- lists of lists

Contains-here : {X : Type 0} (x : X) (xs : List X) → Contains (x ∷ xs) x
Contains-here x xs = (0, omega arith, refl)

in_append : {X : Type 0} (xs ys : List X) (x : X) → Contains (xs ++ ys) x → Contains xs x ⊎ Contains ys x
in_append [] ys x there = inr there
in_append (y ∷ xs) ys x (zero, inside, here) = inl (0, omega arith, here)
in_append (y ∷ xs) ys x (suc k, inside, here) = by (in_append xs ys x (k, omega (arith, inside), here))
  where
    by : Contains xs x ⊎ Contains ys x → Contains (y ∷ xs) x ⊎ Contains ys x
    by (inl (j, j_in, is)) = inl (suc j, omega (arith, j_in), is)
    by (inr later) = inr later

-- what a member of a flat map comes from
pub from_flat_map : {X Y : Type 0} (f : X → List Y) (xs : List X) (y : Y) → Contains (flat_map f xs) y → (x : X) × Contains xs x × Contains (f x) y
from_flat_map f [] y there = absurd (omega (arith, there.1))
from_flat_map {X} f (x ∷ xs) y there = by (λ later. from_flat_map f xs y later) (in_append (f x) (flat_map f xs) y there)
  where
    by : (Contains (flat_map f xs) y → (z : X) × Contains xs z × Contains (f z) y) → Contains (f x) y ⊎ Contains (flat_map f xs) y → (z : X) × Contains (x ∷ xs) z × Contains (f z) y
    by behind (inl here) = (x, Contains-here x xs, here)
    by behind (inr later) = let found = behind later in (found.0, (suc found.1.0, omega (arith, found.1.1), found.1.2), found.2)

pub to_flat_map : {X Y : Type 0} (f : X → List Y) (xs : List X) (x : X) (y : Y) → Contains xs x → Contains (f x) y → Contains (flat_map f xs) y
to_flat_map f [] x y there here = absurd (omega (arith, there.1))
to_flat_map f (z ∷ xs) x y (zero, inside, is) here = Contains-append_left (f z) (flat_map f xs) y (subst (λ u. Contains (f u) y) (sym is) here)
to_flat_map f (z ∷ xs) x y (suc k, inside, is) here = Contains-append_right (f z) (flat_map f xs) y (to_flat_map f xs x y (k, omega (arith, inside), is) here)

-- a member that passes a test
passing : {X : Type 0} (test : X → Bool) (xs : List X) → list_any test xs ≡ true → (x : X) × Contains xs x × (test x ≡ true)
passing test xs e = let found = Any-from_list_any test xs e in (found.1, (found.0, found.2, found.3), found.4)

passes : {X : Type 0} (test : X → Bool) (xs : List X) (x : X) → Contains xs x → test x ≡ true → list_any test xs ≡ true
passes test xs x there e = list_any-from_Any test xs (there.0, x, there.1, there.2, e)

-- ---- segments

pub never_same : (painted : List Painted) (a b : Point) → is_segment painted a b ≡ true → is_same a b ≡ false
unfolding is_segment
never_same painted a b e = by (is_same a b) (and_parts (not (is_same a b)) (is_drawn painted a b) e).0
  where
    by : (t : Bool) → not t ≡ true → t ≡ false
    by true e = sym e
    by false e = refl

-- a segment is one from either end
ends_turned : (a b u v : Point) → are_ends a b u v ≡ are_ends b a u v
unfolding are_ends
ends_turned a b u v = by (is_same a u) (is_same b v) (is_same a v) (is_same b u)
  where
    by : (p q r s : Bool) → ((p && q) || (r && s)) ≡ ((s && r) || (q && p))
    by true true true true = refl
    by true true true false = refl
    by true true false s = sym (fold s)
      where
        fold : (s : Bool) → ((s && false) || true) ≡ true
        fold true = refl
        fold false = refl
    by true false true true = refl
    by true false true false = refl
    by true false false true = refl
    by true false false false = refl
    by false true true true = refl
    by false true true false = refl
    by false true false true = refl
    by false true false false = refl
    by false false true true = refl
    by false false true false = refl
    by false false false true = refl
    by false false false false = refl

lines_turned : (a b : Point) (p : Part) → is_line a b p ≡ is_line b a p
lines_turned a b (Disc c d) = refl
lines_turned a b (Capsule u v d) = ends_turned a b u v
lines_turned a b (Area loops) = refl

same_turned : (a b : Point) → is_same a b ≡ is_same b a
same_turned a b = by (is_same a b) (is_same b a) (λ e. point_same b a (sym (same_point a b e))) (λ e. point_same a b (sym (same_point b a e)))
  where
    by : (s t : Bool) → (s ≡ true → t ≡ true) → (t ≡ true → s ≡ true) → s ≡ t
    by true t f g = sym (f refl)
    by false true f g = g refl
    by false false f g = refl

pub segment_turned : (painted : List Painted) (a b : Point) → is_segment painted a b ≡ is_segment painted b a
unfolding is_segment is_drawn
segment_turned painted a b =
    let lines : is_line a b ≡ is_line b a = λ t p. lines_turned a b p t in
    let drawn : (Point → Point → Bool) = is_drawn painted in
    ap (λ (line : Part → Bool). not (is_same a b) && list_any (λ o. o.dark && list_any (λ p. p.on && line p.part) o.shape) painted) lines
    ∙ ap (λ (s : Bool). not s && list_any (λ o. o.dark && list_any (λ p. p.on && is_line b a p.part) o.shape) painted) (same_turned a b)

-- ---- what is drawn

-- a way along a line
record IsAlong (a b : Point) (way : ℕ) : Type 0 where
  apart : is_same a b ≡ false
  is : (way ≡ way_of a b) ⊎ (way ≡ way_of b a)

along : (a b : Point) (way : ℕ) → Contains (line_ways a b) way → IsAlong a b way
along a b way there = by (is_same a b) refl there
  where
    two : (u v w : ℕ) → Contains (u ∷ v ∷ []) w → (w ≡ u) ⊎ (w ≡ v)
    two u v w (zero, inside, is) = inl (sym is)
    two u v w (suc zero, inside, is) = inr (sym is)
    two u v w (suc (suc k), inside, is) = absurd (omega (arith, inside))

    by : (t : Bool) → is_same a b ≡ t → Contains (cond t [] (way_of a b ∷ way_of b a ∷ [])) way → IsAlong a b way
    by true e there = absurd (omega (arith, there.1))
    by false e there = record { apart = e; is = two (way_of a b) (way_of b a) way there }

-- the way is one of a segment between places
record IsOfSegment (painted : List Painted) (way : ℕ) : Type 0 where
  a : Point
  b : Point
  a_in : IsPlace a
  b_in : IsPlace b
  segment : is_segment painted a b ≡ true
  is : way ≡ way_of a b

when_true : {X : Type 0} (t : Bool) (xs : List X) (x : X) → Contains (cond t xs []) x → (t ≡ true) × Contains xs x
when_true true xs x there = (refl, there)
when_true false xs x there = absurd (omega (arith, there.1))

true_when : {X : Type 0} (t : Bool) (xs : List X) (x : X) → t ≡ true → Contains xs x → Contains (cond t xs []) x
true_when true xs x e there = there
true_when false xs x e there = absurd (cc)

-- a way of a part runs along its line
record IsOfPart (part : Part) (way : ℕ) : Type 0 where
  a : Point
  b : Point
  line : is_line a b part ≡ true
  along : IsAlong a b way
  places : IsPart part → IsPlace a × IsPlace b

part_way : (part : Part) (way : ℕ) → Contains (part_ways part) way → IsOfPart part way
part_way (Disc c d) way there = absurd (omega (arith, there.1))
part_way (Capsule a b d) way there = record { a = a; b = b; line = are_there a b; along = along a b way there; places = λ fits. (fits.0, fits.1) }
part_way (Area loops) way there = absurd (omega (arith, there.1))

is_segment_by : (painted : List Painted) (a b : Point) → is_same a b ≡ false → is_drawn painted a b ≡ true → is_segment painted a b ≡ true
unfolding is_segment
is_segment_by painted a b e f = and_from (not (is_same a b)) (is_drawn painted a b) (ap not e) f

drawn_by : (painted : List Painted) (o : Painted) (p : Piece) (a b : Point) → Contains painted o → Contains o.shape p → o.dark ≡ true → p.on ≡ true → is_line a b p.part ≡ true → is_drawn painted a b ≡ true
unfolding is_drawn
drawn_by painted o p a b there inside dark on line =
    passes (λ o. o.dark && list_any (λ p. p.on && is_line a b p.part) o.shape) painted o there
    (and_from o.dark (list_any (λ p. p.on && is_line a b p.part) o.shape) dark
    (passes (λ p. p.on && is_line a b p.part) o.shape p inside (and_from p.on (is_line a b p.part) on line)))

parts_of : (painted : List Painted) (o : Painted) → All HasParts painted → Contains painted o → o.dark ≡ true → All IsPiece o.shape
unfolding HasParts
parts_of painted o parts there = All-contains HasParts painted o parts there

drawn_sound : (painted : List Painted) (way : ℕ) → All HasParts painted → Contains (drawn_ways painted) way → IsOfSegment painted way
drawn_sound painted way parts there =
    let found = from_flat_map object_ways painted way there in
    let o : Painted = found.0 in
    let dark = when_true o.dark (flat_map piece_ways o.shape) way found.2 in
    let piece = from_flat_map piece_ways o.shape way dark.1 in
    let p : Piece = piece.0 in
    let on = when_true p.on (part_ways p.part) way piece.2 in
    let of : IsOfPart p.part way = part_way p.part way on.1 in
    let places = of.places (All-contains IsPiece o.shape p (parts_of painted o parts found.1 dark.0) piece.1) in
    let segment : is_segment painted of.a of.b ≡ true = is_segment_by painted of.a of.b (of.along).apart (drawn_by painted o p of.a of.b found.1 piece.1 dark.0 on.0 of.line) in
    by of.a of.b places.0 places.1 segment (of.along).is
  where
    by : (a b : Point) → IsPlace a → IsPlace b → is_segment painted a b ≡ true → (way ≡ way_of a b) ⊎ (way ≡ way_of b a) → IsOfSegment painted way
    by a b pa pb segment (inl is) = record { a = a; b = b; a_in = pa; b_in = pb; segment = segment; is = is }
    by a b pa pb segment (inr is) = record { a = b; b = a; a_in = pb; b_in = pa; segment = segment_turned painted b a ∙ segment; is = is }

-- ---- and all of it

line_there : (a b u v : Point) → is_same a b ≡ false → ((a ≡ u) × (b ≡ v)) ⊎ ((a ≡ v) × (b ≡ u)) → Contains (line_ways u v) (way_of a b)
line_there a b u v apart (inl (e, f)) =
    subst (λ x. Contains (line_ways x v) (way_of a b)) e
    (subst (λ y. Contains (line_ways a y) (way_of a b)) f
    (apart_in (is_same a b) apart))
  where
    apart_in : (t : Bool) → t ≡ false → Contains (cond t [] (way_of a b ∷ way_of b a ∷ [])) (way_of a b)
    apart_in true e = absurd (cc)
    apart_in false e = (0, omega arith, refl)
line_there a b u v apart (inr (e, f)) =
    subst (λ x. Contains (line_ways u x) (way_of a b)) e
    (subst (λ y. Contains (line_ways y a) (way_of a b)) f
    (apart_in (is_same b a) (same_turned b a ∙ apart)))
  where
    apart_in : (t : Bool) → t ≡ false → Contains (cond t [] (way_of b a ∷ way_of a b ∷ [])) (way_of a b)
    apart_in true e = absurd (cc)
    apart_in false e = (1, omega arith, refl)

part_there : (part : Part) (a b : Point) → is_same a b ≡ false → is_line a b part ≡ true → IsPart part → Contains (part_ways part) (way_of a b) × IsPlace a × IsPlace b
part_there (Disc c d) a b apart line fits = absurd (cc)
part_there (Capsule u v d) a b apart line fits = by (ends_are a b u v line)
  where
    places : ((a ≡ u) × (b ≡ v)) ⊎ ((a ≡ v) × (b ≡ u)) → IsPlace a × IsPlace b
    places (inl (e, f)) = (subst IsPlace (sym e) fits.0, subst IsPlace (sym f) fits.1)
    places (inr (e, f)) = (subst IsPlace (sym e) fits.1, subst IsPlace (sym f) fits.0)

    by : ((a ≡ u) × (b ≡ v)) ⊎ ((a ≡ v) × (b ≡ u)) → Contains (line_ways u v) (way_of a b) × IsPlace a × IsPlace b
    by ends = let p = places ends in (line_there a b u v apart ends, p.0, p.1)
part_there (Area loops) a b apart line fits = absurd (cc)

segment_drawn : (painted : List Painted) (a b : Point) → is_segment painted a b ≡ true → is_drawn painted a b ≡ true
unfolding is_segment
segment_drawn painted a b e = (and_parts (not (is_same a b)) (is_drawn painted a b) e).1

-- a drawn line has its piece
record IsDrawnBy (painted : List Painted) (a b : Point) : Type 0 where
  o : Painted
  p : Piece
  there : Contains painted o
  inside : Contains o.shape p
  dark : o.dark ≡ true
  on : p.on ≡ true
  line : is_line a b p.part ≡ true

drawn_from : (painted : List Painted) (a b : Point) → is_drawn painted a b ≡ true → IsDrawnBy painted a b
unfolding is_drawn
drawn_from painted a b e =
    let found = passing (λ o. o.dark && list_any (λ p. p.on && is_line a b p.part) o.shape) painted e in
    let o : Painted = found.0 in
    let both = and_parts o.dark (list_any (λ p. p.on && is_line a b p.part) o.shape) found.2 in
    let piece = passing (λ p. p.on && is_line a b p.part) o.shape both.1 in
    let p : Piece = piece.0 in
    let last = and_parts p.on (is_line a b p.part) piece.2 in
    record { o = o; p = p; there = found.1; inside = piece.1; dark = both.0; on = last.0; line = last.1 }

drawn_all : (painted : List Painted) (a b : Point) → All HasParts painted → is_segment painted a b ≡ true → Contains (drawn_ways painted) (way_of a b) × IsPlace a × IsPlace b
drawn_all painted a b parts e =
    let d : IsDrawnBy painted a b = drawn_from painted a b (segment_drawn painted a b e) in
    let found = part_there (d.p).part a b (never_same painted a b e) d.line (All-contains IsPiece (d.o).shape d.p (parts_of painted d.o parts d.there d.dark) d.inside) in (
      to_flat_map object_ways painted d.o (way_of a b) d.there
          (true_when (d.o).dark (flat_map piece_ways (d.o).shape) (way_of a b) d.dark
          (to_flat_map piece_ways (d.o).shape d.p (way_of a b) d.inside
          (true_when (d.p).on (part_ways (d.p).part) (way_of a b) d.on found.0))),
      found.1,
      found.2,
    )

-- the drawn ways in their order, each once, are those of the segments
pub are_ways : (painted : List Painted) (drawn ways : List ℕ) → All HasParts painted → drawn ≡ drawn_ways painted
    → ((way : ℕ) → Contains drawn way → Contains ways way) → ((way : ℕ) → Contains ways way → Contains drawn way) → ((i j : ℕ) → i < j → j < length ways → get_or ways i 0 < get_or ways j 0)
    → AreWays painted ways
are_ways painted drawn ways parts e keeps adds_none rising = record {
  rising = rising;
  places = λ k d k_in.
      let of : IsOfSegment painted (get_or ways k d) = member (get_or ways k d) (k, k_in, get_or_default ways k d (get_or ways k d) k_in) in
      record {
        from_in = subst (λ w. IsPlace (from_of w)) (sym of.is) (subst IsPlace (sym (way_from of.a of.b of.a_in of.b_in)) of.a_in);
        to_in = subst (λ w. IsPlace (to_of w)) (sym of.is) (subst IsPlace (sym (way_to of.a of.b of.a_in of.b_in)) of.b_in);
        small = subst (λ w. w < 1329227995784915872903807060280344576) (sym of.is) (way_small of.a of.b of.a_in of.b_in);
      };
  each = λ i i_in.
      let of : IsOfSegment painted (get_or ways i 0) = member (get_or ways i 0) (i, i_in, get_or_default ways i 0 (get_or ways i 0) i_in) in
      subst (λ w. is_segment painted (from_of w) (to_of w) ≡ true) (sym of.is)
      (subst (λ a. is_segment painted a (to_of (way_of of.a of.b)) ≡ true) (sym (way_from of.a of.b of.a_in of.b_in))
      (subst (λ b. is_segment painted of.a b ≡ true) (sym (way_to of.a of.b of.a_in of.b_in)) of.segment));
  all = λ a b segment.
      let found = drawn_all painted a b parts segment in
      let there = keeps (way_of a b) (subst (λ ds. Contains ds (way_of a b)) (sym e) found.0) in
      let at : get_or ways there.0 0 ≡ way_of a b = get_or_default ways there.0 (way_of a b) 0 there.1 ∙ there.2 in
      (there.0, there.1, sym (ap from_of at ∙ way_from a b found.1 found.2), sym (ap to_of at ∙ way_to a b found.1 found.2));
}
  where
    member : (w : ℕ) → Contains ways w → IsOfSegment painted w
    member w there = drawn_sound painted w parts (subst (λ ds. Contains ds w) e (adds_none w there))

    get_or_default : (xs : List ℕ) (k d c : ℕ) → k < length xs → get_or xs k c ≡ get_or xs k d
    get_or_default [] k d c h = absurd (omega (arith, h))
    get_or_default (x ∷ xs) zero d c h = refl
    get_or_default (x ∷ xs) (suc k) d c h = get_or_default xs k d c (omega (arith, h))
