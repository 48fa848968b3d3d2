-- The rectangle of a shape, and the one of what is dark, is the least one round its squares.
use Rattle.std.proofs.Common.{◌≡◌, ◌⊎◌, inl, inr, ℤ, pos, ◌+ℤ◌, ◌-ℤ◌, ◌≤ℤ◌, int_lt, Bool, true, false, cond, List, [], ◌∷◌, ◌++◌, Option, Some, None, refl, sym, ap, ◌∙◌, subst, append_assoc, arith}
use Rattle.std.specs.Prelude.{map, MatchOption}
use Rattle.std.specs.List.{Contains, fold}
use Rattle.std.specs.Int.{int_min, int_max}
use Rattle.std.proofs.lemmas.List.{append-nil}
use Rattle.std.proofs.lemmas.List.Sums.{fold-append}
use Rattle.std.proofs.lemmas.List.Elements.{Contains-append_left, Contains-append_right, Contains-append_cases, Contains-push, Contains-push_cases}
use borrow.Author.Differences.{ints}
use Rattle.board_base.specs.declared.places.Point.{Point}
use Rattle.board_base.specs.declared.places.Bounds.{Bounds}
use Rattle.poly_area.specs.declared.edges.Edge.{Edge}
use Rattle.poly_area.specs.Area.{edges_of}
use Rattle.shape_parts.specs.declared.shape.Part.{Part}
use Rattle.shape_parts.specs.declared.shape.Part.TheVariants.{Disc, Capsule, Area}
use Rattle.shape_parts.specs.declared.shape.Piece.{Piece}
use Rattle.shape_parts.specs.declared.shape.Painted.{Painted}
use Rattle.shape_parts.specs.Boxes.{half_up, around, hull, widened, part_box, piece_box, shape_box}
use Rattle.shape_parts.specs.BoxLaw.{HasSquare}
use Rattle.copper_cover.specs.Kept.{joined, object_box}
use Rattle.image_laws.specs.Rectangles.{Square, square, squares_of, squares_in, dark_squares, IsRound, RectangleLaw}

-- a rectangle, or none yet, grown by a square
abbrev step : Option Bounds → Square → Option Bounds
step box s = widened s.half box s.middle

-- ---- the rectangle of a shape is grown by its squares, one by one

disc_steps : (t : Bool) (s : Square) (box : Option Bounds) → cond t (step box s) box ≡ fold step box (cond t (s ∷ []) [])
disc_steps true s box = refl
disc_steps false s box = refl

ends_steps : (t : Bool) (s u : Square) (box : Option Bounds) → cond t (step (step box s) u) box ≡ fold step box (cond t (s ∷ u ∷ []) [])
ends_steps true s u box = refl
ends_steps false s u box = refl

edges_steps : (es : List Edge) (box : Option Bounds) → fold (λ b e. widened (pos 0) b e.from) box es ≡ fold step box (map (λ e. square e.from (pos 0)) es)
edges_steps [] box = refl
edges_steps (e ∷ es) box = edges_steps es (widened (pos 0) box e.from)

part_steps : (part : Part) (box : Option Bounds) → part_box box part ≡ fold step box (squares_of part)
part_steps (Disc c d) box = disc_steps (int_lt (pos 0) d) (square c (half_up d)) box
part_steps (Capsule a b d) box = ends_steps (int_lt (pos 0) d) (square a (half_up d)) (square b (half_up d)) box
part_steps (Area loops) box = edges_steps (edges_of loops) box

piece_steps : (on : Bool) (part : Part) (box : Option Bounds) → cond on (part_box box part) box ≡ fold step box (cond on (squares_of part) [])
piece_steps true part box = part_steps part box
piece_steps false part box = refl

shape_steps : (pieces : List Piece) (box : Option Bounds) → fold piece_box box pieces ≡ fold step box (squares_in pieces)
shape_steps [] box = refl
shape_steps (p ∷ pieces) box =
    shape_steps pieces (piece_box box p)
    ∙ ap (λ (w : Option Bounds). fold step w (squares_in pieces)) (piece_steps p.on p.part box)
    ∙ sym (fold-append step box (cond p.on (squares_of p.part) []) (squares_in pieces))

-- ---- the least rectangle that holds two

-- what holds of two numbers holds of the lesser and of the greater of them
of_lesser : (P : ℤ → Type 0) (a b : ℤ) → P a → P b → P (int_min a b)
of_lesser P a b h k = pick (int_lt b a)
  where
    pick : (t : Bool) → P (cond t b a)
    pick true = k
    pick false = h

of_greater : (P : ℤ → Type 0) (a b : ℤ) → P a → P b → P (int_max a b)
of_greater P a b h k = pick (int_lt b a)
  where
    pick : (t : Bool) → P (cond t a b)
    pick true = h
    pick false = k

holds_first : (a b : Bounds) (p : Point) (r : ℤ) → HasSquare a p r → HasSquare (hull a b) p r
unfolding hull
holds_first a b p r h = record { west = low a.x0 b.x0 p.x r h.west; east = high a.x1 b.x1 p.x r h.east; south = low a.y0 b.y0 p.y r h.south; north = high a.y1 b.y1 p.y r h.north }
  where
    low : (a m x s : ℤ) → (a +ℤ s) ≤ℤ x → (int_min a m +ℤ s) ≤ℤ x
    low a m x s h = pick (int_lt m a) refl
      where
        pick : (t : Bool) → int_lt m a ≡ t → (cond t m a +ℤ s) ≤ℤ x
        pick true e = omega (arith, ints, e, h)
        pick false e = h

    high : (a m x s : ℤ) → (x +ℤ s) ≤ℤ a → (x +ℤ s) ≤ℤ int_max a m
    high a m x s h = pick (int_lt m a) refl
      where
        pick : (t : Bool) → int_lt m a ≡ t → (x +ℤ s) ≤ℤ cond t a m
        pick true e = h
        pick false e = omega (arith, ints, e, h)

holds_second : (a b : Bounds) (p : Point) (r : ℤ) → HasSquare b p r → HasSquare (hull a b) p r
unfolding hull
holds_second a b p r h = record { west = low a.x0 b.x0 p.x r h.west; east = high a.x1 b.x1 p.x r h.east; south = low a.y0 b.y0 p.y r h.south; north = high a.y1 b.y1 p.y r h.north }
  where
    low : (a m x s : ℤ) → (m +ℤ s) ≤ℤ x → (int_min a m +ℤ s) ≤ℤ x
    low a m x s h = pick (int_lt m a) refl
      where
        pick : (t : Bool) → int_lt m a ≡ t → (cond t m a +ℤ s) ≤ℤ x
        pick true e = h
        pick false e = omega (arith, ints, e, h)

    high : (a m x s : ℤ) → (x +ℤ s) ≤ℤ m → (x +ℤ s) ≤ℤ int_max a m
    high a m x s h = pick (int_lt m a) refl
      where
        pick : (t : Bool) → int_lt m a ≡ t → (x +ℤ s) ≤ℤ cond t a m
        pick true e = omega (arith, ints, e, h)
        pick false e = h

-- a side of some square
abbrev IsWest : List Square → ℤ → Type 0
IsWest squares x = (s : Square) × Contains squares s × (x ≡ s.middle.x -ℤ s.half)

abbrev IsSouth : List Square → ℤ → Type 0
IsSouth squares y = (s : Square) × Contains squares s × (y ≡ s.middle.y -ℤ s.half)

abbrev IsEast : List Square → ℤ → Type 0
IsEast squares x = (s : Square) × Contains squares s × (x ≡ s.middle.x +ℤ s.half)

abbrev IsNorth : List Square → ℤ → Type 0
IsNorth squares y = (s : Square) × Contains squares s × (y ≡ s.middle.y +ℤ s.half)

round_both : (xs ys : List Square) (a b : Bounds) → IsRound xs a → IsRound ys b → IsRound (xs ++ ys) (hull a b)
unfolding hull
round_both xs ys a b h k = record {
  holds = λ s there. in_either s (Contains-append_cases xs ys s there);
  west = of_lesser (IsWest (xs ++ ys)) a.x0 b.x0 (h.west.0, Contains-append_left xs ys h.west.0 h.west.1, h.west.2) (k.west.0, Contains-append_right xs ys k.west.0 k.west.1, k.west.2);
  south = of_lesser (IsSouth (xs ++ ys)) a.y0 b.y0 (h.south.0, Contains-append_left xs ys h.south.0 h.south.1, h.south.2) (k.south.0, Contains-append_right xs ys k.south.0 k.south.1, k.south.2);
  east = of_greater (IsEast (xs ++ ys)) a.x1 b.x1 (h.east.0, Contains-append_left xs ys h.east.0 h.east.1, h.east.2) (k.east.0, Contains-append_right xs ys k.east.0 k.east.1, k.east.2);
  north = of_greater (IsNorth (xs ++ ys)) a.y1 b.y1 (h.north.0, Contains-append_left xs ys h.north.0 h.north.1, h.north.2) (k.north.0, Contains-append_right xs ys k.north.0 k.north.1, k.north.2);
}
  where
    in_either : (s : Square) → Contains xs s ⊎ Contains ys s → HasSquare (hull a b) s.middle s.half
    in_either s (inl there) = holds_first a b s.middle s.half (h.holds s there)
    in_either s (inr there) = holds_second a b s.middle s.half (k.holds s there)

-- ---- one square

own : (p : Point) (r : ℤ) → HasSquare (around p r) p r
unfolding around
own p r = record { west = back p.x r; east = up (p.x +ℤ r); south = back p.y r; north = up (p.y +ℤ r) }
  where
    back : (x r : ℤ) → ((x -ℤ r) +ℤ r) ≤ℤ x
    back x r = omega (arith, ints)

    up : (x : ℤ) → x ≤ℤ x
    up x = omega (arith, ints)

alone : (s : Square) → IsRound (s ∷ []) (around s.middle s.half)
unfolding around
alone s = record {
  holds = λ u there. same u (Contains-push_cases [] s u there);
  west = (s, Contains-push [] s, refl);
  south = (s, Contains-push [] s, refl);
  east = (s, Contains-push [] s, refl);
  north = (s, Contains-push [] s, refl);
}
  where
    same : (u : Square) → Contains [] u ⊎ (s ≡ u) → HasSquare (around s.middle s.half) u.middle u.half
    same u (inl there) = absurd (omega (arith, there.1))
    same u (inr is) = subst (λ (v : Square). HasSquare (around s.middle s.half) v.middle v.half) is (own s.middle s.half)

-- ---- all of them

-- the rectangle round the squares, or none where there are none
abbrev Round : List Square → Option Bounds → Type 0
Round squares box = MatchOption box (squares ≡ []) (IsRound squares)

union : (xs ys : List Square) (a b : Option Bounds) → Round xs a → Round ys b → Round (xs ++ ys) (joined a b)
union xs ys None b h k = subst (λ (l : List Square). Round l b) (sym (ap (λ (l : List Square). l ++ ys) h)) k
union xs ys (Some a) None h k = subst (λ (l : List Square). IsRound l a) (sym (ap (λ (l : List Square). xs ++ l) k ∙ append-nil xs)) h
union xs ys (Some a) (Some b) h k = round_both xs ys a b h k

more : (xs : List Square) (box : Option Bounds) (s : Square) → Round xs box → Round (xs ++ s ∷ []) (step box s)
more xs None s h = union xs (s ∷ []) None (Some (around s.middle s.half)) h (alone s)
more xs (Some b) s h = union xs (s ∷ []) (Some b) (Some (around s.middle s.half)) h (alone s)

all_more : (ys xs : List Square) (box : Option Bounds) → Round xs box → Round (xs ++ ys) (fold step box ys)
all_more [] xs box h = subst (λ (l : List Square). Round l box) (sym (append-nil xs)) h
all_more (y ∷ ys) xs box h =
    subst (λ (l : List Square). Round l (fold step (step box y) ys)) (append_assoc xs (y ∷ []) ys) (all_more ys (xs ++ y ∷ []) (step box y) (more xs box y h))

shape_round : (pieces : List Piece) → Round (squares_in pieces) (shape_box pieces)
shape_round pieces = subst (λ (w : Option Bounds). Round (squares_in pieces) w) (sym (shape_steps pieces None)) (all_more (squares_in pieces) [] None refl)

-- ---- what is dark

object_more : (dark : Bool) (xs ys : List Square) (box w : Option Bounds) → Round xs box → Round ys w → Round (xs ++ cond dark ys []) (cond dark (joined box w) box)
object_more true xs ys box w h k = union xs ys box w h k
object_more false xs ys box w h k = subst (λ (l : List Square). Round l box) (sym (append-nil xs)) h

dark_more : (painted : List Painted) (xs : List Square) (box : Option Bounds) → Round xs box → Round (xs ++ dark_squares painted) (fold object_box box painted)
dark_more [] xs box h = subst (λ (l : List Square). Round l box) (sym (append-nil xs)) h
dark_more (o ∷ painted) xs box h =
    subst (λ (l : List Square). Round l (fold object_box (object_box box o) painted))
    (append_assoc xs (cond o.dark (squares_in o.shape) []) (dark_squares painted))
    (dark_more painted (xs ++ cond o.dark (squares_in o.shape) []) (object_box box o) (object_more o.dark xs (squares_in o.shape) box (shape_box o.shape) h (shape_round o.shape)))

pub rectangle_law : RectangleLaw
rectangle_law = record {
  shape = shape_round;
  dark = λ painted. dark_more painted [] None refl;
}
