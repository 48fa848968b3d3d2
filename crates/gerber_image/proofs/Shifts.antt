-- Shifts within the range.
use Rattle.std.proofs.Common.{◌≡◌, refl, ℕ, ◌^◌, ◌++◌, ◌||◌, sym, ℤ, pos, ◌+ℤ◌, List, [], ◌∷◌, map, Bool, true, false, Option, Some, None, ap, ◌∙◌, arith}
use Rattle.std.specs.Prelude.{if◌then◌else◌, ◌&&◌, is_none}
use Rattle.std.specs.Prelude.{nat_lt}
use Rattle.std.specs.List.{list_any}
use Rattle.std.proofs.lemmas.List.{map-append}
use Rattle.std.proofs.lemmas.List.Folds.{list_any-append}
use Rattle.std.proofs.lemmas.Int.{ints}
use Rattle.number_laws.proofs.Tests.{by_bool}
use Rattle.board_base.specs.Places.{IsCoordinate, IsPlace}
use Rattle.board_base.specs.declared.places.Point.{Point}
use Rattle.plane_arcs.specs.Turned.{in_range, is_far}
use Rattle.poly_area.specs.Moved.{all_moved, moved_points, moved_loops}
use Rattle.shape_parts.specs.declared.shape.Part.{Part}
use Rattle.shape_parts.specs.declared.shape.Part.TheVariants.{Disc, Capsule, Area}
use Rattle.shape_parts.specs.declared.shape.Piece.{Piece}
use Rattle.shape_parts.specs.Moved.{moved_part, moved_pieces}
use Rattle.gerber_image.specs.Image.{shifted_point, shifted_part, shifted_piece}
use Rattle.gerber_image.specs.Checks.{part_leaves, piece_leaves}
use Rattle.gerber_image.specs.Copies.{shift_of}
use Rattle.gerber_image.specs.declared.repeat.Shift.{Shift}

-- what is changed, unless it is bad then
abbrev unless : {Y : Type 0} → Bool → Y → Option Y
unless b y = if b then None else Some y

-- members that are changed one by one, unless one is bad then
all_unless : {X Y : Type 0} (move : X → Option Y) (change : X → Y) (bad : Y → Bool) → ((x : X) → move x ≡ unless (bad (change x)) (change x))
    → (xs : List X) → all_moved move xs ≡ unless (list_any bad (map change xs)) (map change xs)
all_unless move change bad each [] = refl
all_unless move change bad each (x ∷ xs) = by_bool (bad (change x))
    (λ t. let none : move x ≡ None = each x ∙ ap (λ b. unless b (change x)) t in rw (none, t) refl)
    (λ f.
    let some : move x ≡ Some (change x) = each x ∙ ap (λ b. unless b (change x)) f in
    let rest = all_unless move change bad each xs in
    by_bool (list_any bad (map change xs))
    (λ t. let none : all_moved move xs ≡ None = rest ∙ ap (λ b. unless b (map change xs)) t in rw (some, none, f, t) refl)
    (λ g. let others : all_moved move xs ≡ Some (map change xs) = rest ∙ ap (λ b. unless b (map change xs)) g in rw (some, others, f, g) refl))

point_unless : (s : Shift) (p : Point) → shift_of s p ≡ unless (is_far (shifted_point (pos s.dx) (pos s.dy) p)) (shifted_point (pos s.dx) (pos s.dy) p)
unfolding shift_of
point_unless s p = by_bool (in_range (p.x +ℤ pos s.dx) && in_range (p.y +ℤ pos s.dy)) (λ t. rw t refl) (λ f. rw f refl)

part_unless : (s : Shift) (part : Part) → moved_part (shift_of s) part ≡ unless (part_leaves (shifted_part (pos s.dx) (pos s.dy) part)) (shifted_part (pos s.dx) (pos s.dy) part)
part_unless s (Disc c d) = by_bool (is_far (shifted_point (pos s.dx) (pos s.dy) c))
    (λ t. let none : shift_of s c ≡ None = point_unless s c ∙ ap (λ b. unless b (shifted_point (pos s.dx) (pos s.dy) c)) t in rw (none, t) refl)
    (λ f. let some : shift_of s c ≡ Some (shifted_point (pos s.dx) (pos s.dy) c) = point_unless s c ∙ ap (λ b. unless b (shifted_point (pos s.dx) (pos s.dy) c)) f in rw (some, f) refl)
part_unless s (Capsule a b d) = by_bool (is_far (shifted_point (pos s.dx) (pos s.dy) a))
    (λ t. let none : shift_of s a ≡ None = point_unless s a ∙ ap (λ k. unless k (shifted_point (pos s.dx) (pos s.dy) a)) t in rw (none, t) refl)
    (λ f.
    let first : shift_of s a ≡ Some (shifted_point (pos s.dx) (pos s.dy) a) = point_unless s a ∙ ap (λ k. unless k (shifted_point (pos s.dx) (pos s.dy) a)) f in
    by_bool (is_far (shifted_point (pos s.dx) (pos s.dy) b))
    (λ t. let none : shift_of s b ≡ None = point_unless s b ∙ ap (λ k. unless k (shifted_point (pos s.dx) (pos s.dy) b)) t in rw (first, none, f, t) refl)
    (λ g. let second : shift_of s b ≡ Some (shifted_point (pos s.dx) (pos s.dy) b) = point_unless s b ∙ ap (λ k. unless k (shifted_point (pos s.dx) (pos s.dy) b)) g in rw (first, second, f, g) refl))
part_unless s (Area loops) =
    let all = all_unless (moved_points (shift_of s)) (map (shifted_point (pos s.dx) (pos s.dy))) (list_any is_far)
    (λ points. all_unless (shift_of s) (shifted_point (pos s.dx) (pos s.dy)) is_far (point_unless s) points) loops in
    by_bool (list_any (list_any is_far) (map (map (shifted_point (pos s.dx) (pos s.dy))) loops))
    (λ t. let none : moved_loops (shift_of s) loops ≡ None = all ∙ ap (λ k. unless k (map (map (shifted_point (pos s.dx) (pos s.dy))) loops)) t in rw (none, t) refl)
    (λ f. let some : moved_loops (shift_of s) loops ≡ Some (map (map (shifted_point (pos s.dx) (pos s.dy))) loops) = all ∙ ap (λ k. unless k (map (map (shifted_point (pos s.dx) (pos s.dy))) loops)) f in rw (some, f) refl)

-- pieces that are shifted, unless a point leaves the range
pub pieces_unless : (s : Shift) (pieces : List Piece) → moved_pieces (shift_of s) pieces ≡ unless (list_any piece_leaves (map (shifted_piece (pos s.dx) (pos s.dy)) pieces)) (map (shifted_piece (pos s.dx) (pos s.dy)) pieces)
pieces_unless s [] = refl
pieces_unless s (p ∷ pieces) = by_bool (piece_leaves (shifted_piece (pos s.dx) (pos s.dy) p))
    (λ t. let none : moved_part (shift_of s) p.part ≡ None = part_unless s p.part ∙ ap (λ k. unless k (shifted_part (pos s.dx) (pos s.dy) p.part)) t in rw (none, t) refl)
    (λ f.
    let some : moved_part (shift_of s) p.part ≡ Some (shifted_part (pos s.dx) (pos s.dy) p.part) = part_unless s p.part ∙ ap (λ k. unless k (shifted_part (pos s.dx) (pos s.dy) p.part)) f in
    let rest = pieces_unless s pieces in
    by_bool (list_any piece_leaves (map (shifted_piece (pos s.dx) (pos s.dy)) pieces))
    (λ t. let none : moved_pieces (shift_of s) pieces ≡ None = rest ∙ ap (λ k. unless k (map (shifted_piece (pos s.dx) (pos s.dy)) pieces)) t in rw (some, none, f, t) refl)
    (λ g. let others : moved_pieces (shift_of s) pieces ≡ Some (map (shifted_piece (pos s.dx) (pos s.dy)) pieces) = rest ∙ ap (λ k. unless k (map (shifted_piece (pos s.dx) (pos s.dy)) pieces)) g in rw (some, others, f, g) refl))

none_unless : {Y : Type 0} (b : Bool) (y : Y) → is_none (unless b y) ≡ b
none_unless true y = refl
none_unless false y = refl

pub point_tells : (s : Shift) (p : Point) → is_none (shift_of s p) ≡ is_far (shifted_point (pos s.dx) (pos s.dy) p)
point_tells s p = ap is_none (point_unless s p) ∙ none_unless _ _

-- whether a shift leads out of the range
pub leaves_tells : (s : Shift) (pieces : List Piece) → is_none (moved_pieces (shift_of s) pieces) ≡ list_any piece_leaves (map (shifted_piece (pos s.dx) (pos s.dy)) pieces)
leaves_tells s pieces = ap is_none (pieces_unless s pieces) ∙ none_unless _ _

-- whether a shape or what stands behind it leaves the range
pub behind_leaves : (shape large : List Piece) (dx dy : ℕ) (first behind all : Bool) → first ≡ list_any piece_leaves (map (shifted_piece (pos dx) (pos dy)) shape)
    → behind ≡ list_any piece_leaves (map (shifted_piece (pos dx) (pos dy)) large) → all ≡ (first || behind) → all ≡ list_any piece_leaves (map (shifted_piece (pos dx) (pos dy)) (shape ++ large))
behind_leaves shape large dx dy first behind all f b a =
    a ∙ ap (λ x. x || behind) f ∙ ap (λ x. list_any piece_leaves (map (shifted_piece (pos dx) (pos dy)) shape) || x) b
    ∙ sym (ap (list_any piece_leaves) (map-append (shifted_piece (pos dx) (pos dy)) shape large) ∙ list_any-append piece_leaves (map (shifted_piece (pos dx) (pos dy)) shape) (map (shifted_piece (pos dx) (pos dy)) large))

-- a shift that doesn't
pub shifted_some : (s : Shift) (pieces : List Piece) → list_any piece_leaves (map (shifted_piece (pos s.dx) (pos s.dy)) pieces) ≡ false → moved_pieces (shift_of s) pieces ≡ Some (map (shifted_piece (pos s.dx) (pos s.dy)) pieces)
shifted_some s pieces f = pieces_unless s pieces ∙ ap (λ k. unless k (map (shifted_piece (pos s.dx) (pos s.dy)) pieces)) f

-- a long shift leads out of the range
far_x : (x : ℤ) (n : ℕ) → IsCoordinate x → nat_lt n (2 ^ 120) ≡ false → in_range (x +ℤ pos n) ≡ false
unfolding in_range
far_x x n c e = grind (arith, ints, c.low, e)

pub too_far : (s : Shift) (p : Point) → IsPlace p → nat_lt s.dx (2 ^ 120) ≡ false → None ≡ shift_of s p
unfolding shift_of
too_far s p place e = rw (far_x p.x s.dx place.x e) refl

and_false : (b : Bool) → (b && false) ≡ false
and_false true = refl
and_false false = refl

pub too_far_up : (s : Shift) (p : Point) → IsPlace p → nat_lt s.dy (2 ^ 120) ≡ false → None ≡ shift_of s p
unfolding shift_of
too_far_up s p place e = rw (far_x p.y s.dy place.y e, and_false (in_range (p.x +ℤ pos s.dx))) refl

pub not_none : (y : List Piece) → ◌≡◌ {A = Option (List Piece)} None (Some y) → ⊥
not_none y e = absurd cc

pub the_shifted : (a b : List Piece) → Some a ≡ Some b → a ≡ b
the_shifted a b e = cc
