-- A kept cell has its centre in the dark rectangle grown by h; and the rectangle of one more object.
use Rattle.std.proofs.Common.{◌≡◌, ℤ, pos, ◌+ℤ◌, ◌-ℤ◌, ◌≤ℤ◌, int_lt, Bool, true, false, not, cond, ◌&&◌, List, [], ◌∷◌, ◌++◌, Option, Some, None, refl, arith}
use Rattle.std.specs.List.{fold, list_any}
use Rattle.std.specs.Int.{int_min, int_max}
use borrow.Author.Differences.{ints}
use Rattle.board_base.specs.declared.places.Point.{Point}
use Rattle.board_base.specs.declared.places.Bounds.{Bounds}
use Rattle.shape_parts.specs.declared.shape.Painted.{Painted}
use Rattle.shape_parts.specs.Shapes.{shape_touches, shape_covers}
use Rattle.shape_parts.specs.Boxes.{hull, shape_box, AreBounds}
use Rattle.shape_parts.specs.BoxLaw.{Has}
use Rattle.shape_parts.specs.Cover.{is_kept}
use Rattle.shape_parts.proofs.Standing.{first_true, second_true, either}
use Rattle.shape_parts.proofs.BoxLaws.{box_law_holds}
use Rattle.shape_parts.proofs.BoundsLaws.{hull_bounds}
use Rattle.copper_cover.specs.Kept.{joined, object_box, dark_rectangle, KeptLaw}

low_left : (a m x s : ℤ) → (a +ℤ s) ≤ℤ x → (int_min a m +ℤ s) ≤ℤ x
low_left a m x s h = pick (int_lt m a) refl
  where
    pick : (t : Bool) → int_lt m a ≡ t → (cond t m a +ℤ s) ≤ℤ x
    pick true e = omega (arith, ints, e, h)
    pick false e = h

low_right : (a m x s : ℤ) → (m +ℤ s) ≤ℤ x → (int_min a m +ℤ s) ≤ℤ x
low_right a m x s h = pick (int_lt m a) refl
  where
    pick : (t : Bool) → int_lt m a ≡ t → (cond t m a +ℤ s) ≤ℤ x
    pick true e = h
    pick false e = omega (arith, ints, e, h)

high_left : (a m x s : ℤ) → (x +ℤ s) ≤ℤ a → (x +ℤ s) ≤ℤ int_max a m
high_left a m x s h = pick (int_lt m a) refl
  where
    pick : (t : Bool) → int_lt m a ≡ t → (x +ℤ s) ≤ℤ cond t a m
    pick true e = h
    pick false e = omega (arith, ints, e, h)

high_right : (a m x s : ℤ) → (x +ℤ s) ≤ℤ m → (x +ℤ s) ≤ℤ int_max a m
high_right a m x s h = pick (int_lt m a) refl
  where
    pick : (t : Bool) → int_lt m a ≡ t → (x +ℤ s) ≤ℤ cond t a m
    pick true e = omega (arith, ints, e, h)
    pick false e = h

joined_left : (a b : Option Bounds) (p : Point) (s : ℤ) → Has a p s → Has (joined a b) p s
unfolding hull
joined_left None b p s h = absurd h
joined_left (Some a) None p s h = h
joined_left (Some a) (Some b) p s h = record { west = low_left a.x0 b.x0 p.x s h.west; east = high_left a.x1 b.x1 p.x s h.east; south = low_left a.y0 b.y0 p.y s h.south; north = high_left a.y1 b.y1 p.y s h.north }

joined_right : (a b : Option Bounds) (p : Point) (s : ℤ) → Has b p s → Has (joined a b) p s
unfolding hull
joined_right None b p s h = h
joined_right (Some a) None p s h = absurd h
joined_right (Some a) (Some b) p s h = record { west = low_right a.x0 b.x0 p.x s h.west; east = high_right a.x1 b.x1 p.x s h.east; south = low_right a.y0 b.y0 p.y s h.south; north = high_right a.y1 b.y1 p.y s h.north }

grown_keeps : (t : Bool) (v w : Option Bounds) (p : Point) (s : ℤ) → Has w p s → Has (cond t (joined w v) w) p s
grown_keeps true v w p s h = joined_left w v p s h
grown_keeps false v w p s h = h

grown_has : (t : Bool) (v w : Option Bounds) (p : Point) (s : ℤ) → t ≡ true → Has v p s → Has (cond t (joined w v) w) p s
grown_has true v w p s e h = joined_right w v p s h
grown_has false v w p s e h = absurd (cc)

objects_keep : (painted : List Painted) (w : Option Bounds) (p : Point) (s : ℤ) → Has w p s → Has (fold object_box w painted) p s
objects_keep [] w p s h = h
objects_keep (o ∷ os) w p s h = objects_keep os (object_box w o) p s (grown_keeps o.dark (shape_box o.shape) w p s h)

kept_in : (c : Point) (h : ℤ) (painted : List Painted) (w : Option Bounds) → pos 0 ≤ℤ h → is_kept c h painted ≡ true → Has (fold object_box w painted) c (pos 0 -ℤ h)
kept_in c h [] w h_in e = absurd (cc)
kept_in c h (o ∷ os) w h_in e =
    either ((o.dark && shape_touches c h o.shape) && not (list_any (λ o. not o.dark && shape_covers c h o.shape) os)) (is_kept c h os) e
    (λ t.
    let s = first_true (o.dark && shape_touches c h o.shape) (not (list_any (λ o. not o.dark && shape_covers c h o.shape) os)) t in
    objects_keep os (object_box w o) c (pos 0 -ℤ h) (grown_has o.dark (shape_box o.shape) w c (pos 0 -ℤ h) (first_true o.dark (shape_touches c h o.shape) s) (box_law_holds c h o.shape h_in (second_true o.dark (shape_touches c h o.shape) s))))
    (λ t. kept_in c h os (object_box w o) h_in t)

pub kept_law_holds : KeptLaw
kept_law_holds c h painted h_in e = kept_in c h painted None h_in e

-- two rectangles whose ends are in order give one
pub joined_bounds : (a b : Option Bounds) → AreBounds a → AreBounds b → AreBounds (joined a b)
joined_bounds None b h k = k
joined_bounds (Some a) None h k = h
joined_bounds (Some a) (Some b) h k = hull_bounds a b h k

-- a fold over one member more
fold-append_one : {A B : Type 0} (f : B → A → B) (b : B) (xs : List A) (x : A) → fold f b (xs ++ x ∷ []) ≡ f (fold f b xs) x
fold-append_one f b [] x = refl
fold-append_one f b (y ∷ ys) x = fold-append_one f (f b y) ys x

-- one more object at the end widens the rectangle by its own, where it is dark
pub dark_rectangle-append_one : (painted : List Painted) (o : Painted) → dark_rectangle (painted ++ o ∷ []) ≡ object_box (dark_rectangle painted) o
dark_rectangle-append_one painted o = fold-append_one object_box None painted o
