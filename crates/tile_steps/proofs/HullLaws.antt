-- What holds the board's places and one more place of it is a rectangle of such places.
use Rattle.std.proofs.Common.{◌≡◌, ℤ, pos, neg_ℤ, ◌≤ℤ◌, int_lt, Bool, true, false, cond, refl, sym, subst, arith}
use Rattle.std.specs.Int.{int_min, int_max}
use borrow.Author.Differences.{ints}
use Rattle.board_base.specs.declared.places.Bounds.{Bounds}
use Rattle.board_base.specs.declared.places.Point.{Point}
use Rattle.board_base.specs.Places.{IsPlace}
use Rattle.shape_parts.specs.Boxes.{hull}
use Rattle.tile_steps.specs.Drilled.{point_box, IsOnBoardBox}

-- where the ends of a range go when a number joins it
pub record IsWider (a b p : ℤ) : Type 0 where
  pub low : neg_ℤ (pos 500000000) ≤ℤ int_min a p
  pub high : int_max b p ≤ℤ pos 500000000
  pub order : int_min a p ≤ℤ int_max b p

wider : (a b p : ℤ) → neg_ℤ (pos 500000000) ≤ℤ a → b ≤ℤ pos 500000000 → a ≤ℤ b → neg_ℤ (pos 500000000) ≤ℤ p → p ≤ℤ pos 500000000 → IsWider a b p
wider a b p al bh order pl ph = record { low = low (int_lt p a); high = high (int_lt p b); order = ends (int_lt p a) (int_lt p b) refl refl }
  where
    low : (t : Bool) → neg_ℤ (pos 500000000) ≤ℤ cond t p a
    low true = pl
    low false = al

    high : (t : Bool) → cond t b p ≤ℤ pos 500000000
    high true = bh
    high false = ph

    ends : (t s : Bool) → int_lt p a ≡ t → int_lt p b ≡ s → cond t p a ≤ℤ cond s b p
    ends true true e f = omega (arith, ints, e, f, order)
    ends true false e f = omega (arith, ints)
    ends false true e f = order
    ends false false e f = omega (arith, ints, e, f, order)

hull_on_board : (a : Bounds) (p : Point) → IsOnBoardBox a → IsPlace p → IsOnBoardBox (hull a (point_box p))
unfolding hull
hull_on_board a p h k =
    let x = wider a.x0 a.x1 p.x h.within.west h.within.east h.across k.x.low k.x.high in
    let y = wider a.y0 a.y1 p.y h.within.south h.within.north h.up k.y.low k.y.high in
    record { within = record { west = x.low; south = y.low; east = x.high; north = y.high }; across = x.order; up = y.order }

-- the same of a rectangle with these ends
pub ends_on_board : (r a : Bounds) (p : Point) → r.x0 ≡ (hull a (point_box p)).x0 → r.y0 ≡ (hull a (point_box p)).y0 → r.x1 ≡ (hull a (point_box p)).x1 → r.y1 ≡ (hull a (point_box p)).y1
    → IsOnBoardBox a → IsPlace p → IsOnBoardBox r
ends_on_board r a p x0 y0 x1 y1 h k =
    let own = hull_on_board a p h k in
    record {
      within = record {
        west = subst (λ v. neg_ℤ (pos 500000000) ≤ℤ v) (sym x0) own.within.west;
        south = subst (λ v. neg_ℤ (pos 500000000) ≤ℤ v) (sym y0) own.within.south;
        east = subst (λ v. v ≤ℤ pos 500000000) (sym x1) own.within.east;
        north = subst (λ v. v ≤ℤ pos 500000000) (sym y1) own.within.north;
      };
      across = subst (λ v. v ≤ℤ r.x1) (sym x0) (subst (λ v. (hull a (point_box p)).x0 ≤ℤ v) (sym x1) own.across);
      up = subst (λ v. v ≤ℤ r.y1) (sym y0) (subst (λ v. (hull a (point_box p)).y0 ≤ℤ v) (sym y1) own.up);
    }
