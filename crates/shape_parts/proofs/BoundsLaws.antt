-- The rectangle round a shape lies within a metre of the origin, and its ends are in their order.
use Rattle.std.proofs.Common.{◌≡◌, ℤ, pos, neg_ℤ, ◌≤ℤ◌, int_lt, Bool, true, false, cond, refl, arith}
use Rattle.std.specs.Int.{int_min, int_max}
use borrow.Author.Differences.{ints}
use Rattle.board_base.specs.declared.places.Point.{Point}
use Rattle.board_base.specs.declared.places.Bounds.{Bounds}
use Rattle.board_base.specs.Places.{IsPlace}
use Rattle.shape_parts.specs.Boxes.{around, hull, IsBounds}

-- the lesser of two numbers is one of them, and no greater than either
lesser : (P : ℤ → Type 0) (a b : ℤ) → P a → P b → P (int_min a b)
lesser P a b h k = pick (int_lt b a)
  where
    pick : (t : Bool) → P (cond t b a)
    pick true = k
    pick false = h

greater : (P : ℤ → Type 0) (a b : ℤ) → P a → P b → P (int_max a b)
greater P a b h k = pick (int_lt b a)
  where
    pick : (t : Bool) → P (cond t a b)
    pick true = h
    pick false = k

low_end : (a b x : ℤ) → a ≤ℤ x → int_min a b ≤ℤ x
low_end a b x h = pick (int_lt b a) refl
  where
    pick : (t : Bool) → int_lt b a ≡ t → cond t b a ≤ℤ x
    pick true e = omega (arith, ints, e, h)
    pick false e = h

high_end : (a b x : ℤ) → x ≤ℤ a → x ≤ℤ int_max a b
high_end a b x h = pick (int_lt b a) refl
  where
    pick : (t : Bool) → int_lt b a ≡ t → x ≤ℤ cond t a b
    pick true e = h
    pick false e = omega (arith, ints, e, h)

between : (a b c d : ℤ) → a ≤ℤ c → int_min a b ≤ℤ int_max c d
between a b c d h = high_end c d (int_min a b) (low_end a b c h)

pub hull_bounds : (a b : Bounds) → IsBounds a → IsBounds b → IsBounds (hull a b)
unfolding hull
hull_bounds a b h k = record {
  within = record {
    west = lesser (λ x. neg_ℤ (pos 1000000000) ≤ℤ x) a.x0 b.x0 h.within.west k.within.west;
    south = lesser (λ x. neg_ℤ (pos 1000000000) ≤ℤ x) a.y0 b.y0 h.within.south k.within.south;
    east = greater (λ x. x ≤ℤ pos 1000000000) a.x1 b.x1 h.within.east k.within.east;
    north = greater (λ x. x ≤ℤ pos 1000000000) a.y1 b.y1 h.within.north k.within.north;
  };
  across = between a.x0 b.x0 a.x1 b.x1 h.across;
  up = between a.y0 b.y0 a.y1 b.y1 h.up;
}

-- half of a width that is there
pub record IsHalf (r : ℤ) : Type 0 where
  pub low : pos 0 ≤ℤ r
  pub high : r ≤ℤ pos 500000000

pub around_bounds : (p : Point) (r : ℤ) → IsPlace p → IsHalf r → IsBounds (around p r)
unfolding around
around_bounds p r h k = record {
  within = record { west = omega (arith, ints); south = omega (arith, ints); east = omega (arith, ints); north = omega (arith, ints) };
  across = omega (arith, ints);
  up = omega (arith, ints);
}
