-- Near a single point.
use Rattle.std.proofs.Common.{◌≡◌, ℤ, pos, ◌+ℤ◌, ◌-ℤ◌, ◌*ℤ◌, ◌≤ℤ◌, Bool, true, false, cond, [], ◌∷◌, refl, arith}
use borrow.Author.Differences.{ints}
use Rattle.number_laws.proofs.Ring.{Ex, var, num, add, sub, mul, ring}
use Rattle.number_laws.proofs.Tests.{to_le, of_le}
use Rattle.board_base.specs.declared.places.Point.{Point}
use Rattle.board_base.specs.Near.{near_of, near_vec, is_short, fits_four_times, square, dot, from_to}
use Rattle.plane_geom.specs.NearStep.{length2}

abbrev SQ : Ex → Ex
SQ e = mul e e

no_way : (x y : ℤ) → ((x -ℤ x) *ℤ (x -ℤ x) +ℤ (y -ℤ y) *ℤ (y -ℤ y)) ≤ℤ pos 0
no_way x y = by ((x -ℤ x) *ℤ (x -ℤ x) +ℤ (y -ℤ y) *ℤ (y -ℤ y)) (ring (x ∷ y ∷ []) (add (SQ (sub (var 0) (var 0))) (SQ (sub (var 1) (var 1)))) (num (pos 0)) refl)
  where
    by : (z : ℤ) → z ≡ pos 0 → z ≤ℤ pos 0
    by z e = omega (arith, ints)

picked : (t a b : Bool) → t ≡ true → cond t a b ≡ true → a ≡ true
picked true a b e h = h
picked false a b e h = absurd (cc)

pick : (t a b : Bool) → t ≡ true → a ≡ true → cond t a b ≡ true
pick true a b e h = h
pick false a b e h = absurd (cc)

-- a point is near another where four times their squared distance is at most the square of d
pub near_point : (q c : Point) (d : ℤ) → near_of q c c d ≡ true → (pos 4 *ℤ length2 (q.x -ℤ c.x) (q.y -ℤ c.y)) ≤ℤ (d *ℤ d)
unfolding near_of near_vec from_to dot is_short fits_four_times square
near_point q c d e = to_le (pos 4 *ℤ length2 (q.x -ℤ c.x) (q.y -ℤ c.y)) (d *ℤ d) (picked _ _ _ (of_le _ _ (no_way c.x c.y)) e)

pub point_near : (q c : Point) (d : ℤ) → (pos 4 *ℤ length2 (q.x -ℤ c.x) (q.y -ℤ c.y)) ≤ℤ (d *ℤ d) → near_of q c c d ≡ true
unfolding near_of near_vec from_to dot is_short fits_four_times square
point_near q c d h = pick _ _ _ (of_le _ _ (no_way c.x c.y)) (of_le (pos 4 *ℤ length2 (q.x -ℤ c.x) (q.y -ℤ c.y)) (d *ℤ d) h)
