-- Distances of points from segments. A point may be in any unit of length, with the width in the same unit.
use Rattle.std.specs.Prelude.{ℤ, pos, ◌+ℤ◌, ◌-ℤ◌, ◌*ℤ◌, Bool, cond, int_le}
use Rattle.board_base.specs.declared.places.Point.{Point}

-- the inner product of two ways
unfoldable pub dot : ℤ → ℤ → ℤ → ℤ → ℤ
dot ax ay bx by = ax *ℤ bx +ℤ ay *ℤ by

-- their cross product
unfoldable pub cross : ℤ → ℤ → ℤ → ℤ → ℤ
cross ax ay bx by = ax *ℤ by -ℤ ay *ℤ bx

-- a number times itself
unfoldable pub square : ℤ → ℤ
square z = z *ℤ z

-- a limit times an area
unfoldable pub area_by : ℤ → ℤ → ℤ
area_by limit area = limit *ℤ area

-- four times n is at most the limit
unfoldable pub fits_four_times : ℤ → ℤ → Bool
fits_four_times n limit = int_le (pos 4 *ℤ n) limit

-- twice the length of (x, y) is at most d
unfoldable pub is_short : ℤ → ℤ → ℤ → Bool
is_short x y d = fits_four_times (dot x y x y) (square d)

-- twice the distance of w from the line along u is at most d
unfoldable pub is_beside : ℤ → ℤ → ℤ → ℤ → ℤ → Bool
is_beside ux uy wx wy d = fits_four_times (square (cross ux uy wx wy)) (area_by (square d) (dot ux uy ux uy))

-- near, by the ways u from a to b, w from a to q, and v from b to q
unfoldable pub near_vec : ℤ → ℤ → ℤ → ℤ → ℤ → ℤ → ℤ → Bool
near_vec ux uy wx wy vx vy d =
    cond (int_le (dot ux uy ux uy) (pos 0)) (is_short wx wy d)
    (cond (int_le (dot wx wy ux uy) (pos 0)) (is_short wx wy d)
    (cond (int_le (dot ux uy ux uy) (dot wx wy ux uy)) (is_short vx vy d) (is_beside ux uy wx wy d)))

-- the way from one coordinate to another
unfoldable pub from_to : ℤ → ℤ → ℤ
from_to a b = b -ℤ a

-- twice the distance of q from the segment ab is at most d
unfoldable pub near_of : Point → Point → Point → ℤ → Bool
near_of q a b d = near_vec (from_to a.x b.x) (from_to a.y b.y) (from_to a.x q.x) (from_to a.y q.y) (from_to b.x q.x) (from_to b.y q.y) d
