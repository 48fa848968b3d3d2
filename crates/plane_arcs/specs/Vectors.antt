-- Vectors from the centre of a circle. Each is written as the point where it ends if it begins at the origin.
use Rattle.std.specs.Prelude.{ℕ, zero, suc, ◌≤◌, ℤ, pos, neg_ℤ, ◌+ℤ◌, ◌-ℤ◌, ◌*ℤ◌, ◌≤ℤ◌, unsigned_abs, int_le, int_lt, Bool, if◌then◌else◌, ◌&&◌}
use Rattle.std.specs.Ordering.{int_eq}
use Rattle.board_base.specs.declared.places.Point.{Point}
use Rattle.fixed_num.specs.Rounding.{root, round_div_of}

-- at most 30 m in size
pub record IsFarCoordinate (v : ℤ) : Type 0 where
  pub low : neg_ℤ (pos 30000000000000) ≤ℤ v
  pub high : v ≤ℤ pos 30000000000000

-- the same of both coordinates of a point
pub record IsArcPlace (p : Point) : Type 0 where
  pub x : IsFarCoordinate p.x
  pub y : IsFarCoordinate p.y

-- each coordinate of a vector is at most the limit in size
pub record IsUpTo (limit : ℕ) (v : Point) : Type 0 where
  pub x : unsigned_abs v.x ≤ limit
  pub y : unsigned_abs v.y ≤ limit

-- the vector from a point to another
unfoldable pub vector : Point → Point → Point
vector from to = record { x = to.x -ℤ from.x; y = to.y -ℤ from.y }

-- the sum of two vectors, or the point where a vector ends that begins at a point
unfoldable pub added : Point → Point → Point
added a b = record { x = a.x +ℤ b.x; y = a.y +ℤ b.y }

-- whether a vector has no length
abbrev pub is_zero : Point → Bool
is_zero v = int_eq v.x (pos 0) && int_eq v.y (pos 0)

-- the product of two vectors that is 0 where they are at right angles, and above 0 where they are closer
unfoldable pub dot : Point → Point → ℤ
dot a b = a.x *ℤ b.x +ℤ a.y *ℤ b.y

-- the product of two vectors that is above 0 where b is less than 180 degrees from a, counterclockwise
unfoldable pub cross : Point → Point → ℤ
cross a b = a.x *ℤ b.y -ℤ a.y *ℤ b.x

-- the length of a vector, cut to a whole number
unfoldable pub vector_length : Point → ℕ
vector_length v = root (unsigned_abs (dot v v))

-- a coordinate of a vector of this length, where the vector is brought to length r
unfoldable pub scaled_to : ℕ → ℕ → ℤ → ℤ
scaled_to r length v = round_div_of (v *ℤ pos r) (pos length)

-- a vector brought to length r
unfoldable pub brought_to : ℕ → Point → Point
brought_to r m = record { x = scaled_to r (vector_length m) m.x; y = scaled_to r (vector_length m) m.y }

-- the vector of length r half way between two; a where they cancel out
unfoldable pub between : ℕ → Point → Point → Point
between r a c = if is_zero (added a c) then a else brought_to r (added a c)

-- a vector turned by 90 degrees, counterclockwise or clockwise
unfoldable pub quarter_on : Bool → Point → Point
quarter_on ccw q = if ccw then record { x = neg_ℤ q.y; y = q.x } else record { x = q.y; y = neg_ℤ q.x }

-- a vector turned by k times 90 degrees
abbrev pub turned : ℕ → Bool → Point → Point
turned zero ccw u = u
turned (suc k) ccw u = quarter_on ccw (turned k ccw u)

-- whether v lies past q in this direction, by at most 90 degrees
unfoldable pub ends_in : Bool → Point → Point → Bool
ends_in ccw q v = int_le (pos 0) (dot q v) && (if ccw then int_lt (pos 0) (cross q v) else int_lt (cross q v) (pos 0))

-- how many whole quarters lie between u and v in this direction: the first quarter that holds v is the last one
unfoldable pub last_quarter : Bool → Point → Point → ℕ
last_quarter ccw u v =
    if ends_in ccw u v then 0
    else if ends_in ccw (turned 1 ccw u) v then 1
    else if ends_in ccw (turned 2 ccw u) v then 2
    else 3
