-- Which numbers may be places of the board, in nanometres.
use Rattle.std.specs.Prelude.{ℤ, pos, neg_ℤ, ◌≤ℤ◌, unsigned_abs, nat_le, nat_lt, Bool, ◌&&◌, Option, Some, None}
use Rattle.std.specs.Ordering.{int_eq}
use Rattle.board_base.specs.declared.places.Point.{Point}
use Rattle.board_base.specs.declared.places.Bounds.{Bounds}

-- at most 500 mm in size
pub record IsCoordinate (v : ℤ) : Type 0 where
  pub low : neg_ℤ (pos 500000000) ≤ℤ v
  pub high : v ≤ℤ pos 500000000

-- whether a number is
abbrev pub is_coordinate : ℤ → Bool
is_coordinate v = nat_le (unsigned_abs v) 500000000

-- more than 500 mm in size
abbrev pub is_beyond : ℤ → Bool
is_beyond v = nat_lt 500000000 (unsigned_abs v)

-- the point where x and y are 0
abbrev pub origin : Point
origin = record { x = pos 0; y = pos 0 }

-- one and the same point
abbrev pub same_point : Point → Point → Bool
same_point a b = int_eq a.x b.x && int_eq a.y b.y

-- each coordinate of a point is at most 500 mm in size
pub record IsPlace (p : Point) : Type 0 where
  pub x : IsCoordinate p.x
  pub y : IsCoordinate p.y

-- at most a tenth of a millimetre more, as the centre of a cell at the edge may be
pub record IsNearCoordinate (v : ℤ) : Type 0 where
  pub low : neg_ℤ (pos 500100000) ≤ℤ v
  pub high : v ≤ℤ pos 500100000

-- the same of both coordinates of a point
pub record IsNearPlace (p : Point) : Type 0 where
  pub x_in : IsNearCoordinate p.x
  pub y_in : IsNearCoordinate p.y

-- a width: the copper of a draw, or a cut with what is kept clear on its sides, is at most 4 m across
pub record IsSpan (d : ℤ) : Type 0 where
  pub low : pos 0 ≤ℤ d
  pub high : d ≤ℤ pos 4000000000

-- a rectangle whose sides are at most so far from zero
pub record IsWithin (limit : ℤ) (b : Bounds) : Type 0 where
  pub west : neg_ℤ limit ≤ℤ b.x0
  pub south : neg_ℤ limit ≤ℤ b.y0
  pub east : b.x1 ≤ℤ limit
  pub north : b.y1 ≤ℤ limit

-- the same of a rectangle, where there is one
abbrev pub AreWithin : ℤ → Option Bounds → Type 0
AreWithin limit None = Unit {0}
AreWithin limit (Some b) = IsWithin limit b
