-- Points in the range, and points turned about the origin.
use Rattle.std.specs.Prelude.{ℤ, pos, ◌+ℤ◌, ◌-ℤ◌, ◌*ℤ◌, Bool, not, if◌then◌else◌, ◌&&◌, Option, Some, None}
use Rattle.board_base.specs.declared.places.Point.{Point}
use Rattle.fixed_num.specs.Rounding.{round_div_of}
use Rattle.fixed_num.specs.Angles.{sine_of, cosine_of}
use Rattle.board_base.specs.Places.{is_coordinate}

-- the coordinates of a point turned about the origin, in whole nanometres
unfoldable pub turned_x : Point → ℤ → ℤ
turned_x p angle = round_div_of (p.x *ℤ cosine_of angle -ℤ p.y *ℤ sine_of angle) (pos 1000000000000)

unfoldable pub turned_y : Point → ℤ → ℤ
turned_y p angle = round_div_of (p.x *ℤ sine_of angle +ℤ p.y *ℤ cosine_of angle) (pos 1000000000000)

-- whether a coordinate is at most 500 mm in size
unfoldable pub in_range : ℤ → Bool
in_range v = is_coordinate v

-- a point is past the range
abbrev pub is_far : Point → Bool
is_far p = not (in_range p.x && in_range p.y)

-- the point with these coordinates, where both are in the range
abbrev pub point_at : ℤ → ℤ → Option Point
point_at x y = if in_range x && in_range y then Some (record { x = x; y = y }) else None

-- the point turned about the origin, where it is in the range
abbrev pub rotated : Point → ℤ → Option Point
rotated p angle = point_at (turned_x p angle) (turned_y p angle)
