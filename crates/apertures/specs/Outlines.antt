-- The outlines of rectangles and polygons about the origin.
use Rattle.std.specs.Prelude.{ℕ, ◌+◌, ◌*◌, ◌/◌, ℤ, pos, neg_ℤ, ◌*ℤ◌, List, [], ◌∷◌, map}
use Rattle.std.specs.List.{range_with_len}
use Rattle.board_base.specs.declared.places.Point.{Point}
use Rattle.fixed_num.specs.Rounding.{round_div_of}
use Rattle.fixed_num.specs.Angles.{sine_of, cosine_of}
use Rattle.shape_parts.specs.Boxes.{half_up}

-- a point by its coordinates
abbrev pub at : ℤ → ℤ → Point
at x y = record { x = x; y = y }

-- the corners of a box, counterclockwise from the upper right one
unfoldable pub corners : ℤ → ℤ → List Point
corners w h =
    at (half_up w) (half_up h) ∷ at (neg_ℤ (half_up w)) (half_up h) ∷ at (neg_ℤ (half_up w)) (neg_ℤ (half_up h)) ∷ at (half_up w) (neg_ℤ (half_up h)) ∷ []

-- the angle of vertex k of n where the first stands at `turn`, in millionths of a degree: the k-th part of a turn, cut
unfoldable pub vertex_angle : ℕ → ℕ → ℕ → ℕ
vertex_angle n turn k = turn + 360000000 * k / n

-- half of a diameter times a sine
unfoldable pub half_times : ℤ → ℤ → ℤ
half_times d sine = round_div_of (d *ℤ sine) (pos 2000000000000)

-- the point at an angle on the circle of diameter d, to the nearest nanometre
abbrev pub on_circle : ℤ → ℤ → Point
on_circle d angle = at (half_times d (cosine_of angle)) (half_times d (sine_of angle))

-- vertex k of a regular polygon of n vertices in a circle of diameter d
abbrev pub vertex : ℤ → ℕ → ℕ → ℕ → Point
vertex d n turn k = on_circle d (pos (vertex_angle n turn k))

-- its vertices, counterclockwise
abbrev pub vertices : ℤ → ℕ → ℕ → List Point
vertices d n turn = map (vertex d n turn) (range_with_len 0 n)
