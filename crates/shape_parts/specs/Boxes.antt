-- The rectangle round a shape.
use Rattle.std.specs.Prelude.{ℤ, pos, ◌≤ℤ◌, ◌+ℤ◌, ◌-ℤ◌, int_lt, cond, List, Option, Some, None}
use Rattle.std.specs.List.{fold}
use Rattle.std.specs.Int.{int_div_euclid, int_min, int_max}
use Rattle.board_base.specs.declared.places.Point.{Point}
use Rattle.poly_area.specs.Area.{edges_of}
use Rattle.shape_parts.specs.declared.shape.Part.{Part}
use Rattle.shape_parts.specs.declared.shape.Part.TheVariants.{Disc, Capsule, Area}
use Rattle.shape_parts.specs.declared.shape.Piece.{Piece}
use Rattle.board_base.specs.declared.places.Bounds.{Bounds}
use Rattle.board_base.specs.Places.{IsWithin}

-- half of a width, rounded up
unfoldable pub half_up : ℤ → ℤ
half_up d = int_div_euclid (d +ℤ pos 1) (pos 2)

-- the square of half side r round p
unfoldable pub around : Point → ℤ → Bounds
around p r = record { x0 = p.x -ℤ r; y0 = p.y -ℤ r; x1 = p.x +ℤ r; y1 = p.y +ℤ r }

-- the least rectangle that holds both
unfoldable pub hull : Bounds → Bounds → Bounds
hull a b = record { x0 = int_min a.x0 b.x0; y0 = int_min a.y0 b.y0; x1 = int_max a.x1 b.x1; y1 = int_max a.y1 b.y1 }

-- a rectangle, or none yet, grown by the square of half side r round a point
abbrev pub widened : ℤ → Option Bounds → Point → Option Bounds
widened r None p = Some (around p r)
widened r (Some b) p = Some (hull b (around p r))

-- the rectangle grown by a part that has a width, or by the points of an area
abbrev pub part_box : Option Bounds → Part → Option Bounds
part_box box (Disc c d) = cond (int_lt (pos 0) d) (widened (half_up d) box c) box
part_box box (Capsule a b d) = cond (int_lt (pos 0) d) (widened (half_up d) (widened (half_up d) box a) b) box
part_box box (Area loops) = fold (λ b e. widened (pos 0) b e.from) box (edges_of loops)

-- the rectangle grown by a piece that is on
abbrev pub piece_box : Option Bounds → Piece → Option Bounds
piece_box box p = cond p.on (part_box box p.part) box

-- the rectangle round all pieces that are on
abbrev pub shape_box : List Piece → Option Bounds
shape_box pieces = fold piece_box None pieces

-- a rectangle within a metre of the origin, whose west end isn't past the east end, nor the south end past the north end
pub record IsBounds (b : Bounds) : Type 0 where
  pub within : IsWithin (pos 1000000000) b
  pub across : b.x0 ≤ℤ b.x1
  pub up : b.y0 ≤ℤ b.y1

-- the same of a rectangle, where there is one
abbrev pub AreBounds : Option Bounds → Type 0
AreBounds None = Unit {0}
AreBounds (Some b) = IsBounds b
