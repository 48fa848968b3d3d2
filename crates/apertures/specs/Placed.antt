-- Apertures at a place: mirrored, then turned, then shifted.
use Rattle.std.specs.Prelude.{ℤ, neg_ℤ, ◌+ℤ◌, List, if◌then◌else◌, ◌==◌, Option, Some}
use Rattle.board_base.specs.OptionBinds.{◌>>=◌}
use Rattle.board_base.specs.declared.places.Point.{Point}
use Rattle.fixed_num.specs.Angles.{in_turn}
use Rattle.plane_arcs.specs.Turned.{rotated, point_at}
use Rattle.shape_parts.specs.declared.shape.Piece.{Piece}
use Rattle.shape_parts.specs.Moved.{moved_pieces}
use Rattle.apertures.specs.declared.place.Mirror.{Mirror}
use Rattle.apertures.specs.declared.place.Mirror.TheVariants.{Keep, X, Y, Xy}

-- the point with the coordinates negated that the mirror names
unfoldable pub mirrored : Mirror → Point → Point
mirrored Keep p = p
mirrored X p = record { x = neg_ℤ p.x; y = p.y }
mirrored Y p = record { x = p.x; y = neg_ℤ p.y }
mirrored Xy p = record { x = neg_ℤ p.x; y = neg_ℤ p.y }

-- the point turned about the origin, where it is in the range; whole turns leave it
unfoldable pub turned : ℤ → Point → Option Point
turned angle p = if in_turn angle == 0 then Some p else rotated p angle

-- the point shifted, where it is in the range
unfoldable pub shifted : Point → Point → Option Point
shifted by p = point_at (p.x +ℤ by.x) (p.y +ℤ by.y)

-- where a point of a shape at the origin comes to, if it stays in the range
unfoldable pub placed_point : Point → Mirror → ℤ → Point → Option Point
placed_point place mirror angle p = do
  q ← turned angle (mirrored mirror p)
  shifted place q

-- the pieces of a shape at a place, where no point leaves the range
unfoldable pub placed : Point → Mirror → ℤ → List Piece → Option (List Piece)
placed place mirror angle pieces = moved_pieces (placed_point place mirror angle) pieces
