-- The other side of the board.
use Rattle.std.specs.Prelude.{map}
use Rattle.poly_area.specs.Mirror.{mirrored, mirrored_loops}
use Rattle.shape_parts.specs.declared.shape.Part.{Part}
use Rattle.shape_parts.specs.declared.shape.Part.TheVariants.{Disc, Capsule, Area}
use Rattle.shape_parts.specs.declared.shape.Piece.{Piece}
use Rattle.shape_parts.specs.declared.shape.Painted.{Painted}

-- the part on the other side
abbrev pub mirrored_part : Part → Part
mirrored_part (Disc c d) = Disc (mirrored c) d
mirrored_part (Capsule a b d) = Capsule (mirrored a) (mirrored b) d
mirrored_part (Area loops) = Area (mirrored_loops loops)

-- the piece on the other side, on where it was
abbrev pub mirrored_piece : Piece → Piece
mirrored_piece p = record { part = mirrored_part p.part; on = p.on }

-- the object on the other side, dark where it was
abbrev pub mirrored_object : Painted → Painted
mirrored_object o = record { shape = map mirrored_piece o.shape; dark = o.dark }
