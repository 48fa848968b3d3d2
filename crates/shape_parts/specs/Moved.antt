-- Shapes whose points are moved.
use Rattle.std.specs.Prelude.{List, [], ◌∷◌, Option, Some}
use Rattle.board_base.specs.declared.places.Point.{Point}
use Rattle.board_base.specs.OptionBinds.{◌>>=◌}
use Rattle.poly_area.specs.Moved.{moved_loops}
use Rattle.shape_parts.specs.declared.shape.Part.{Part}
use Rattle.shape_parts.specs.declared.shape.Part.TheVariants.{Disc, Capsule, Area}
use Rattle.shape_parts.specs.declared.shape.Piece.{Piece}

-- a part whose points are moved, or none where one leaves the range; its width stays
abbrev pub moved_part : (Point → Option Point) → Part → Option Part
moved_part move (Disc c d) = do
  c ← move c
  Some (Disc c d)
moved_part move (Capsule a b d) = do
  a ← move a
  b ← move b
  Some (Capsule a b d)
moved_part move (Area loops) = do
  loops ← moved_loops move loops
  Some (Area loops)

-- pieces whose points are moved, or none where one leaves the range; they stay on or off
abbrev pub moved_pieces : (Point → Option Point) → List Piece → Option (List Piece)
moved_pieces move [] = Some []
moved_pieces move (p ∷ ps) = do
  part ← moved_part move p.part
  others ← moved_pieces move ps
  Some (record { part = part; on = p.on } ∷ others)
