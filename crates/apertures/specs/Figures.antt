-- Apertures as contracts see them.
use Rattle.std.specs.Prelude.{ℤ, List, Option}
use Rattle.std.specs.List.{All}
use Rattle.std.specs.Option.{IfSome}
use Rattle.board_base.specs.Places.{IsPlace}
use Rattle.shape_parts.specs.Parts.{IsWidth}
use Rattle.shape_parts.specs.declared.shape.Part.{Part}
use Rattle.shape_parts.specs.declared.shape.Part.TheVariants.{Disc, Capsule, Area}
use Rattle.shape_parts.specs.declared.shape.Piece.{Piece}

-- the shape of an aperture at the origin, and the diameter of its strokes where it makes strokes
pub record Figure : Type 0 where
  pub pieces : List Piece
  pub stroke : Option ℤ

-- points that are places, and a width of at most a metre where there is one
abbrev pub IsBounded : Part → Type 0
IsBounded (Disc c d) = IsPlace c × IsWidth d
IsBounded (Capsule a b d) = IsPlace a × IsPlace b × IsWidth d
IsBounded (Area loops) = All (All IsPlace) loops

-- the same of a piece
abbrev pub IsBoundedPiece : Piece → Type 0
IsBoundedPiece p = IsBounded p.part

-- the same of all pieces and of the strokes
pub record IsFigure (f : Figure) : Type 0 where
  pub pieces : All IsBoundedPiece f.pieces
  pub stroke : IfSome f.stroke IsWidth
