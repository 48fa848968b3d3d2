-- Regions: contours, and the areas that they bound.
use Rattle.std.specs.Prelude.{◌&&◌, Bool, List, [], ◌∷◌, ◌++◌, length, take, if◌then◌else◌, nat_le}
use Rattle.std.specs.List.{flat_map}
use Rattle.std.specs.Ordering.{int_eq}
use Rattle.board_base.specs.declared.places.Point.{Point}
use Rattle.shape_parts.specs.declared.shape.Part.TheVariants.{Area}
use Rattle.shape_parts.specs.declared.shape.Piece.{Piece}
use Rattle.shape_parts.specs.declared.shape.Painted.{Painted}
use Rattle.apertures.specs.Defined.{solid}
use Rattle.board_base.specs.Places.{same_point}

-- the contours of an open region: those that are ended, and the points so far of the one that isn't
pub record Outline : Type 0 where
  pub ended : List (List Point)
  pub points : List Point

-- no contours
abbrev pub no_outline : Outline
no_outline = record { ended = []; points = [] }

-- all of them
abbrev pub contours_of : Outline → List (List Point)
contours_of outline = outline.ended ++ outline.points ∷ []

-- the last of the points, where p stands before them
abbrev pub last_behind : Point → List Point → Point
last_behind p [] = p
last_behind p (q ∷ points) = last_behind q points

-- a contour without its last point, where that is the first one again
abbrev pub without_return : List Point → List Point
without_return [] = []
without_return (p ∷ points) = if same_point p (last_behind p points) then take (length points) (p ∷ points) else p ∷ points

-- an area of these points, where they are three or more
abbrev pub area_through : List Point → List Piece
area_through points = if nat_le 3 (length points) then solid (Area (points ∷ [])) ∷ [] else []

-- the area that a contour bounds, if it bounds one
unfoldable pub area_of : List Point → List Piece
area_of contour = area_through (without_return contour)

-- the object of a region: an area for each contour that bounds one
abbrev pub region_of : Bool → Outline → Painted
region_of dark outline = record { shape = flat_map area_of (contours_of outline); dark = dark }
