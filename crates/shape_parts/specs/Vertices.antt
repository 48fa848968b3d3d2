-- How many points the areas of a shape have.
use Rattle.std.specs.Prelude.{ℕ, List, length}
use Rattle.std.specs.List.{sum_by}
use Rattle.poly_area.specs.Area.{edges_of}
use Rattle.shape_parts.specs.declared.shape.Part.{Part}
use Rattle.shape_parts.specs.declared.shape.Part.TheVariants.{Disc, Capsule, Area}
use Rattle.shape_parts.specs.declared.shape.Piece.{Piece}

-- the points of an area, one for each edge; a disc or a capsule has none
abbrev pub part_vertices : Part → ℕ
part_vertices (Disc c d) = 0
part_vertices (Capsule a b d) = 0
part_vertices (Area loops) = length (edges_of loops)

-- the points of all areas
abbrev pub vertices_of : List Piece → ℕ
vertices_of pieces = sum_by (λ p. part_vertices p.part) pieces
