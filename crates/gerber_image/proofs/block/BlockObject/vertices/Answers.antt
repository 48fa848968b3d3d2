use Rattle.std.proofs.Common.{◌∙◌, ◌+◌, ap, List}
use Rattle.std.specs.List.{flat_map}
use Rattle.board_base.specs.declared.places.Point.{Point}
use Rattle.shape_parts.specs.declared.shape.Painted.{Painted}
use Rattle.shape_parts.specs.Vertices.{vertices_of}
use Rattle.gerber_image.specs.Regions.{area_of}
use Rattle.gerber_image.specs.Objects.{capped}
use Rattle.gerber_image.proofs.Counts.{block_object}
use Rattle.gerber_image.proofs.block.BlockObject.vertices.Goals as goal

pub returns : goal.returns
returns c =
    block_object c.self.inside.shape (flat_map area_of c.self.inside.large.items) c.capped_sum-shape.result c.capped_sum.result c.corners_of.result
    (c.corners_of.ensures ∙ ap (λ (l : List (List Point)). vertices_of (flat_map area_of l)) c.deref.ensures.value)
    (c.capped_sum-shape.ensures ∙ ap (λ n. capped (0 + n)) c.vertices.ensures) c.capped_sum.ensures
    ∙ ap (λ (p : Painted). capped (vertices_of p.shape)) c.self.view_is
