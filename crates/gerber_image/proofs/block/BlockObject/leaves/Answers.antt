use Rattle.std.proofs.Common.{◌∙◌, ap, pos, map, List}
use Rattle.std.specs.List.{list_any, flat_map}
use Rattle.board_base.specs.declared.places.Point.{Point}
use Rattle.shape_parts.specs.declared.shape.Painted.{Painted}
use Rattle.gerber_image.specs.Regions.{area_of}
use Rattle.gerber_image.specs.Image.{shifted_piece}
use Rattle.gerber_image.specs.Checks.{piece_leaves}
use Rattle.gerber_image.proofs.Shifts.{behind_leaves}
use Rattle.gerber_image.proofs.block.BlockObject.leaves.Goals as goal

pub returns : goal.returns
returns c =
    behind_leaves c.self.inside.shape (flat_map area_of c.self.inside.large.items) c.args.dx c.args.dy c.shape_leaves-shape.result c.contours_leave-large.result c.either.result c.shape_leaves-shape.ensures
    (c.contours_leave-large.ensures ∙ ap (λ (l : List (List Point)). list_any piece_leaves (map (shifted_piece (pos c.args.dx) (pos c.args.dy)) (flat_map area_of l))) c.deref.ensures.value) c.either.ensures
    ∙ ap (λ (p : Painted). list_any piece_leaves (map (shifted_piece (pos c.args.dx) (pos c.args.dy)) p.shape)) c.self.view_is
