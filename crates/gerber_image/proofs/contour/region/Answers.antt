use Rattle.std.proofs.Common.{◌≤◌, sym, subst, arith}
use Rattle.shape_parts.specs.Vertices.{vertices_of}
use Rattle.gerber_image.specs.Regions.{area_of}
use Rattle.gerber_image.proofs.Counts.{one_contour}
use Rattle.gerber_image.proofs.contour.region.Goals as goal

pub add_to-requires : goal.add_to-requires
add_to-requires c =
    subst (λ p. vertices_of (area_of p) ≤ 4194304) (sym c.contour-item.is)
    (omega (arith, one_contour c.args.contours.now c.contours.contour-index c.contour-item.result c.contours-test.true, c.requires))
