use Rattle.std.proofs.Common.{◌≡◌, ◌≤◌, ◌*◌, take}
use Rattle.std.specs.List.{flat_map}
use Rattle.shape_parts.specs.Vertices.{vertices_of}
use Rattle.gerber_image.specs.Regions.{area_of}
use Rattle.gerber_image.proofs.contour.corners_of.Given as goal

abbrev pub invariant-contours : goal.invariant-contours
invariant-contours l = record {
  corners : l.corners ≡ vertices_of (flat_map area_of (take l.contour-index l.contours));
  small : l.corners ≤ l.contour-index * 18446744073709551615;
}
