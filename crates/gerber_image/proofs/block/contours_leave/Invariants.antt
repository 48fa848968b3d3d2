use Rattle.std.proofs.Common.{◌≡◌, take, map, pos}
use Rattle.std.specs.List.{list_any, flat_map}
use Rattle.gerber_image.specs.Regions.{area_of}
use Rattle.gerber_image.specs.Image.{shifted_piece}
use Rattle.gerber_image.specs.Checks.{piece_leaves}
use Rattle.gerber_image.proofs.block.contours_leave.Given as goal

abbrev pub invariant-contours : goal.invariant-contours
invariant-contours l = l.found ≡ list_any piece_leaves (map (shifted_piece (pos l.dx) (pos l.dy)) (flat_map area_of (take l.contour-index l.contours)))
