use Rattle.std.proofs.Common.{◌≡◌, take}
use Rattle.std.specs.List.{flat_map}
use Rattle.gerber_image.specs.Regions.{area_of}
use Rattle.gerber_image.proofs.contour.region.Given as goal

abbrev pub invariant-contours : goal.invariant-contours
invariant-contours l = l.shape ≡ flat_map area_of (take l.contour-index l.contours)
