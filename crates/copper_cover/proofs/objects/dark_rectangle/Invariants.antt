use Rattle.std.proofs.Common.{◌≡◌, None, take}
use Rattle.std.specs.List.{fold}
use Rattle.shape_parts.specs.Boxes.{AreBounds}
use Rattle.copper_cover.specs.Kept.{object_box}
use Rattle.copper_cover.proofs.objects.dark_rectangle.Given as goal

abbrev pub invariant-objects : goal.invariant-objects
invariant-objects l = (l.all ≡ fold object_box None (take l.object-index l.painted.items)) × AreBounds l.all
