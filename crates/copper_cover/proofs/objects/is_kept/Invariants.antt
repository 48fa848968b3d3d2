use Rattle.std.proofs.Common.{◌≡◌, take}
use Rattle.shape_parts.specs.Cover.{is_kept}
use Rattle.copper_cover.proofs.objects.is_kept.Given as goal

abbrev pub invariant-objects : goal.invariant-objects
invariant-objects l = l.kept ≡ is_kept l.c l.h (take l.object-index l.painted.items)
