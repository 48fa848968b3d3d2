use Rattle.std.proofs.Common.{take}
use Rattle.copper_cover.proofs.Painting.{IsCovered}
use Rattle.copper_cover.proofs.cells.plain_cover.Given as goal

abbrev pub invariant-objects : goal.invariant-objects
invariant-objects l = IsCovered l.fn.bench l.bench (take l.object-index l.painted.items)
