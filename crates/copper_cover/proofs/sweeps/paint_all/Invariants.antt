use Rattle.std.proofs.Common.{take}
use Rattle.copper_cover.specs.Rows.{AreWide}
use Rattle.copper_cover.proofs.Painting.{IsCovered}
use Rattle.copper_cover.proofs.sweeps.paint_all.Given as goal

abbrev pub invariant-objects : goal.invariant-objects
invariant-objects l = record {
  covered : IsCovered l.fn.bench l.bench (take l.object-index l.painted.items);
  wide : AreWide l.rows (l.fn.bench).frame.width;
}
