use Rattle.std.proofs.Common.{◌≡◌, pos, take}
use Rattle.std.specs.List.{fold}
use Rattle.poly_area.specs.Area.{edges_of}
use Rattle.shape_parts.specs.Boxes.{widened, AreBounds}
use Rattle.shape_parts.proofs.boxes.with_area.Given as goal

abbrev pub invariant-edges : goal.invariant-edges
invariant-edges l = record {
  value : l.all ≡ fold (λ b e. widened (pos 0) b e.from) l.fn.to (take l.k (edges_of l.poly));
  bounds : AreBounds l.all;
}
