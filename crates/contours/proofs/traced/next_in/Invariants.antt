use Rattle.std.proofs.Common.{◌≡◌, ℕ, ◌<◌, ◌≤◌, false}
use Rattle.contours.specs.Contour.{is_on}
use Rattle.contours.proofs.Windows.{IsWindow}
use Rattle.contours.proofs.traced.next_in.Given as goal

abbrev pub invariant-cells : goal.invariant-cells
invariant-cells l = record {
  window : IsWindow l.bench l.g l.x l.y l.west l.here;
  passed : (k : ℕ) → l.from ≤ k → k < l.x → is_on l.bench l.g k l.y ≡ false;
}
