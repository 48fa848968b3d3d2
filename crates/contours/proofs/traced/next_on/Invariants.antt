use Rattle.std.proofs.Common.{◌≡◌, ℕ, ◌<◌, ◌≤◌, ◌-◌, false}
use Rattle.contours.specs.Contour.{is_on}
use Rattle.contours.proofs.traced.next_on.Given as goal

abbrev pub invariant-spans : goal.invariant-spans
invariant-spans l = record {
  low : l.from ≤ l.x;
  high : l.x ≤ l.width;
  passed : (k : ℕ) → l.from ≤ k → k < l.x → is_on l.bench l.g k l.y ≡ false;
}

abbrev pub decreases-spans : goal.decreases-spans
decreases-spans l = l.width - l.x
