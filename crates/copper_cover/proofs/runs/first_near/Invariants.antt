use Rattle.std.proofs.Common.{◌≡◌, ℕ, ◌<◌, ◌≤◌, ◌-◌, true, false}
use Rattle.copper_cover.specs.Rows.{is_near_in}
use Rattle.copper_cover.proofs.runs.first_near.Given as goal

abbrev pub invariant-halves : goal.invariant-halves
invariant-halves l = record {
  low : l.low ≤ l.from;
  order : l.from ≤ l.to;
  high : l.to ≤ l.high;
  near : is_near_in l.row l.a l.b l.d l.to ≡ true;
  before : (k : ℕ) → l.low ≤ k → k < l.from → is_near_in l.row l.a l.b l.d k ≡ false;
}

abbrev pub decreases-halves : goal.decreases-halves
decreases-halves l = l.to - l.from
