use Rattle.std.proofs.Common.{◌≡◌, ℕ, ◌<◌, ◌≤◌, ◌-◌, true, false}
use Rattle.copper_cover.specs.Rows.{is_near_in}
use Rattle.copper_cover.proofs.runs.end_near.Given as goal

abbrev pub invariant-halves : goal.invariant-halves
invariant-halves l = record {
  low : l.low ≤ l.from;
  order : l.from < l.to;
  high : l.to ≤ l.high;
  near : is_near_in l.row l.a l.b l.d l.from ≡ true;
  after : (k : ℕ) → l.to ≤ k → k < l.high → is_near_in l.row l.a l.b l.d k ≡ false;
}

abbrev pub decreases-halves : goal.decreases-halves
decreases-halves l = l.to - l.from
