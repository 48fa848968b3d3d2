use Rattle.std.proofs.Common.{ℕ, ◌≤◌, ◌<◌, ◌+◌}
use Rattle.centre_field.specs.Distances.{square_gap}
use Rattle.centre_field.specs.Rows.{column_at, start_at, square_at}
use Rattle.centre_field.proofs.rows.staying.Given as goal

abbrev pub invariant-last : goal.invariant-last
invariant-last l = record {
  few : l.m ≤ l.n;
  gone : (j : ℕ) → l.m ≤ j → j < l.n
      → square_gap (start_at l.bench.scratch j) l.b + l.square < square_gap (start_at l.bench.scratch j) (column_at l.bench.scratch j) + square_at l.bench.scratch j;
}

abbrev pub decreases-last : goal.decreases-last
decreases-last l = l.m
