use Rattle.std.proofs.Common.{◌<◌, ◌≤◌, ◌-◌}
use Rattle.centre_field.specs.Rows.{start_at}
use Rattle.centre_field.proofs.rows.nearest.Given as goal

abbrev pub invariant-further : goal.invariant-further
invariant-further l = record { inside : l.j < l.n; started : start_at l.bench.scratch l.j ≤ l.x }

abbrev pub decreases-further : goal.decreases-further
decreases-further l = l.n - l.j
