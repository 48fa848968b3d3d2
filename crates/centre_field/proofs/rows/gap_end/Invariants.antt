use Rattle.std.proofs.Common.{ℕ, ◌≢◌, ◌≤◌, ◌<◌}
use Rattle.centre_field.specs.Columns.{number_at}
use Rattle.centre_field.proofs.rows.gap_end.Given as goal

abbrev pub invariant-columns : goal.invariant-columns
invariant-columns l = (a : ℕ) → l.from ≤ a → a < l.x → number_at l.bench a l.y ≢ 0
