use Rattle.std.proofs.Common.{◌≡◌, ℕ, ◌<◌, ◌≤◌, false}
use Rattle.copper_cover.specs.Rows.{is_near_in}
use Rattle.copper_cover.proofs.runs.some_near.Given as goal

abbrev pub invariant-columns : goal.invariant-columns
invariant-columns l = (j : ℕ) → l.fn.span.from ≤ j → j < l.k → is_near_in l.row l.a l.b l.d j ≡ false
