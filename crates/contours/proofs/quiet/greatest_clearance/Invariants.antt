use Rattle.std.proofs.Common.{ℕ, ◌<◌, ◌≤◌, slice_index}
use Rattle.contours.proofs.quiet.greatest_clearance.Given as goal

abbrev pub invariant-places : goal.invariant-places
invariant-places l = (i : ℕ) → l.from ≤ i → i < l.k → slice_index (l.bench).clearances i ≤ l.greatest
