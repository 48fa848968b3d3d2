use Rattle.std.proofs.Common.{◌≡◌, ℕ, ◌<◌, ◌+◌, ◌*◌, true, nat_lt, slice_index}
use Rattle.grid_bench.proofs.borders.is_row_above.Given as goal

abbrev pub invariant-cells : goal.invariant-cells
invariant-cells l = (k : ℕ) → k < l.x → nat_lt l.g (slice_index (l.bench).clearances (l.y * (l.bench).frame.width + k)) ≡ true
