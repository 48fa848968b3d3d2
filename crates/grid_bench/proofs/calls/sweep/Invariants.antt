use Rattle.std.proofs.Common.{◌≡◌}
use Rattle.grid_bench.proofs.calls.sweep.Given as goal

abbrev pub invariant-rows : goal.invariant-rows
invariant-rows l = l.frame ≡ l.bench.frame

abbrev pub invariant-cells : goal.invariant-cells
invariant-cells l = l.frame ≡ l.bench.frame
