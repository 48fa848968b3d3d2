use Rattle.std.proofs.Common.{◌≡◌, ◌++◌, drop}
use Rattle.rs274_sim.specs.Machine.{run_from, run_of}
use Rattle.rs274_sim.specs.Kept.{shown}
use Rattle.rs274_sim.specs.Made.{made_from, made_of, stop_of}
use Rattle.rs274_sim.proofs.runs.moves.Given as goal

abbrev pub invariant-loop-k : goal.invariant-loop-k
invariant-loop-k l = record {
  stop : stop_of (run_from l.probes.items l.k (shown l.machine) (drop l.k l.lines.items)) ≡ stop_of (run_of l.probes.items l.lines.items);
  made : l.made.items ++ made_from l.probes.items l.k (shown l.machine) (drop l.k l.lines.items) ≡ made_of l.probes.items l.lines.items;
}
