use Rattle.std.proofs.Common.{◌≡◌, ◌+◌, ◌≤◌, drop, length}
use Rattle.move_watch.specs.Watched.{watched}
use Rattle.rs274_sim.specs.Machine.{run_from, run_of}
use Rattle.rs274_sim.specs.Kept.{shown}
use Rattle.rs274_sim.specs.Made.{made_from, made_of, stop_of}
use Rattle.rs274_sim.proofs.runs.run.Given as goal

abbrev pub invariant-loop-k : goal.invariant-loop-k
invariant-loop-k g l =
    record {
      stop : stop_of (run_from l.probes.items l.k (shown l.machine) (drop l.k l.lines.items)) ≡ stop_of (run_of l.probes.items l.lines.items);
      count : l.count + length (made_from l.probes.items l.k (shown l.machine) (drop l.k l.lines.items)) ≡ length (made_of l.probes.items l.lines.items);
      few : l.count ≤ l.k;
      seen : watched (made_from l.probes.items l.k (shown l.machine) (drop l.k l.lines.items)) (g.V.Viewer.views l.patrol) ≡ watched (made_of l.probes.items l.lines.items) (g.V.Viewer.views l.fn.patrol);
    }
