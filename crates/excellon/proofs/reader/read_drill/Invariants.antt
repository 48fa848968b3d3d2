use Rattle.std.proofs.Common.{length}
use Rattle.excellon.specs.State.{kept, IsReady}
use Rattle.excellon.specs.Reached.{IsReached}
use Rattle.excellon.proofs.reader.read_drill.Given as goal

abbrev pub invariant-lines : goal.invariant-lines
invariant-lines l = record {
  reached : IsReached l.bytes l.rest (kept l.state);
  ready : IsReady (kept l.state);
}

abbrev pub decreases-lines : goal.decreases-lines
decreases-lines l = length l.rest
