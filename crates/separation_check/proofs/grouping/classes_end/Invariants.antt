use Rattle.std.proofs.Common.{ℕ, ◌<◌}
use Rattle.separation_check.specs.Meetings.{classes_of}
use Rattle.separation_check.specs.Grouping.{at}
use Rattle.separation_check.proofs.grouping.classes_end.Given as goal

abbrev pub invariant-meetings : goal.invariant-meetings
invariant-meetings l = record {
  each : (k : ℕ) → k < l.meeting-index → at (classes_of l.meetings) k < l.end;
  some : 0 < l.end;
}
