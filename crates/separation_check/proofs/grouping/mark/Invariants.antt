use Rattle.std.proofs.Common.{◌≡◌, length}
use Rattle.separation_check.specs.Meetings.{islands_of, classes_of}
use Rattle.separation_check.specs.Grouping.{IsTable}
use Rattle.separation_check.proofs.grouping.mark.Given as goal

abbrev pub invariant-meetings : goal.invariant-meetings
invariant-meetings l = record {
  table : IsTable (islands_of l.meetings) (classes_of l.meetings) l.class l.table l.meeting-index;
  len : length l.table ≡ length l.fn.table;
}
