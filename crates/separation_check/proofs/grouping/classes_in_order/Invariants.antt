use Rattle.std.proofs.Common.{◌≡◌, length}
use Rattle.separation_check.specs.Meetings.{islands_of, classes_of}
use Rattle.separation_check.proofs.Tables.{IsWalking}
use Rattle.separation_check.proofs.grouping.classes_in_order.Given as goal

abbrev pub invariant-meetings : goal.invariant-meetings
invariant-meetings l = record {
  walking : IsWalking (islands_of l.meetings) (classes_of l.meetings) l.seen l.list.items l.meeting-index;
  len : length l.seen ≡ length l.fn.seen;
}
