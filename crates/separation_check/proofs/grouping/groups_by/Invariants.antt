use Rattle.std.proofs.Common.{◌≡◌, length}
use Rattle.separation_check.specs.Meetings.{islands_of, classes_of}
use Rattle.separation_check.proofs.Groupings.{IsListing}
use Rattle.separation_check.proofs.grouping.groups_by.Given as goal

abbrev pub invariant-classes : goal.invariant-classes
invariant-classes l = record {
  listing : IsListing (islands_of l.meetings) (classes_of l.meetings) l.list (length l.meetings) l.groups.items l.class-index;
  len : length l.table ≡ length l.fn.table;
}
