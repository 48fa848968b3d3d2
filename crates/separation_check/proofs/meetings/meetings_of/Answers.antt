use Rattle.std.proofs.Common.{◌∙◌}
use Rattle.separation_check.proofs.meetings.meetings_of.Goals as goal

pub meetings_by-requires-clause-last : goal.meetings_by-requires-clause-last
meetings_by-requires-clause-last c = c.as_mut_slice.ensures.value ∙ c.in_ok-last.ensures
