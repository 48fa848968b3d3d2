use Rattle.std.proofs.Common.{◌-◌}
use Rattle.centre_field.proofs.GapLaws.{IsFinishedTo}
use Rattle.centre_field.proofs.rows.finish_row.Given as goal

abbrev pub invariant-gaps : goal.invariant-gaps
invariant-gaps l = IsFinishedTo l.fn.bench l.y l.bench l.from

abbrev pub decreases-gaps : goal.decreases-gaps
decreases-gaps l = l.width - l.from
