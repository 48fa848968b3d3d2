use Rattle.std.proofs.Common.{◌≡◌, ◌+◌, ◌*◌, false, None, length}
use Rattle.rs274_sim.specs.Reading.{BadExpression, steps_at, value_at}
use Rattle.ngc_reader.specs.Views.{left_of}
use Rattle.ngc_reader.proofs.values.+values.Given as goal

abbrev pub decreases-brackets_at : goal.decreases-brackets_at
decreases-brackets_at l = 3 * l.depth + 2

abbrev pub decreases-value_at : goal.decreases-value_at
decreases-value_at l = 3 * l.depth

abbrev pub decreases-steps_at : goal.decreases-steps_at
decreases-steps_at l = 3 * l.depth + 1

abbrev pub invariant-steps_at-loop-most : goal.invariant-steps_at-loop-most
invariant-steps_at-loop-most l =
    steps_at (value_at l.depth BadExpression) l.most l.some (left_of l.chain) l.chain.term l.rest
    ≡ steps_at (value_at l.depth BadExpression) (length l.bytes) false None l.fn.first l.bytes

abbrev pub decreases-steps_at-loop-most : goal.decreases-steps_at-loop-most
decreases-steps_at-loop-most l = l.most
