use Rattle.std.proofs.Common.{arith}
use Rattle.islands.proofs.JoinGrids.{joined_begins}
use Rattle.islands.proofs.RowGrids.{to_run}
use Rattle.islands.proofs.joins.join_cells.Goals as goal

pub rows-init : goal.rows-init
rows-init c = joined_begins _ _ _ _ _ _ (omega arith) c.frame-frame.ensures.value c.frame-frame.ensures.valid c.requires.outer c.requires.clear

pub join_run-requires-clause-joined : goal.join_run-requires-clause-joined
join_run-requires-clause-joined c =
    to_run _ _ _ _ _ _ _ _ _ c.runs.invariant (omega (arith, c.rows-test.true, c.rows.auto.y-end)) _ c.next_place-first.ensures.low c.next_place-first.ensures.high c.next_place-first.ensures.passed
