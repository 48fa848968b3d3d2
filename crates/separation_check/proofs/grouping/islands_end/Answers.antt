use Rattle.std.proofs.Common.{rules, arith}
use Rattle.separation_check.proofs.Tables.{island_at, end_on}
use Rattle.separation_check.proofs.grouping.islands_end.Goals as goal
use Rattle.separation_check.proofs.grouping.islands_end.Goals.{then-end-meeting, else-end-meeting}

pub meetings-preserved : goal.meetings-preserved
meetings-preserved c =
    let p = c.meetings.invariant in
    let e = island_at c.args.meetings.now c.meetings.meeting-index in
    elim c.if-end-meeting.branch [
      | then-end-meeting w ↦
          record {
            each = end_on _ _ _ _ p.each (omega (arith, w.end-is, w.if-end-meeting.true)) (omega (arith, w.end-is, e));
            some = omega (arith, w.end-is);
            small = search rules;
          }
      | else-end-meeting w ↦
          record {
            each = end_on _ _ _ _ p.each (omega (arith, w.end-is)) (omega (arith, w.end-is, e, w.if-end-meeting.false));
            some = omega (arith, w.end-is, p.some);
            small = omega (arith, w.end-is, p.small);
          }
    ]
