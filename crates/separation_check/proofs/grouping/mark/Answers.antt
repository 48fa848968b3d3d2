use Rattle.std.proofs.Common.{◌<◌, ◌∙◌, sym, length, arith}
use Rattle.separation_check.specs.Meetings.{islands_of}
use Rattle.separation_check.specs.Grouping.{at}
use Rattle.separation_check.proofs.Tables.{island_at, class_at, islands_len, table_put, table_kept}
use Rattle.separation_check.proofs.grouping.mark.Goals as goal
use Rattle.separation_check.proofs.grouping.mark.Goals.{then-meeting-class, else-meeting-class}

pub bounds-table-meeting : goal.bounds-table-meeting
bounds-table-meeting c =
    omega (arith, c.requires.few c.meetings.meeting-index, island_at c.args.meetings.now c.meetings.meeting-index, c.meetings.invariant.len)

pub meetings-preserved : goal.meetings-preserved
meetings-preserved c =
    let p = c.meetings.invariant in
    let ms = c.args.meetings.now in
    let n = c.meetings.meeting-index in
    let inside : at (islands_of ms) n < length c.meetings.table = omega (arith, c.requires.few n, p.len) in
    let some : 0 < at (islands_of ms) n = c.requires.some n (omega (arith, islands_len ms, c.meetings-test.true)) in
    elim c.if-meeting-class.branch [
      | then-meeting-class w ↦
          record { table = table_put _ _ _ _ _ _ _ p.table inside some (class_at ms n ∙ w.if-meeting-class.true) (island_at ms n) w.table-is; len = c.if-meeting-class.auto.table ∙ p.len }
      | else-meeting-class w ↦
          record { table = table_kept _ _ _ _ _ _ p.table (λ e. w.if-meeting-class.false (sym (class_at ms n) ∙ e)) w.table-is; len = c.if-meeting-class.auto.table ∙ p.len }
    ]
