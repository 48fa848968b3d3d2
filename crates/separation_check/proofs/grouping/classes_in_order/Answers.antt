use Rattle.std.proofs.Common.{◌<◌, ◌∙◌, ap, length, arith}
use Rattle.std.proofs.Common.{Vec, Global, ℕ}
use Rattle.separation_check.specs.Meetings.{islands_of, classes_of}
use Rattle.separation_check.specs.Grouping.{at}
use Rattle.separation_check.proofs.Tables.{class_at, islands_len, classes_len, walking_on, walking_off}
use Rattle.separation_check.proofs.grouping.classes_in_order.Goals as goal
use Rattle.separation_check.proofs.grouping.classes_in_order.Goals.{then-not-seen-class+in_ok-push, else-not-seen-class}

pub bounds-seen-class : goal.bounds-seen-class
bounds-seen-class c = omega (arith, c.requires.few c.meetings.meeting-index, class_at c.args.meetings.now c.meetings.meeting-index, c.meetings.invariant.len)

pub bounds-seen-class-then-not-seen-class : goal.bounds-seen-class-then-not-seen-class
bounds-seen-class-then-not-seen-class c =
    omega (arith, c.requires.few c.meetings.meeting-index, class_at c.args.meetings.now c.meetings.meeting-index, c.meetings.invariant.len)

pub meetings-preserved : goal.meetings-preserved
meetings-preserved c =
    let p = c.meetings.invariant in
    let ms = c.args.meetings.now in
    let n = c.meetings.meeting-index in
    let inside : at (classes_of ms) n < length c.meetings.seen = omega (arith, c.requires.few n, p.len) in
    let some : 0 < at (islands_of ms) n = c.requires.some_islands n (omega (arith, islands_len ms, c.meetings-test.true)) in
    let class_there : 0 < at (classes_of ms) n = c.requires.some_classes n (omega (arith, classes_len ms, c.meetings-test.true)) in
    elim c.if-not-seen-class.branch [
      | then-not-seen-class+in_ok-push w ↦
          record {
            walking =
                walking_on _ _ _ _ _ _ _ _ p.walking some class_there inside (class_at ms n) w.if-not-seen-class.true w.seen-is (ap (λ (v : Vec ℕ Global). v.items) w.list-is ∙ w.in_ok-push.ensures.items);
            len = c.if-not-seen-class.auto.seen ∙ p.len;
          }
      | else-not-seen-class w ↦
          record {
            walking = walking_off _ _ _ _ _ _ _ _ p.walking (class_at ms n) w.if-not-seen-class.false w.seen-is (ap (λ (v : Vec ℕ Global). v.items) w.list-is);
            len = c.if-not-seen-class.auto.seen ∙ p.len;
          }
    ]
