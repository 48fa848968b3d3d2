use Rattle.std.proofs.Common.{rules, ◌≡◌, ◌+◌, ◌*◌, ◌∙◌, ℕ, ap, subst, arith}
use Rattle.std.proofs.Math.Nat.{mul_comm}
use Rattle.cell_grid.specs.Place.{cells_of}
use Rattle.separation_check.specs.Unswept.{is_unswept, island_of, class_of}
use Rattle.separation_check.specs.Meetings.{islands_of, classes_of, AreMeetings}
use Rattle.separation_check.proofs.Collecting.{IsCollecting, collecting_begun, noted}
use Rattle.separation_check.proofs.meetings.meetings_by.Goals as goal

pub rows-init : goal.rows-init
rows-init c =
    let g = c.args.bench.now in
    let none : 0 ≡ 0 * c.frame-frame.result.width = omega arith in
    record {
      same = c.frame-frame.ensures.value;
      frame = c.frame-frame.ensures.valid;
      collecting =
          subst (IsCollecting g.frame (is_unswept g) (island_of g) (class_of g) c.new-list.result.items c.args.last.now) none
          (collecting_begun g.frame (is_unswept g) (island_of g) (class_of g) c.new-list.result.items c.args.last.now c.new-list.ensures.items c.requires.last);
    }

pub cells-preserved : goal.cells-preserved
cells-preserved c =
    let p = c.cells.invariant in
    let k = c.cell_at-c.ensures in
    let g = c.args.bench.now in
    let n = c.rows.y * c.frame-frame.result.width + c.cells.x in
    let next : n + 1 ≡ c.rows.y * c.frame-frame.result.width + (c.cells.x + 1) = omega arith in
    record {
      same = p.same;
      frame = p.frame;
      collecting =
          subst (IsCollecting g.frame (is_unswept g) (island_of g) (class_of g) c.note.new.meetings.items c.note.new.last) next
          (noted g c.frame-frame.result c.cells.list.items c.note.new.meetings.items c.cells.last c.note.new.last n c.free_island-island.result c.work-class.result c.cell_at-c.result c.requires.classes p.same
          p.collecting k.inside k.place (search rules) c.free_island-island.ensures c.work-class.ensures c.in_ok-note.ensures.skipped c.in_ok-note.ensures.added);
    }

pub returns : goal.returns
returns c =
    let p = c.rows.invariant in
    let g = c.args.bench.now in
    let e : c.rows.y ≡ c.frame-frame.result.height = omega (arith, c.rows-test.false, c.rows.auto.y-end) in
    let all : c.rows.y * c.frame-frame.result.width ≡ cells_of g.frame =
    ap (λ (y : ℕ). y * c.frame-frame.result.width) e ∙ mul_comm c.frame-frame.result.height c.frame-frame.result.width ∙ ap cells_of p.same in
    subst (AreMeetings g.frame (is_unswept g) (island_of g) (class_of g) (islands_of c.rows.list.items) (classes_of c.rows.list.items)) all p.collecting.met
