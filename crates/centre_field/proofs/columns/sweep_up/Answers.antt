use Rattle.std.proofs.Common.{◌≡◌, ◌*◌, ◌+◌, refl, arith}
use Rattle.std.proofs.lemmas.Nat.{mul-add-lt}
use Rattle.centre_field.proofs.ColumnLaws.{IsUpwardAt, south, to_place, nearest_before, all_upward}
use Rattle.centre_field.proofs.WrittenLaws.{one_written, written_place, ends}
use Rattle.centre_field.proofs.columns.sweep_up.Goals as goal

pub upward-distance-requires-clause-before : goal.upward-distance-requires-clause-before
upward-distance-requires-clause-before c =
    let f = c.frame-frame.result in
    south c.args.bench.now c.cells.bench f c.cells.x c.rows.y (c.rows.y * f.width + c.cells.x) c.cells.invariant refl c.cells-test.true

pub cells-preserved : goal.cells-preserved
cells-preserved c =
    let start = c.args.bench.now in
    let g = c.cells.bench in
    let f = c.frame-frame.result in
    let n = c.rows.y * f.width + c.cells.x in
    let v = c.upward-distance.result in
    let p = c.cells.invariant in
    one_written (IsUpwardAt start f) start g c.set_clearance_at.new.self f n (c.rows.y * f.width + (c.cells.x + 1)) v p
    (mul-add-lt c.rows.y f.width c.cells.x f.height c.rows-test.true c.cells-test.true) (omega arith)
    (to_place start f c.cells.x c.rows.y n v c.cells-test.true refl (nearest_before start g c.cells.x c.rows.y (c.rows.y + 1) v p.rest c.upward-distance.ensures))
    (written_place g c.set_clearance_at.new.self c.place_at.result n v c.place_at.ensures.value c.set_clearance_at.ensures)

pub returns-clause-upward : goal.returns-clause-upward
returns-clause-upward c =
    let f = c.frame-frame.result in
    let last : c.rows.y ≡ f.height = omega arith in
    all_upward c.args.bench.now c.rows.bench f (c.rows.y * f.width) c.rows.invariant (ends c.rows.y f.width f.height last)
