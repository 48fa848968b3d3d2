use Rattle.std.proofs.Common.{◌≡◌, ◌*◌, ◌+◌, refl, arith}
use Rattle.std.proofs.lemmas.Nat.{mul-add-lt}
use Rattle.centre_field.proofs.PlainLaws.{IsLeastAt, least_at, all_clearances}
use Rattle.centre_field.proofs.WrittenLaws.{one_written, written_at, ends}
use Rattle.centre_field.proofs.plain.plain_clearance.Goals as goal

pub cells-preserved : goal.cells-preserved
cells-preserved c =
    let start = c.args.bench.now in
    let g = c.cells.bench in
    let f = c.frame-frame.result in
    let n = c.rows.y * f.width + c.cells.x in
    let v = c.plain_least-least.result in
    let p = c.cells.invariant in
    one_written (IsLeastAt start f) start g c.set_clearance.new.self f n (c.rows.y * f.width + (c.cells.x + 1)) v p
    (mul-add-lt c.rows.y f.width c.cells.x f.height c.rows-test.true c.cells-test.true) (omega arith)
    (least_at start g f c.cells.x c.rows.y n v p.rest refl c.cells-test.true c.plain_least-least.ensures)
    (written_at start g c.set_clearance.new.self f c.cell_at.result n v p.same_frame p.rest c.cell_at.ensures.place c.set_clearance.ensures)

pub returns-clause-least : goal.returns-clause-least
returns-clause-least c =
    let f = c.frame-frame.result in
    let last : c.rows.y ≡ f.height = omega arith in
    all_clearances c.args.bench.now c.rows.bench f (c.rows.y * f.width) c.rows.invariant (ends c.rows.y f.width f.height last)
