use Rattle.std.proofs.Common.{◌≡◌, ◌*◌, ◌+◌, ap, arith}
use Rattle.cell_grid.specs.declared.frames.Frame.{Frame}
use Rattle.centre_field.proofs.RowLaws.{same_height}
use Rattle.centre_field.proofs.SpanLaws.{written_value}
use Rattle.centre_field.proofs.WrittenLaws.{written_place}
use Rattle.centre_field.proofs.rows.write_span.Goals as goal

pub places-preserved : goal.places-preserved
places-preserved c =
    let start = c.args.bench.now in
    let g = c.places.bench in
    let f = c.frame-frame.result in
    let p = c.places.invariant in
    let e = c.nearest-k.ensures in
    let l = c.listed-column in
    let n = c.args.y * f.width + c.places.x in
    let height : f.height ≡ start.frame.height = same_height f start.frame c.frame-frame.ensures.value in
    let width : f.width ≡ start.frame.width = ap (λ (h : Frame). h.width) c.frame-frame.ensures.value in
    written_value start g c.set_clearance_at.new.self f c.args.y c.args.from c.args.to c.args.n c.places.k c.nearest-k.result c.places.x c.value-least.result l.result.column l.result.square p c.requires.listing
    e.inside e.started e.next (omega arith) (let t = c.requires.to in let x_in = c.places-test.true in omega arith) (let r = c.requires.y in omega arith) c.value-least.ensures.value l.ensures.column l.ensures.square
    (written_place g c.set_clearance_at.new.self c.place_at.result n c.value-least.result c.place_at.ensures.value c.set_clearance_at.ensures)
