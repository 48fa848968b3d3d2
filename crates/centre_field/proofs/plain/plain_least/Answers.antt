use Rattle.std.proofs.Common.{◌≡◌, ◌*◌, ◌+◌, ◌∙◌, refl, arith}
use Rattle.centre_field.specs.Distances.{is_kept_at, square_to_place}
use Rattle.centre_field.proofs.LeastLaws.{least_more, least_skipped, square_to, sum_of}
use Rattle.centre_field.proofs.PlainLaws.{read_at}
use Rattle.centre_field.proofs.plain.plain_least.Goals as goal
use Rattle.centre_field.proofs.plain.plain_least.Goals.{then-get, else-get}

pub cells-preserved : goal.cells-preserved
cells-preserved c =
    let bench = c.args.bench.now in
    let w = c.frame-frame.result.width in
    let n = c.rows.b * w + c.cells.a in
    let n' = c.rows.b * w + (c.cells.a + 1) in
    let D = square_to_place w c.args.x c.args.y in
    let read = read_at bench.kept c.get.result c.frame-frame.result bench.frame c.cell_at.result n c.get.ensures c.frame-frame.ensures.value c.cell_at.ensures.place in
    let to_n = square_to w c.args.x c.args.y c.cells.a c.rows.b n c.cells-test.true refl in
    elim c.if-get.branch [
      | then-get w ↦
          least_more (is_kept_at bench.kept) D n n' c.cells.least (w.square_gap.result + w.square_gap-then-get.result) c.if-get.least c.cells.invariant
          (read ∙ w.if-get.true) (omega arith) (sum_of _ _ _ _ (D n) w.square_gap.ensures.value w.square_gap-then-get.ensures.value to_n)
          (let s = w.square_gap.ensures.small in let t = w.square_gap-then-get.ensures.small in omega arith) (w.least-is ∙ w.min-least.ensures)
      | else-get w ↦
          let same : c.if-get.least ≡ c.cells.least = w.least-is in
          rw same (least_skipped (is_kept_at bench.kept) D n n' c.cells.least c.cells.invariant (read ∙ w.if-get.false) (omega arith))
    ]
