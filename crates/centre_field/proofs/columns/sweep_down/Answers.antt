use Rattle.std.proofs.Common.{◌≡◌, ℕ, ◌-◌, ◌+◌, subst, arith}
use Rattle.centre_field.proofs.ColumnLaws.{IsSweptFrom, row_swept}
use Rattle.centre_field.proofs.columns.sweep_down.Goals as goal

pub rows-preserved : goal.rows-preserved
rows-preserved c =
    let f = c.frame-frame.result in
    let y = f.height - 1 - c.rows.turn in
    let low = c.rows.auto.turn in
    let high = c.rows-test.true in
    let next : y ≡ f.height - (c.rows.turn + 1) = omega arith in
    subst (λ (n : ℕ). IsSweptFrom c.args.bench.now f c.sweep_row_down.new.bench n) next
    (row_swept c.args.bench.now c.rows.bench c.sweep_row_down.new.bench f y (f.height - c.rows.turn) c.rows.invariant (omega arith) (omega arith)
    c.sweep_row_down.ensures.row c.sweep_row_down.ensures.nearer)
