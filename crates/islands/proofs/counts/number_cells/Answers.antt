use Rattle.std.proofs.Common.{◌≡◌, ℕ, ◌+◌, ◌*◌, ap, ◌∙◌, arith}
use Rattle.std.proofs.Math.Nat.{mul_comm}
use Rattle.islands.proofs.RankGrids.{ranks_same, run_points, run_numbered, run_none, ranks_end}
use Rattle.islands.proofs.counts.number_cells.Goals as goal

pub number_run-count-requires-clause-points : goal.number_run-count-requires-clause-points
number_run-count-requires-clause-points c =
    let a = c.next_place-first.ensures in
    let b = c.next_place-past.ensures in
    run_points _ _ _ _ _ _ _ _ _ _ c.runs.invariant (omega (arith, c.rows-test.true, c.rows.auto.y-end)) _ _ a.low a.high a.passed b.low b.high b.passed c.if-first-past.true

pub runs-preserved-then-first-past : goal.runs-preserved-then-first-past
runs-preserved-then-first-past c =
    let a = c.next_place-first.ensures in
    let b = c.next_place-past.ensures in
    run_numbered _ _ _ _ _ _ _ _ _ _ c.runs.invariant (omega (arith, c.rows-test.true, c.rows.auto.y-end)) _ _ a.low a.high a.passed b.low b.high b.passed _ _ c.if-first-past.true c.frame-whole.ensures.sized.works
    c.number_run-count.ensures

pub runs-preserved : goal.runs-preserved
runs-preserved c =
    let a = c.next_place-first.ensures in
    let b = c.next_place-past.ensures in
    run_none _ _ _ _ _ _ _ _ _ _ c.runs.invariant (omega (arith, c.rows-test.true, c.rows.auto.y-end)) _ _ a.low a.high a.passed b.low b.high b.passed (λ l. omega (arith, l, c.if-first-past.false))

pub rows-preserved : goal.rows-preserved
rows-preserved c =
    let q = c.runs.invariant in
    let high = q.high in
    let row : (c.rows.y + 1) * c.frame-frame.result.width ≡ c.rows.y * c.frame-frame.result.width + c.frame-frame.result.width = omega arith in
    ranks_same _ _ _ _ _ _ _ _ _ (omega (arith, row, high, c.runs-test.false)) q.here

pub returns-clause-numbered : goal.returns-clause-numbered
returns-clause-numbered c =
    let e : c.rows.y ≡ c.frame-frame.result.height = omega (arith, c.rows-test.false, c.rows.auto.y-end) in
    ranks_end _ _ _ _ _ _ _ _ c.rows.invariant (ap (λ (y : ℕ). y * c.frame-frame.result.width) e ∙ mul_comm _ _)
