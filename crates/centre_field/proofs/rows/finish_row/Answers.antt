use Rattle.std.proofs.Common.{◌≡◌, ◌-◌, ap, arith}
use Rattle.cell_grid.specs.declared.frames.Frame.{Frame}
use Rattle.centre_field.proofs.GapLaws.{no_gap_left, gap_filled, after_edge, before_gap}
use Rattle.centre_field.proofs.rows.finish_row.Goals as goal

pub gaps-preserved-then-start-end : goal.gaps-preserved-then-start-end
gaps-preserved-then-start-end c =
    let s = c.gap_start-start.ensures in
    let e = c.gap_end-end.ensures in
    let g = c.gaps.bench in
    let x = c.gaps.from in
    let gap = c.gap_start-start.result in
    let end = c.gap_end-end.result in
    let some = c.if-start-end.true in
    let high = e.high in
    let width = c.gaps.invariant.width in
    let wide : c.frame-width.result.width ≡ c.args.bench.now.frame.width = ap (λ (f : Frame). f.width) c.frame-width.ensures.value in
    let most = c.max.ensures in
    let least = c.min.ensures in
    let later = after_edge c.args.bench.now g c.args.y x gap c.gaps.invariant s.low (omega arith) s.found in
    gap_filled c.args.bench.now g c.args.y x gap end c.gaps.invariant s.low e.low e.high s.kept e.found c.finish_span.new.bench (c.max.result - 1) c.min.result c.finish_span.ensures.rest c.finish_span.ensures.span some
    (before_gap x gap (c.max.result - 1) later (omega arith)) (omega arith) (omega arith) (λ h. omega arith) (omega arith) (omega arith) (omega arith) (λ h. omega arith)

pub gaps-preserved : goal.gaps-preserved
gaps-preserved c =
    let s = c.gap_start-start.ensures in
    let e = c.gap_end-end.ensures in
    no_gap_left c.args.bench.now c.gaps.bench c.args.y c.gaps.from c.gap_start-start.result c.gap_end-end.result c.gaps.invariant s.low e.low e.high s.kept e.found (let n = c.if-start-end.false in omega arith)
