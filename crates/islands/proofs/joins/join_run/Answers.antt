use Rattle.std.proofs.Common.{◌∙◌}
use Rattle.islands.proofs.RunGrids.{run_free, run_place, run_on}
use Rattle.islands.proofs.joins.join_run.Goals as goal

pub join_cell-requires-clause-free : goal.join_cell-requires-clause-free
join_cell-requires-clause-free c =
    let s = c.args.bench.now in
    let r = c.requires in
    run_free s c.args.plane c.args.on c.args.outer c.args.frame c.args.y c.args.first c.args.past r.frame r.y r.west r.east r.taken c.frame-begun.ensures.sized.works c.parts.bench c.parts.at c.parts.invariant
    c.parts-test.true c.cell_at-c.result c.cell_at-c.ensures.inside
    (c.cell_at-c.ensures.place ∙ run_place s c.args.plane c.args.on c.args.outer c.args.frame c.args.y c.args.first c.args.past r.frame r.y r.west r.east r.taken c.frame-begun.ensures.sized.works c.parts.bench
    c.parts.at c.parts.invariant c.parts-test.true)

pub parts-preserved : goal.parts-preserved
parts-preserved c =
    let s = c.args.bench.now in
    let r = c.requires in
    run_on s c.args.plane c.args.on c.args.outer c.args.frame c.args.y c.args.first c.args.past r.frame r.y r.west r.east r.taken c.frame-begun.ensures.sized.works c.parts.bench c.parts.at c.parts.invariant
    c.parts-test.true c.join_cell.new.bench c.cell_at-c.result c.cell_at-c.ensures.inside
    (c.cell_at-c.ensures.place ∙ run_place s c.args.plane c.args.on c.args.outer c.args.frame c.args.y c.args.first c.args.past r.frame r.y r.west r.east r.taken c.frame-begun.ensures.sized.works c.parts.bench
    c.parts.at c.parts.invariant c.parts-test.true)
    c.join_cell.ensures.rest c.join_cell.ensures.joined c.fill_works.new.self _ _ c.frame-joined.ensures.sized.works c.hanging_end-stop.ensures.low c.hanging_end-stop.ensures.high c.work_at-up.ensures
    c.hanging_end-stop.ensures.hanging c.fill_works.ensures
