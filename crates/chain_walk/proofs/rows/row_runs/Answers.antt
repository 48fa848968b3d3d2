use Rattle.std.proofs.Common.{rules, ◌≤◌, sym, subst}
use Rattle.cell_grid.specs.Cells.{in_plane}
use Rattle.chain_walk.specs.RowsDone.{cell_by, AreRunsBefore}
use Rattle.chain_walk.proofs.RowSteps.{none_done, all_done}
use Rattle.chain_walk.proofs.rows.row_runs.Goals as goal

pub rows-init : goal.rows-init
rows-init c =
    let f = c.args.bench.now.frame in
    let plane = c.args.bench.now.pass in
    subst (AreRunsBefore (in_plane f plane) (cell_by f 0 0)) (sym c.new-runs.ensures.items) (none_done f plane)

pub returns : goal.returns
returns c = all_done c.args.bench.now.frame c.args.bench.now.pass _ _ (let past : c.args.bench.now.frame.height ≤ c.rows.y = search rules in past) c.rows.invariant
