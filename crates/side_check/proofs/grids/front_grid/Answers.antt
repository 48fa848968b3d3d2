use Rattle.std.proofs.Common.{rules, sym, ◌∙◌}
use Rattle.std.proofs.lemmas.Int.{to_z-of_z}
use mir.Val.{SFits}
use mir.Syntax.{w64}
use Rattle.side_check.proofs.SurfaceLaws.{front_grid_is}
use Rattle.side_check.proofs.grids.front_grid.Goals as goal

pub returns-in-Ok-clause-value : goal.returns-in-Ok-clause-value
returns-in-Ok-clause-value c =
    let x : SFits w64 c.args.job.now.al_x = search rules in
    let y : SFits w64 c.args.job.now.al_y = search rules in
    let range : SFits w64 c.args.job.now.al_range = search rules in
    let feed : SFits w64 c.args.job.now.al_probefeed = search rules in
    front_grid_is c.args.job.now c.args.frame _ c.if-not-job.false (sym c.in-Ok.is ∙ (simp to_z-of_z at c.probe_grid.ensures.value))
