use Rattle.std.proofs.Common.{subst, rules}
use Rattle.std.proofs.lemmas.Int.{to_z-of_z}
use mir.Syntax.{w64}
use mir.Val.{SFits}
use Rattle.cell_grid.specs.Cells.{in_plane}
use Rattle.mill_plan.specs.Passes.{AreOrderedWalks}
use Rattle.mill_plan.proofs.MeasureLaws.{plane_inside}
use Rattle.mill_plan.proofs.ProgramLaws.{rows_traced, walks_traced}
use Rattle.mill_plan.proofs.passes.add_walks.Goals as goal

pub add_cuts-requires-clause-traces : goal.add_cuts-requires-clause-traces
add_cuts-requires-clause-traces c =
    let wide : SFits w64 c.args.job.now.pitch = search rules in
    let found = subst (λ p. AreOrderedWalks p (in_plane c.args.bench.now.frame c.args.bench.now.pass) c.in_ok-walks.walks.items) (to_z-of_z w64 c.args.job.now.pitch wide) c.in_ok-walks.ensures.walks in
    walks_traced c.args.job.now.pitch found.rows c.in_ok-walks.walks.items found.ordered
    (rows_traced c.args.job.now.pitch (in_plane c.args.bench.now.frame c.args.bench.now.pass) found.rows found.are c.walk_law.ensures
    (λ d on. c.requires.places d (plane_inside c.args.bench.now.frame c.args.bench.now.pass d on)))

pub returns-clause-adds : goal.returns-clause-adds
returns-clause-adds c =
    let wide : SFits w64 c.args.job.now.pitch = search rules in
    record {
      walks = c.in_ok-walks.walks.items;
      are = subst (λ p. AreOrderedWalks p (in_plane c.args.bench.now.frame c.args.bench.now.pass) c.in_ok-walks.walks.items) (to_z-of_z w64 c.args.job.now.pitch wide) c.in_ok-walks.ensures.walks;
      is = c.in_ok-add_cuts.ensures;
    }
