use Rattle.std.proofs.Common.{sym, subst, rules}
use Rattle.std.specs.List.{All}
use Rattle.std.proofs.lemmas.Int.{to_z-of_z}
use mir.Syntax.{w64}
use mir.Val.{SFits}
use Rattle.cell_grid.specs.Cells.{in_plane}
use Rattle.chain_walk.specs.Corners.{IsTrace}
use Rattle.mill_plan.specs.Cuts.{AreOrdered}
use Rattle.mill_plan.proofs.MeasureLaws.{plane_inside}
use Rattle.mill_plan.proofs.ProgramLaws.{rows_traced}
use Rattle.mill_plan.proofs.order.ordered_walks.Goals as goal

pub ordered-requires-clause-traces : goal.ordered-requires-clause-traces
ordered-requires-clause-traces c =
    let wide : SFits w64 c.args.pitch = search rules in
    subst (λ p. All (IsTrace p) c.in_ok-rows.rows.items) (sym (to_z-of_z w64 c.args.pitch wide))
    (rows_traced c.args.pitch (in_plane c.args.bench.now.frame c.args.bench.now.pass) c.in_ok-rows.rows.items c.in_ok-rows.ensures.walks c.walk_law.ensures
    (λ d on. c.requires.places d (plane_inside c.args.bench.now.frame c.args.bench.now.pass d on)))

pub returns-clause-walks : goal.returns-clause-walks
returns-clause-walks c =
    let wide : SFits w64 c.args.pitch = search rules in
    record {
      rows = c.in_ok-rows.rows.items;
      are = c.in_ok-rows.ensures.walks;
      ordered = subst (λ p. AreOrdered p c.in_ok-rows.rows.items c.in_ok-walks.walks.items) (to_z-of_z w64 c.args.pitch wide) c.in_ok-walks.ensures;
    }
