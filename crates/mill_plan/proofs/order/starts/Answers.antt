use Rattle.std.proofs.Common.{◌≡◌, sym, subst, arith}
use Rattle.std.proofs.lemmas.Grind.{common_steps}
use Rattle.path_order.specs.Orders.{ArePlaces}
use Rattle.mill_plan.specs.Cuts.{starts_of}
use Rattle.mill_plan.proofs.ProgramLaws.{starts_placed}
use Rattle.mill_plan.proofs.order.starts.Goals as goal

pub returns-clause-places : goal.returns-clause-places
returns-clause-places c =
    let all : c.rows.starts.items ≡ starts_of c.args.pitch c.args.rows.now.items = grind (arith, common_steps) in
    subst ArePlaces (sym all) (starts_placed c.args.pitch c.args.rows.now.items c.requires.traces c.requires.few)
