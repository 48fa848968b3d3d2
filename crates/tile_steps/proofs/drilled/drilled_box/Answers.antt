use Rattle.std.proofs.Common.{◌≡◌, ◌<◌, length, get_or, sym, subst, rules}
use Rattle.std.proofs.lemmas.List.Elements.{All-get_or}
use Rattle.drill_plan.specs.Limits.{IsOnBoard}
use Rattle.tile_steps.proofs.drilled.drilled_box.Goals as goal

pub with_tool-all-requires-clause-tool : goal.with_tool-all-requires-clause-tool
with_tool-all-requires-clause-tool c =
    let inside : c.tools.tool-index < length c.args.plan.now = search rules in
    let is : c.tool-item.result ≡ get_or c.args.plan.now c.tools.tool-index c.tool-item.result = search rules in
    subst IsOnBoard (sym is) (All-get_or IsOnBoard c.args.plan.now c.tools.tool-index c.tool-item.result inside c.requires)
