use Rattle.std.proofs.Common.{ap, sym, ◌∙◌, rules}
use Rattle.std.proofs.lemmas.Int.{to_z-of_z}
use Rattle.std.proofs.lemmas.Option.{get_or_from_slice_get}
use mir.Syntax.{w64}
use mir.Val.{SFits}
use Rattle.board_base.specs.Lattice.{centre_of}
use Rattle.chain_walk.specs.Walk.{origin}
use Rattle.mill_plan.proofs.order.start.Goals as goal

pub returns : goal.returns
returns c =
    let wide : SFits w64 c.args.pitch = search rules in
    let at = simp to_z-of_z at c.centre.ensures in
    at ∙ ap (centre_of c.args.pitch) (sym (get_or_from_slice_get c.args.walk.now 0 c.at.result.now origin c.at.ensures))
