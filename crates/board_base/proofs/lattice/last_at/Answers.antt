use Rattle.std.proofs.Common.{rules}
use Rattle.std.proofs.lemmas.Int.{to_z-of_z}
use mir.Val.{SFits}
use mir.Syntax.{w32, w64}
use Rattle.board_base.proofs.IndexLaws.{last_is}
use Rattle.board_base.proofs.lattice.last_at.Goals as goal

pub returns-clause-last : goal.returns-clause-last
returns-clause-last c =
    let g1 : SFits w64 c.args.limit = c.ranges.limit in
    let g2 : SFits w64 c.args.pitch = c.ranges.pitch in
    let f1 : SFits w64 c.way_to-n.result = search rules in
    let f2 : SFits w64 c.quotient.result = search rules in
    let f3 : SFits w32 c.index.result = search rules in
    simp to_z-of_z
    (last_is c.args.pitch c.args.limit c.way_to-n.result c.quotient.result c.index.result c.requires.pitch (simp to_z-of_z at c.way_to-n.ensures.value)
    (simp to_z-of_z at c.quotient.ensures.value) (simp to_z-of_z at c.index.ensures.value))
