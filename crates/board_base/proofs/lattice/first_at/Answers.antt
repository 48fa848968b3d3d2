use Rattle.std.proofs.Common.{rules}
use Rattle.std.proofs.lemmas.Int.{to_z-of_z}
use mir.Val.{SFits}
use mir.Syntax.{w32, w64}
use Rattle.board_base.proofs.IndexLaws.{first_is}
use Rattle.board_base.proofs.lattice.first_at.Goals as goal

pub returns-clause-first : goal.returns-clause-first
returns-clause-first c =
    let g1 : SFits w64 c.args.limit = c.ranges.limit in
    let g2 : SFits w64 c.args.pitch = c.ranges.pitch in
    let f1 : SFits w64 c.way_back-n.result = search rules in
    let f2 : SFits w64 c.quotient.result = search rules in
    let f3 : SFits w32 c.turned.result = search rules in
    simp to_z-of_z
    (first_is c.args.pitch c.args.limit c.way_back-n.result c.quotient.result c.turned.result c.requires.pitch (simp to_z-of_z at c.way_back-n.ensures.value)
    (simp to_z-of_z at c.quotient.ensures.value) (simp to_z-of_z at c.turned.ensures.value))
