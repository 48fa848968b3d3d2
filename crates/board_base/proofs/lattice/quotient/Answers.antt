use Rattle.std.proofs.Common.{rules}
use Rattle.std.proofs.lemmas.Int.{to_z-of_z}
use mir.Val.{SFits}
use mir.Syntax.{w64}
use Rattle.board_base.proofs.IndexLaws.{quotient_is, quotient_size}
use Rattle.board_base.proofs.lattice.quotient.Goals as goal

pub returns-clause-value : goal.returns-clause-value
returns-clause-value c =
    let g1 : SFits w64 c.args.n = c.ranges.n in
    let g2 : SFits w64 c.args.pitch = c.ranges.pitch in
    let f : SFits w64 c.div_euclid.result = search rules in
    simp to_z-of_z (quotient_is c.args.n c.args.pitch c.div_euclid.result c.requires.pitch (simp to_z-of_z at c.div_euclid.ensures))

pub returns-clause-size : goal.returns-clause-size
returns-clause-size c =
    let g1 : SFits w64 c.args.n = c.ranges.n in
    let g2 : SFits w64 c.args.pitch = c.ranges.pitch in
    let f : SFits w64 c.div_euclid.result = search rules in
    simp to_z-of_z
    (quotient_size c.args.n c.args.pitch c.div_euclid.result c.requires.pitch c.requires.n
    (quotient_is c.args.n c.args.pitch c.div_euclid.result c.requires.pitch (simp to_z-of_z at c.div_euclid.ensures)))
