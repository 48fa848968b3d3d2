use Rattle.std.proofs.Common.{sym, ap, subst, ◌∙◌, rules}
use Rattle.std.proofs.lemmas.Int.{to_z-of_z}
use mir.Val.{SFits}
use mir.Syntax.{w64}
use Rattle.board_base.specs.declared.places.Cell.{Cell}
use Rattle.board_base.specs.declared.places.Point.{Point}
use Rattle.board_base.specs.Places.{IsNearPlace}
use Rattle.board_base.specs.Lattice.{centre_of}
use Rattle.copper_cover.proofs.columns.centre_at.Goals as goal

pub returns-clause-near : goal.returns-clause-near
returns-clause-near c =
    let f : SFits w64 c.args.row.pitch = search rules in
    let e = (simp to_z-of_z at c.centre.ensures) ∙ ap (λ (d : Cell). centre_of c.args.row.pitch d) c.east.ensures in
    subst (λ (q : Point). IsNearPlace q) (sym e) (c.requires.row.places c.args.k c.requires.k)
