use Rattle.std.proofs.Common.{rules, ◌≡◌, subst, sym}
use Rattle.std.proofs.lemmas.Int.{to_z-of_z}
use mir.Val.{SFits}
use mir.Syntax.{w64}
use Rattle.board_base.specs.Places.{IsNearPlace}
use Rattle.board_base.specs.Lattice.{centre_of}
use Rattle.separation_check.proofs.sweeps.is_near.Goals as goal

pub near-requires-clause-q : goal.near-requires-clause-q
near-requires-clause-q c =
    let pitch : SFits w64 c.args.frame.pitch = search rules in
    let e : c.centre.result ≡ centre_of c.args.frame.pitch c.args.c = simp to_z-of_z at c.centre.ensures in
    subst IsNearPlace (sym e) c.requires.cell
