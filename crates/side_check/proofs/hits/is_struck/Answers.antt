use Rattle.std.proofs.Common.{rules, ◌≡◌, ap, subst, sym, ◌∙◌}
use Rattle.std.proofs.lemmas.Int.{to_z-of_z}
use mir.Val.{SFits}
use mir.Syntax.{w64}
use Rattle.board_base.specs.declared.places.Point.{Point}
use Rattle.board_base.specs.Lattice.{centre_of}
use Rattle.board_base.specs.Near.{near_of}
use Rattle.board_base.specs.Places.{IsNearPlace}
use Rattle.cell_grid.specs.declared.frames.Frame.{Frame}
use Rattle.side_check.proofs.StrikeLaws.{kept_struck}
use Rattle.side_check.proofs.hits.is_struck.Goals as goal

pub near-requires-clause-q : goal.near-requires-clause-q
near-requires-clause-q c =
    let pitch : SFits w64 c.frame.result.pitch = search rules in
    let e : c.centre.result ≡ centre_of c.frame.result.pitch c.args.c = simp to_z-of_z at c.centre.ensures in
    subst IsNearPlace (sym (e ∙ ap (λ (f : Frame). centre_of f.pitch c.args.c) c.frame.ensures.value)) c.requires.centre

pub returns : goal.returns
returns c =
    let pitch : SFits w64 c.frame.result.pitch = search rules in
    let d : SFits w64 c.args.d = search rules in
    let e : c.centre.result ≡ centre_of c.frame.result.pitch c.args.c = simp to_z-of_z at c.centre.ensures in
    let near : c.near.result ≡ near_of c.centre.result c.args.a c.args.b c.args.d = simp to_z-of_z at c.near.ensures in
    near ∙ ap (λ (q : Point). near_of q c.args.a c.args.b c.args.d) (e ∙ ap (λ (f : Frame). centre_of f.pitch c.args.c) c.frame.ensures.value)
    ∙ kept_struck c.args.bench.now c.args.a c.args.b c.args.d c.args.c c.requires.inside (sym c.if-not-get.ensures)
