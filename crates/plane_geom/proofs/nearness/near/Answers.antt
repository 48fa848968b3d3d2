use Rattle.std.proofs.Common.{◌≡◌, ℤ, Bool}
use Rattle.board_base.specs.declared.places.Point.{Point}
use Rattle.board_base.specs.Near.{near_of, near_vec, from_to}
use Rattle.std.proofs.Common.{rules}
use Rattle.std.proofs.lemmas.Int.{to_z-of_z}
use mir.Val.{SFits}
use mir.Syntax.{w64, w128}
use Rattle.plane_geom.proofs.nearness.near.Goals as goal

near-spans : (q a b : Point) (d ux uy wx wy vx vy : ℤ) (r : Bool) → ux ≡ from_to a.x b.x → uy ≡ from_to a.y b.y → wx ≡ from_to a.x q.x → wy ≡ from_to a.y q.y
    → vx ≡ from_to b.x q.x → vy ≡ from_to b.y q.y → r ≡ near_vec ux uy wx wy vx vy d → r ≡ near_of q a b d
unfolding near_of
near-spans q a b d ux uy wx wy vx vy r e1 e2 e3 e4 e5 e6 h = cc

pub returns : goal.returns
returns c =
    let f1 : SFits w128 c.span-ux.result = search rules in
    let f2 : SFits w128 c.span-uy.result = search rules in
    let f3 : SFits w128 c.span-wx.result = search rules in
    let f4 : SFits w128 c.span-wy.result = search rules in
    let f5 : SFits w128 c.span-vx.result = search rules in
    let f6 : SFits w128 c.span-vy.result = search rules in
    let f7 : SFits w64 c.args.d = c.ranges.d in
    let g1 : SFits w64 c.args.q.x = search rules in
    let g2 : SFits w64 c.args.q.y = search rules in
    let g3 : SFits w64 c.args.a.x = search rules in
    let g4 : SFits w64 c.args.a.y = search rules in
    let g5 : SFits w64 c.args.b.x = search rules in
    let g6 : SFits w64 c.args.b.y = search rules in
    near-spans c.args.q c.args.a c.args.b _ _ _ _ _ _ _ _ (simp to_z-of_z at c.span-ux.ensures.value) (simp to_z-of_z at c.span-uy.ensures.value)
    (simp to_z-of_z at c.span-wx.ensures.value) (simp to_z-of_z at c.span-wy.ensures.value) (simp to_z-of_z at c.span-vx.ensures.value)
    (simp to_z-of_z at c.span-vy.ensures.value) (simp to_z-of_z at c.near_by_spans.ensures)
