use Rattle.std.proofs.Common.{rules}
use Rattle.std.proofs.lemmas.Int.{to_z-of_z}
use mir.Val.{SFits}
use mir.Syntax.{w32, w64}
use Rattle.plane_geom.proofs.ReachLaws.{round_holds}
use Rattle.plane_geom.proofs.cells.reach.Goals as goal

pub returns-clause-west : goal.returns-clause-west
returns-clause-west c =
    let r1 : SFits w64 c.args.d = c.ranges.d in
    let r2 : SFits w64 c.args.pitch = c.ranges.pitch in
    let g1 : SFits w64 c.args.a.x = search rules in
    let g2 : SFits w64 c.args.a.y = search rules in
    let g3 : SFits w64 c.args.b.x = search rules in
    let g4 : SFits w64 c.args.b.y = search rules in
    let f1 : SFits w32 c.first_of-i0.result = search rules in
    let f2 : SFits w32 c.first_of-j0.result = search rules in
    let f3 : SFits w32 c.last_of-i1.result = search rules in
    let f4 : SFits w32 c.last_of-j1.result = search rules in
    simp to_z-of_z (simp to_z-of_z at c.first_of-i0.ensures)

pub returns-clause-south : goal.returns-clause-south
returns-clause-south c =
    let r1 : SFits w64 c.args.d = c.ranges.d in
    let r2 : SFits w64 c.args.pitch = c.ranges.pitch in
    let g1 : SFits w64 c.args.a.x = search rules in
    let g2 : SFits w64 c.args.a.y = search rules in
    let g3 : SFits w64 c.args.b.x = search rules in
    let g4 : SFits w64 c.args.b.y = search rules in
    let f1 : SFits w32 c.first_of-i0.result = search rules in
    let f2 : SFits w32 c.first_of-j0.result = search rules in
    let f3 : SFits w32 c.last_of-i1.result = search rules in
    let f4 : SFits w32 c.last_of-j1.result = search rules in
    simp to_z-of_z (simp to_z-of_z at c.first_of-j0.ensures)

pub returns-clause-east : goal.returns-clause-east
returns-clause-east c =
    let r1 : SFits w64 c.args.d = c.ranges.d in
    let r2 : SFits w64 c.args.pitch = c.ranges.pitch in
    let g1 : SFits w64 c.args.a.x = search rules in
    let g2 : SFits w64 c.args.a.y = search rules in
    let g3 : SFits w64 c.args.b.x = search rules in
    let g4 : SFits w64 c.args.b.y = search rules in
    let f1 : SFits w32 c.first_of-i0.result = search rules in
    let f2 : SFits w32 c.first_of-j0.result = search rules in
    let f3 : SFits w32 c.last_of-i1.result = search rules in
    let f4 : SFits w32 c.last_of-j1.result = search rules in
    simp to_z-of_z (simp to_z-of_z at c.last_of-i1.ensures)

pub returns-clause-north : goal.returns-clause-north
returns-clause-north c =
    let r1 : SFits w64 c.args.d = c.ranges.d in
    let r2 : SFits w64 c.args.pitch = c.ranges.pitch in
    let g1 : SFits w64 c.args.a.x = search rules in
    let g2 : SFits w64 c.args.a.y = search rules in
    let g3 : SFits w64 c.args.b.x = search rules in
    let g4 : SFits w64 c.args.b.y = search rules in
    let f1 : SFits w32 c.first_of-i0.result = search rules in
    let f2 : SFits w32 c.first_of-j0.result = search rules in
    let f3 : SFits w32 c.last_of-i1.result = search rules in
    let f4 : SFits w32 c.last_of-j1.result = search rules in
    simp to_z-of_z (simp to_z-of_z at c.last_of-j1.ensures)

pub returns-clause-holds : goal.returns-clause-holds
returns-clause-holds c =
    let r1 : SFits w64 c.args.d = c.ranges.d in
    let r2 : SFits w64 c.args.pitch = c.ranges.pitch in
    let g1 : SFits w64 c.args.a.x = search rules in
    let g2 : SFits w64 c.args.a.y = search rules in
    let g3 : SFits w64 c.args.b.x = search rules in
    let g4 : SFits w64 c.args.b.y = search rules in
    let f1 : SFits w32 c.first_of-i0.result = search rules in
    let f2 : SFits w32 c.first_of-j0.result = search rules in
    let f3 : SFits w32 c.last_of-i1.result = search rules in
    let f4 : SFits w32 c.last_of-j1.result = search rules in
    simp to_z-of_z
    (λ cell n. round_holds c.args.pitch c.args.d c.args.a c.args.b _ cell c.requires.d.low
    (record { west = simp to_z-of_z at c.first_of-i0.ensures; south = simp to_z-of_z at c.first_of-j0.ensures; east = simp to_z-of_z at c.last_of-i1.ensures; north = simp to_z-of_z at c.last_of-j1.ensures }) n)
