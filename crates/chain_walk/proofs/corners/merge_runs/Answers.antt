use Rattle.std.proofs.Common.{◌≤◌, length, map, rules}
use Rattle.std.proofs.lemmas.Int.{to_z-of_z}
use mir.Syntax.{w64}
use mir.Val.{SFits}
use Rattle.board_base.specs.Lattice.{centre_of}
use Rattle.chain_walk.specs.Corners.{corners_of}
use Rattle.chain_walk.proofs.CornerLaws.{rest_on, rest_off}
use Rattle.chain_walk.proofs.corners.merge_runs.Goals as goal

pub rest-preserved : goal.rest-preserved
rest-preserved c =
    let wide : SFits w64 c.args.pitch = search rules in
    simp to_z-of_z
    (rest_on c.args.pitch c.args.chain.now c.rest.corners.items c.turn.new.corners.items (map (centre_of c.args.pitch) (corners_of c.args.chain.now)) c.rest.a c.rest.b c.at-c.result.now c.rest.k c.at-c.ensures
    (simp to_z-of_z at c.rest.invariant) (simp to_z-of_z at c.in_ok-turn.ensures))

pub returns : goal.returns
returns c =
    let wide : SFits w64 c.args.pitch = search rules in
    let past : length c.args.chain.now ≤ c.rest.k = search rules in
    rest_off c.args.pitch c.args.chain.now c.rest.corners.items c.add-2.new.corners.items (map (centre_of c.args.pitch) (corners_of c.args.chain.now)) c.rest.a c.rest.b c.rest.k past (simp to_z-of_z at c.rest.invariant)
    (simp to_z-of_z at c.in_ok-add-3.ensures)
