use Rattle.std.proofs.Common.{◌≡◌, rules, arith, w64}
use Rattle.std.specs.Prelude.{unsigned_abs}
use Rattle.std.proofs.lemmas.Int.{to_z-of_z}
use mir.Syntax.{w128}
use mir.Val.{SFits}
use Rattle.plane_arcs.proofs.VectorLaws.{scaled_within}
use Rattle.plane_arcs.proofs.vectors.scaled_to.Goals as goal

pub narrow-requires : goal.narrow-requires
narrow-requires c =
    let v : SFits w64 c.args.v = c.ranges.v in
    let a : SFits w128 c.times_length.result = search rules in
    let q : SFits w128 c.by_length.result = search rules in
    let size = simp to_z-of_z at c.times_length.ensures.size in
    let near = simp to_z-of_z at c.by_length.ensures.nearest in
    let h = scaled_within c.args.radius c.args.length (unsigned_abs c.args.v) c.times_length.result c.by_length.result c.requires.length c.requires.inside size near in
    simp to_z-of_z (omega arith)

pub returns-clause-size : goal.returns-clause-size
returns-clause-size c =
    let v : SFits w64 c.args.v = c.ranges.v in
    let a : SFits w128 c.times_length.result = search rules in
    let q : SFits w128 c.by_length.result = search rules in
    let r : SFits w64 c.narrow.result = search rules in
    let size = simp to_z-of_z at c.times_length.ensures.size in
    let near = simp to_z-of_z at c.by_length.ensures.nearest in
    let h = scaled_within c.args.radius c.args.length (unsigned_abs c.args.v) c.times_length.result c.by_length.result c.requires.length c.requires.inside size near in
    let same : c.narrow.result ≡ c.by_length.result = simp to_z-of_z at c.narrow.ensures in
    simp to_z-of_z (rw same h)
