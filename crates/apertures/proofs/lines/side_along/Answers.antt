use Rattle.std.proofs.Common.{◌≡◌, ◌≤◌, rules, arith, w64}
use Rattle.std.specs.Prelude.{unsigned_abs}
use Rattle.std.proofs.lemmas.Int.{to_z-of_z}
use borrow.Author.Differences.{ints}
use mir.Syntax.{w128}
use mir.Val.{SFits}
use Rattle.apertures.proofs.MacroLaws.{side_within}
use Rattle.apertures.proofs.lines.side_along.Goals as goal

pub narrow-requires : goal.narrow-requires
narrow-requires c =
    let v : SFits w64 c.args.v = c.ranges.v in
    let w : SFits w64 c.args.w = c.ranges.w in
    let a : SFits w128 c.by_width.result = search rules in
    let q : SFits w128 c.by_number.result = search rules in
    let wide : unsigned_abs c.args.w ≤ 1000000000 = omega (arith, ints, c.requires.w.low, c.requires.w.high) in
    let size = simp to_z-of_z at c.by_width.ensures.size in
    let near = simp to_z-of_z at c.by_number.ensures.nearest in
    let h = side_within c.args.length (unsigned_abs c.args.v) (unsigned_abs c.args.w) c.by_width.result c.by_number.result c.requires.length c.requires.v wide size near in
    simp to_z-of_z (omega arith)

pub returns-clause-size : goal.returns-clause-size
returns-clause-size c =
    let v : SFits w64 c.args.v = c.ranges.v in
    let w : SFits w64 c.args.w = c.ranges.w in
    let a : SFits w128 c.by_width.result = search rules in
    let q : SFits w128 c.by_number.result = search rules in
    let r : SFits w64 c.narrow.result = search rules in
    let wide : unsigned_abs c.args.w ≤ 1000000000 = omega (arith, ints, c.requires.w.low, c.requires.w.high) in
    let size = simp to_z-of_z at c.by_width.ensures.size in
    let near = simp to_z-of_z at c.by_number.ensures.nearest in
    let h = side_within c.args.length (unsigned_abs c.args.v) (unsigned_abs c.args.w) c.by_width.result c.by_number.result c.requires.length c.requires.v wide size near in
    let same : c.narrow.result ≡ c.by_number.result = simp to_z-of_z at c.narrow.ensures in
    simp to_z-of_z (rw same h)
