use Rattle.std.proofs.Common.{◌≡◌, length, arith, ap, ◌∙◌}
use Rattle.std.proofs.lemmas.List.FromFn.{length-map-range_with_len}
use Rattle.apertures.proofs.parts.polygon.Goals as goal

pub area-requires-clause-low : goal.area-requires-clause-low
area-requires-clause-low c =
    let count : length c.deref.result.now ≡ c.args.n = ap length c.deref.ensures.value ∙ ap length c.in_ok-points.ensures.value ∙ length-map-range_with_len _ 0 c.args.n in
    omega (arith, count, c.requires.low)

pub area-requires-clause-high : goal.area-requires-clause-high
area-requires-clause-high c =
    let count : length c.deref.result.now ≡ c.args.n = ap length c.deref.ensures.value ∙ ap length c.in_ok-points.ensures.value ∙ length-map-range_with_len _ 0 c.args.n in
    omega (arith, count, c.requires.high)
