use Rattle.std.proofs.Common.{◌≡◌, length, arith, ap, ◌∙◌}
use Rattle.std.proofs.lemmas.List.FromFn.{length-map-range_with_len}
use Rattle.apertures.proofs.primitives.outline.Goals as goal

pub turned_area-requires-clause-low : goal.turned_area-requires-clause-low
turned_area-requires-clause-low c =
    let count : length c.deref.result.now ≡ c.in_ok-n.n = ap length c.deref.ensures.value ∙ ap length c.in_ok-points.ensures ∙ length-map-range_with_len _ 0 c.in_ok-n.n in
    omega (arith, count, c.in_ok-n.ensures.low)

pub turned_area-requires-clause-high : goal.turned_area-requires-clause-high
turned_area-requires-clause-high c =
    let count : length c.deref.result.now ≡ c.in_ok-n.n = ap length c.deref.ensures.value ∙ ap length c.in_ok-points.ensures ∙ length-map-range_with_len _ 0 c.in_ok-n.n in
    omega (arith, count, c.in_ok-n.ensures.high)
