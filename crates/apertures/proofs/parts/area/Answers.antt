use Rattle.std.proofs.Common.{Err, arith, ap, ◌∙◌}
use Rattle.apertures.proofs.parts.area.Goals as goal

pub unreachable-requires : goal.unreachable-requires
unreachable-requires c =
    let few = (c.add_loop.ensures.few c.in-Err-TooFewPoints.field-0-0).0 (c.in-Err-TooFewPoints.is ∙ ap Err c.in-Err-TooFewPoints.field-0-is) in
    omega (arith, few.0, c.requires.low)

pub unreachable-requires-in-Err-TooManyPoints : goal.unreachable-requires-in-Err-TooManyPoints
unreachable-requires-in-Err-TooManyPoints c =
    let many = (c.add_loop.ensures.many c.in-Err-TooManyPoints.field-0-0).0 (c.in-Err-TooManyPoints.is ∙ ap Err c.in-Err-TooManyPoints.field-0-is) in
    let all = rw c.empty-poly.ensures at many.2 in
    omega (arith, many.1, all, c.requires.high)
