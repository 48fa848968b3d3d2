use Rattle.std.proofs.Common.{Err, ap, length, arith}
use Rattle.poly_area.specs.Area.{edges_of}
use Rattle.gerber_image.proofs.contour.area.Goals as goal

pub unreachable-requires : goal.unreachable-requires
unreachable-requires c =
    let few = (c.in-Err-TooFewPoints.ensures.few c.in-Err-TooFewPoints.field-0-0).0 (ap Err c.in-Err-TooFewPoints.field-0-is) in
    omega (arith, few.0, c.requires.some)

pub unreachable-requires-in-Err-TooManyPoints : goal.unreachable-requires-in-Err-TooManyPoints
unreachable-requires-in-Err-TooManyPoints c =
    let many = (c.in-Err-TooManyPoints.ensures.many c.in-Err-TooManyPoints.field-0-0).0 (ap Err c.in-Err-TooManyPoints.field-0-is) in
    let none = ap (λ loops. length (edges_of loops)) c.empty-poly.ensures in
    omega (arith, many.1, many.2, none, c.requires.few)
