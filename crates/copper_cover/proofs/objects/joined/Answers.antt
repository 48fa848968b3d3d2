use Rattle.std.proofs.Common.{◌≡◌, sym, subst}
use Rattle.shape_parts.specs.Boxes.{hull, IsBounds, AreBounds}
use Rattle.shape_parts.proofs.BoundsLaws.{hull_bounds}
use Rattle.copper_cover.proofs.objects.joined.Goals as goal

pub returns-in-Some-b-clause-bounds : goal.returns-in-Some-b-clause-bounds
returns-in-Some-b-clause-bounds c =
    let same : c.hull.result ≡ hull c.in-Some.x c.in-Some-b.y = λ t. record { x0 = c.hull.ensures.x0 t; y0 = c.hull.ensures.y0 t; x1 = c.hull.ensures.x1 t; y1 = c.hull.ensures.y1 t } in
    subst IsBounds (sym same) (hull_bounds c.in-Some.x c.in-Some-b.y (subst AreBounds c.in-Some.is c.requires.a) (subst AreBounds c.in-Some-b.is c.requires.b))
