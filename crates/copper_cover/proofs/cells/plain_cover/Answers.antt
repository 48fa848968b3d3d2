use Rattle.std.proofs.Common.{◌≡◌, ◌<◌, length, get_or, List, subst}
use Rattle.shape_parts.specs.declared.shape.Painted.{Painted}
use Rattle.copper_cover.proofs.Painting.{none_covered, covered_more}
use Rattle.copper_cover.proofs.cells.plain_cover.Goals as goal

pub objects-init : goal.objects-init
objects-init c = none_covered _ _ c.args.painted.now.items c.clear.ensures.rest c.clear.ensures.kept

pub objects-preserved : goal.objects-preserved
objects-preserved c =
    let same = c.deref-object-items.ensures.value in
    let o = c.object-item.result in
    let k = c.objects.object-index in
    covered_more _ _ _ c.args.painted.now.items k o c.objects.invariant (subst (λ (xs : List Painted). k < length xs) same c.objects-test.true)
    (subst (λ (xs : List Painted). o ≡ get_or xs k o) same c.object-item.is) c.paint.ensures.rest c.paint.ensures.kept
