use Rattle.std.proofs.Common.{◌≡◌, ◌∙◌, sym, ap, subst, not, ◌&&◌, ◌+◌, take, List}
use Rattle.std.proofs.lemmas.Int.{to_z-of_z}
use mir.Val.{SFits}
use mir.Syntax.{w64}
use Rattle.shape_parts.specs.declared.shape.Painted.{Painted}
use Rattle.shape_parts.specs.Shapes.{shape_touches, shape_covers}
use Rattle.shape_parts.specs.Cover.{is_kept}
use Rattle.shape_parts.proofs.Standing.{stands_step}
use Rattle.copper_cover.proofs.objects.is_kept.Goals as goal

pub objects-preserved : goal.objects-preserved
objects-preserved c =
    let g : SFits w64 c.args.h = c.ranges.h in
    let same = c.deref-object-items.ensures.value in
    simp to_z-of_z
    (subst (λ (xs : List Painted). c.kept_after-kept.result ≡ is_kept c.args.c c.args.h (take (c.objects.object-index + 1) xs)) same
    (stands_step (λ o. o.dark && shape_touches c.args.c c.args.h o.shape) (λ o. not o.dark && shape_covers c.args.c c.args.h o.shape) c.deref-object-items.result.now c.objects.object-index c.object-item.result c.objects.kept c.kept_after-kept.result c.objects-test.true c.object-item.is
    ((simp to_z-of_z at c.objects.invariant) ∙ ap (λ (xs : List Painted). is_kept c.args.c c.args.h (take c.objects.object-index xs)) (sym same)) (simp to_z-of_z at c.kept_after-kept.ensures)))
