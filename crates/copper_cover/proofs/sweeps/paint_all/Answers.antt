use Rattle.std.proofs.Common.{◌≡◌, ◌<◌, length, get_or, List, sym, subst}
use Rattle.cell_grid.specs.declared.frames.Frame.{Frame}
use Rattle.shape_parts.specs.declared.shape.Painted.{Painted}
use Rattle.copper_cover.specs.Rows.{AreWide}
use Rattle.copper_cover.proofs.Painting.{none_covered, covered_more, covered_frame}
use Rattle.copper_cover.proofs.sweeps.paint_all.Goals as goal

pub objects-init : goal.objects-init
objects-init c = record { covered = none_covered _ _ c.args.painted.now.items c.clear.ensures.rest c.clear.ensures.kept; wide = c.requires.wide }

pub paint-requires-clause-wide : goal.paint-requires-clause-wide
paint-requires-clause-wide c = subst (λ (f : Frame). AreWide c.objects.rows f.width) (sym (covered_frame _ _ _ c.objects.invariant.covered)) c.objects.invariant.wide

pub objects-preserved : goal.objects-preserved
objects-preserved c =
    let same = c.deref-object-items.ensures.value in
    let o = c.object-item.result in
    let k = c.objects.object-index in
    record {
      covered = covered_more _ _ _ c.args.painted.now.items k o c.objects.invariant.covered (subst (λ (xs : List Painted). k < length xs) same c.objects-test.true)
          (subst (λ (xs : List Painted). o ≡ get_or xs k o) same c.object-item.is) c.paint.ensures.rest c.paint.ensures.kept;
      wide = subst (λ (f : Frame). AreWide c.paint.new.rows f.width) (covered_frame _ _ _ c.objects.invariant.covered) c.paint.ensures.wide;
    }
