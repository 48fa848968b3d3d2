use Rattle.std.proofs.Common.{◌≡◌, Ok, ap, sym, subst}
use Rattle.cell_grid.specs.declared.frames.Frame.{Frame}
use Rattle.cell_grid.specs.Grid.{Grid}
use Rattle.mill_plan.specs.Frame.{IsFrameOf}
use Rattle.mill_plan.proofs.FrameLaws.{frame_places}
use Rattle.mill_plan.proofs.ContourLaws.{contour_of}
use Rattle.mill_plan.proofs.contour.first_contour.Goals as goal

pub returns-clause-framed : goal.returns-clause-framed
returns-clause-framed c =
    let same : c.traced.new.bench.frame ≡ c.in-Ok.bench.frame = ap (λ (g : Grid). g.frame) c.traced.ensures.rest in
    subst (λ (f : Frame). IsFrameOf c.args.cutting c.args.painted.now.items (Ok f)) (sym same) c.in-Ok.ensures.framed

pub returns-clause-places : goal.returns-clause-places
returns-clause-places c = λ d inside. frame_places c.args.cutting c.args.painted.now.items c.traced.new.bench.frame c.requires (returns-clause-framed c) d inside

pub returns-clause-contour : goal.returns-clause-contour
returns-clause-contour c =
    contour_of c.args.cutting c.args.painted.now.items c.in-Ok.bench c.traced.new.bench (ap (λ (g : Grid). g.frame) c.traced.ensures.rest) c.in-Ok.ensures.kept c.traced.ensures.contour
