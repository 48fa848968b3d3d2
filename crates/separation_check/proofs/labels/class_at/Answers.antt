use Rattle.std.proofs.Common.{sym, ap, ◌∙◌}
use Rattle.cell_grid.specs.declared.frames.Frame.{Frame}
use Rattle.cell_grid.specs.Cells.{in_frame}
use Rattle.cell_grid.proofs.CellsLaws.{in_frame_is}
use Rattle.separation_check.proofs.labels.class_at.Goals as goal

pub get-requires : goal.get-requires
get-requires c =
    let e = ap (λ (f : Frame). in_frame f c.args.c) (sym c.frame.ensures.value) ∙ sym c.is_inside.ensures ∙ c.if-not-is_inside.false in
    in_frame_is c.args.bench.now.frame c.args.c e

pub work-requires : goal.work-requires
work-requires c =
    let e = ap (λ (f : Frame). in_frame f c.args.c) (sym c.frame.ensures.value) ∙ sym c.is_inside.ensures ∙ c.if-not-is_inside.false in
    in_frame_is c.args.bench.now.frame c.args.c e
