use Rattle.std.proofs.Common.{subst}
use Rattle.cell_grid.specs.declared.frames.Frame.{Frame}
use Rattle.cell_grid.specs.Place.{InFrame}
use Rattle.contours.proofs.Windows.{between_rows}
use Rattle.contours.proofs.traced.leaves_column.Goals as goal

pub leaves_inside-requires-clause-south : goal.leaves_inside-requires-clause-south
leaves_inside-requires-clause-south c = subst (λ (f : Frame). InFrame f c.moved-south.result) c.frame-frame.ensures.value (c.is_in_frame.ensures.0 c.if-is_in_frame.true)

pub leaves_inside-requires-clause-cell : goal.leaves_inside-requires-clause-cell
leaves_inside-requires-clause-cell c =
    let f = c.args.bench.now.frame in
    let south = subst (λ (f : Frame). InFrame f c.moved-south.result) c.frame-frame.ensures.value (c.is_in_frame.ensures.0 c.if-is_in_frame.true) in
    let north = subst (λ (f : Frame). InFrame f c.moved-north.result) c.frame-frame.ensures.value (c.is_in_frame-then-is_in_frame.ensures.0 c.if-is_in_frame-2.true) in
    between_rows f c.args.c (subst (InFrame f) c.moved-south.ensures.value south) (subst (InFrame f) c.moved-north.ensures.value north)

pub leaves_inside-requires-clause-north : goal.leaves_inside-requires-clause-north
leaves_inside-requires-clause-north c = subst (λ (f : Frame). InFrame f c.moved-north.result) c.frame-frame.ensures.value (c.is_in_frame-then-is_in_frame.ensures.0 c.if-is_in_frame-2.true)
