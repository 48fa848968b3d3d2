use Rattle.std.proofs.Common.{◌-◌, subst}
use Rattle.cell_grid.specs.declared.frames.Frame.{Frame}
use Rattle.grid_bench.specs.Borders.{IsRowAbove, IsColumnAbove}
use Rattle.grid_bench.proofs.BorderLaws.{border_above}
use Rattle.grid_bench.proofs.borders.is_border_above.Goals as goal

pub returns : goal.returns
returns c holds =
    let g = c.args.bench.now in
    let same = c.frame-frame.ensures.value in
    border_above g.frame g.clearances c.args.g (c.is_column_above.ensures c.if-not-is_column_above.false)
    (subst (λ (f : Frame). IsColumnAbove g.frame g.clearances c.args.g (f.width - 1)) same (c.is_column_above-2.ensures c.if-not-is_column_above-2.false))
    (c.is_row_above.ensures c.if-not-is_row_above.false)
    (subst (λ (f : Frame). IsRowAbove g.frame g.clearances c.args.g (f.height - 1)) same (c.is_row_above-2.ensures holds))
