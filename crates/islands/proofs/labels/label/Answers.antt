use Rattle.std.proofs.Common.{◌≤◌, ap, sym, subst, arith}
use Rattle.cell_grid.specs.declared.frames.Frame.{Frame}
use Rattle.cell_grid.specs.Grid.{Grid}
use Rattle.cell_grid.specs.Cells.{number_in}
use Rattle.islands.proofs.labels.label.Goals as goal

pub labels_from_works-requires : goal.labels_from_works-requires
labels_from_works-requires c = λ a.
    subst (λ (f : Frame). number_in f 0 c.number_classes-count.new.bench.works a ≤ 65535) (sym (ap (λ (g : Grid). g.frame) c.number_classes-count.ensures.rest))
    (omega (arith, c.number_classes-count.ensures.islands.few a, c.if-count-gt65535.false))
