use Rattle.std.proofs.Common.{◌∙◌, ap, length, ◌+◌, ◌*◌}
use Rattle.gerber_image.specs.Image.{vertices_in}
use Rattle.gerber_image.specs.Objects.{excess}
use Rattle.gerber_image.proofs.Counts.{excess_copies}
use Rattle.gerber_image.proofs.repeat.copies_excess.Goals as goal

pub returns : goal.returns
returns c =
    c.excess.ensures
    ∙ ap (λ n. excess (length c.args.painted.now + c.count_copies-objects.result) (vertices_in c.args.painted.now + c.args.r.columns * (c.args.r.rows * n))) c.block_vertices.ensures
    ∙ excess_copies c.args.painted.now c.args.block.now c.args.r c.count_copies-objects.result c.requires.some_columns c.requires.some_rows c.count_copies-objects.ensures.value
