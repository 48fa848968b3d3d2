use Rattle.std.proofs.Common.{◌∙◌, ◌∷◌, [], ◌++◌, ap, sym, take, List}
use Rattle.std.proofs.lemmas.List.{take_more}
use Rattle.shape_parts.specs.declared.shape.Painted.{Painted}
use Rattle.gerber_image.specs.Image.{vertices_in}
use Rattle.gerber_image.specs.Objects.{capped}
use Rattle.gerber_image.proofs.Counts.{block_more}
use Rattle.gerber_image.proofs.block.block_vertices.Goals as goal

pub objects-preserved : goal.objects-preserved
objects-preserved c =
    let first = take c.objects.object-index c.args.block.now in
    block_more first c.object-item.result c.objects.vertices c.vertices.result c.capped_sum-vertices.result c.objects.invariant c.vertices.ensures c.capped_sum-vertices.ensures
    ∙ ap (λ (l : List Painted). capped (vertices_in l)) (ap (λ (o : Painted). first ++ o ∷ []) c.object-item.is ∙ sym (take_more c.args.block.now c.objects.object-index c.object-item.result c.objects-test.true))
