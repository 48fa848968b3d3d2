use Rattle.std.proofs.Common.{◌≡◌, take}
use Rattle.gerber_image.specs.Image.{vertices_in}
use Rattle.gerber_image.specs.Objects.{capped}
use Rattle.gerber_image.proofs.block.block_vertices.Given as goal

abbrev pub invariant-objects : goal.invariant-objects
invariant-objects l = l.vertices ≡ capped (vertices_in (take l.object-index l.block))
