use Rattle.std.proofs.Common.{◌∙◌, ◌≤◌, ap, sym, subst}
use Rattle.shape_parts.specs.declared.shape.Painted.{Painted}
use Rattle.shape_parts.specs.Vertices.{vertices_of}
use Rattle.gerber_image.proofs.Counts.{small_shape}
use Rattle.gerber_image.proofs.block.BlockObject.shape.Goals as goal

pub returns : goal.returns
returns c =
    small_shape c.self.inside.shape c.self.inside.large.items c.self.invariant (subst (λ (p : Painted). vertices_of p.shape ≤ 4194304) (sym c.self.view_is) c.requires)
    ∙ ap (λ (p : Painted). p.shape) c.self.view_is
