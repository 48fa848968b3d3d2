use Rattle.std.proofs.Common.{[], arith}
use Rattle.std.proofs.lemmas.Grind.{common_steps}
use Rattle.std.proofs.lemmas.List.Elements.{All-append, All-cons, All-nil}
use Rattle.shape_parts.specs.Parts.{IsPiece}
use Rattle.shape_parts.proofs.mirror.mirrored_pieces.Goals as goal

pub pieces-preserved : goal.pieces-preserved
pieces-preserved c = record {
  value = grind (arith, common_steps);
  fit = rw c.in_ok-push.ensures.items (All-append IsPiece _ _ c.pieces.invariant.fit (All-cons IsPiece _ [] c.in_ok-part.ensures.fits (All-nil IsPiece)));
}
