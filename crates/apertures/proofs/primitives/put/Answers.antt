use Rattle.std.proofs.Common.{[]}
use Rattle.std.proofs.lemmas.List.Elements.{All-append, All-cons, All-nil}
use Rattle.apertures.specs.Figures.{IsBoundedPiece}
use Rattle.apertures.proofs.primitives.put.Goals as goal

pub returns-clause-bounded : goal.returns-clause-bounded
returns-clause-bounded c =
    rw c.in_ok-push.ensures.items (All-append IsBoundedPiece _ _ c.requires.pieces (All-cons IsBoundedPiece _ [] c.requires.part (All-nil IsBoundedPiece)))
