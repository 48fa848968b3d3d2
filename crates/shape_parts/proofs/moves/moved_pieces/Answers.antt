use Rattle.std.proofs.Common.{◌∙◌, [], Option, IfSome, sym, subst}
use Rattle.std.proofs.lemmas.List.Elements.{All-append, All-cons, All-nil}
use Rattle.shape_parts.specs.declared.shape.Part.{Part}
use Rattle.shape_parts.specs.Parts.{IsPart, IsPiece}
use Rattle.shape_parts.proofs.MoveLaws.{moved_step}
use Rattle.shape_parts.proofs.moves.moved_pieces.Goals as goal

pub pieces-preserved : goal.pieces-preserved
pieces-preserved g c =
    let fits : IsPart c.in-Some.part = subst (λ (o : Option Part). IfSome o IsPart) c.in-Some.is c.in_ok-moved_part.ensures.fits in
    record {
      leads =
          moved_step (g.M.Motion.moves c.args.motion.now) c.args.pieces.now c.pieces.piece-index c.piece-item.result c.pieces.all.items c.push.new.self.items c.in-Some.part c.pieces-test.true c.piece-item.is
          (sym c.in_ok-moved_part.ensures.value ∙ c.in-Some.is) c.pieces.invariant.leads c.in_ok-push-in-Some.ensures.items;
      fit = rw c.in_ok-push-in-Some.ensures.items (All-append IsPiece _ _ c.pieces.invariant.fit (All-cons IsPiece _ [] fits (All-nil IsPiece)));
    }
