use Rattle.std.proofs.Common.{not, ◌&&◌}
use Rattle.shape_parts.specs.Parts.{part_holds}
use Rattle.shape_parts.proofs.Standing.{stands_step}
use Rattle.shape_parts.proofs.parts.holds_last.Goals as goal

pub loop-piece-preserved : goal.loop-piece-preserved
loop-piece-preserved c =
    stands_step (λ p. p.on && part_holds c.args.q p.part) (λ p. not p.on && part_holds c.args.q p.part) c.args.pieces.now c.loop-piece.piece-index c.piece-item.result c.loop-piece.held c.held_after-held.result c.loop-piece-test.true c.piece-item.is c.loop-piece.invariant c.held_after-held.ensures
