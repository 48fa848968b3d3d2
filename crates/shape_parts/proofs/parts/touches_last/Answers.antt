use Rattle.std.proofs.Common.{not, ◌&&◌}
use Rattle.std.proofs.lemmas.Int.{to_z-of_z}
use mir.Val.{SFits}
use mir.Syntax.{w64}
use Rattle.shape_parts.specs.Parts.{part_touches, part_covers}
use Rattle.shape_parts.proofs.Standing.{stands_step}
use Rattle.shape_parts.proofs.parts.touches_last.Goals as goal

pub loop-piece-preserved : goal.loop-piece-preserved
loop-piece-preserved c =
    let g : SFits w64 c.args.h = c.ranges.h in
    simp to_z-of_z (stands_step (λ p. p.on && part_touches c.args.c c.args.h p.part) (λ p. not p.on && part_covers c.args.c c.args.h p.part) c.args.pieces.now c.loop-piece.piece-index c.piece-item.result c.loop-piece.held c.touched_after-held.result c.loop-piece-test.true c.piece-item.is (simp to_z-of_z at c.loop-piece.invariant) (simp to_z-of_z at c.touched_after-held.ensures))
