use Rattle.std.proofs.Common.{◌<◌, not, ◌&&◌, length, rules}
use mir.Val.{SFits}
use mir.Syntax.{w64}
use Rattle.shape_parts.specs.Parts.{part_touches, part_covers}
use Rattle.shape_parts.proofs.Standing.{stands_step}
use Rattle.copper_cover.specs.Rows.{centre_in}
use Rattle.copper_cover.proofs.rows.fill.Goals as goal

pub pieces-preserved : goal.pieces-preserved
pieces-preserved c =
    let f : SFits w64 c.args.row.h = search rules in
    let i = c.pieces.piece-index in
    let x = c.piece-item.result in
    record {
      touched = λ k l.
          let before : k < length c.pieces.touched = search rules in
          let q = centre_in c.args.row k in
          stands_step (λ p. p.on && part_touches q c.args.row.h p.part) (λ p. not p.on && part_covers q c.args.row.h p.part) c.args.pieces.now i x _ _ c.pieces-test.true c.piece-item.is
          (c.pieces.invariant.touched k before) (c.add_piece.ensures.touched k l);
      covered = λ k l.
          let before : k < length c.pieces.covered = search rules in
          let q = centre_in c.args.row k in
          stands_step (λ p. p.on && part_covers q c.args.row.h p.part) (λ p. not p.on && part_touches q c.args.row.h p.part) c.args.pieces.now i x _ _ c.pieces-test.true c.piece-item.is
          (c.pieces.invariant.covered k before) (c.add_piece.ensures.covered k l);
    }
