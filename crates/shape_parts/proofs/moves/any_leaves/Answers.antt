use Rattle.std.proofs.Common.{◌∙◌, ◌≤◌, length, sym, arith}
use Rattle.shape_parts.proofs.MoveLaws.{part_left, none_left}
use Rattle.shape_parts.proofs.moves.any_leaves.Goals as goal

pub returns-then-part_leaves : goal.returns-then-part_leaves
returns-then-part_leaves g c =
    part_left (g.M.Motion.moves c.args.motion.now) c.args.pieces.now c.pieces.piece-index c.piece-item.result c.pieces-test.true c.piece-item.is (sym c.part_leaves.ensures ∙ c.if-part_leaves.true)

pub returns : goal.returns
returns g c =
    let done : length c.args.pieces.now ≤ c.pieces.piece-index = omega (arith, c.pieces-test.false) in
    none_left (g.M.Motion.moves c.args.motion.now) c.args.pieces.now c.pieces.piece-index done c.pieces.invariant
