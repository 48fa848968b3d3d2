use Rattle.std.proofs.Common.{◌≡◌, take, false, is_none}
use Rattle.std.specs.List.{list_any}
use Rattle.shape_parts.specs.Moved.{moved_part}
use Rattle.shape_parts.proofs.moves.any_leaves.Given as goal

abbrev pub invariant-pieces : goal.invariant-pieces
invariant-pieces g l = list_any (λ p. is_none (moved_part (g.M.Motion.moves l.motion) p.part)) (take l.piece-index l.pieces) ≡ false
