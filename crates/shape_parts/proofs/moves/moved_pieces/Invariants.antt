use Rattle.std.proofs.Common.{◌≡◌, drop}
use Rattle.std.specs.List.{All}
use Rattle.shape_parts.specs.Parts.{IsPiece}
use Rattle.shape_parts.specs.Moved.{moved_pieces}
use Rattle.shape_parts.proofs.MoveLaws.{before}
use Rattle.shape_parts.proofs.moves.moved_pieces.Given as goal

-- the pieces so far, and those of what is left, are those of all
abbrev pub invariant-pieces : goal.invariant-pieces
invariant-pieces g l = record {
  leads : before l.all.items (moved_pieces (g.M.Motion.moves l.motion) (drop l.piece-index l.pieces)) ≡ moved_pieces (g.M.Motion.moves l.motion) l.pieces;
  fit : All IsPiece l.all.items;
}
