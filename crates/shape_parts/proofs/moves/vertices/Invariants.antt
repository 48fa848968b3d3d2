use Rattle.std.proofs.Common.{◌≡◌, ◌≤◌, ◌*◌, take}
use Rattle.shape_parts.specs.Vertices.{vertices_of}
use Rattle.shape_parts.proofs.moves.vertices.Given as goal

abbrev pub invariant-pieces : goal.invariant-pieces
invariant-pieces l = record {
  value : l.all ≡ vertices_of (take l.piece-index l.pieces);
  few : l.all ≤ l.piece-index * 4194304;
}
