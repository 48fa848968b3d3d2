use Rattle.std.proofs.Common.{◌≡◌, ℕ, ◌<◌, take, length, slice_index_or, false}
use Rattle.shape_parts.specs.Shapes.{shape_touches, shape_covers}
use Rattle.copper_cover.specs.Rows.{centre_in}
use Rattle.copper_cover.proofs.rows.fill.Given as goal

abbrev pub invariant-pieces : goal.invariant-pieces
invariant-pieces l = record {
  touched : (k : ℕ) → k < length l.touched → slice_index_or l.touched k false ≡ shape_touches (centre_in l.row k) l.row.h (take l.piece-index l.pieces);
  covered : (k : ℕ) → k < length l.covered → slice_index_or l.covered k false ≡ shape_covers (centre_in l.row k) l.row.h (take l.piece-index l.pieces);
}
