use Rattle.std.proofs.Common.{◌≡◌, ℕ, ◌<◌, ◌*◌, take, length}
use Rattle.poly_area.specs.Crossing.{xor}
use Rattle.poly_area.specs.Area.{odd_of, crosses, edges_of, on_row}
use Rattle.poly_area.specs.Rows.{column_x, running}
use Rattle.poly_area.proofs.marks.flip_edges.Given as goal

abbrev pub invariant-all : goal.invariant-all
invariant-all l = (k : ℕ) → k < length l.marks → running l.marks k ≡ xor (running l.fn.marks k) (odd_of (crosses (on_row (column_x l.west l.pitch k) l.y)) (take (16 * l.block) (edges_of l.poly)))
