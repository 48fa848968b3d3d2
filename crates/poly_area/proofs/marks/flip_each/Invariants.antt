use Rattle.std.proofs.Common.{◌≡◌, ℕ, ◌<◌, ◌≤◌, ◌-◌, ◌*◌, ◌+◌, min, take, drop, length}
use Rattle.poly_area.specs.Crossing.{xor}
use Rattle.poly_area.specs.Area.{odd_of, crosses, edges_of, on_row}
use Rattle.poly_area.specs.Rows.{column_x, running}
use Rattle.poly_area.proofs.marks.flip_each.Given as goal

abbrev pub invariant-edges : goal.invariant-edges
invariant-edges l = record {
  turned : (k : ℕ) → k < length l.marks
      → running l.marks k ≡ xor (running l.fn.marks k) (odd_of (crosses (on_row (column_x l.west l.pitch k) l.y)) (take (l.edge - 16 * l.block) (drop (16 * l.block) (edges_of l.poly))));
  from : 16 * l.block ≤ l.edge;
  end : l.edge ≤ min (16 * l.block + 16) (length (edges_of l.poly));
}
