use Rattle.std.proofs.Common.{◌≡◌, ◌||◌, ℕ, ◌<◌, ◌≤◌, ◌-◌, ◌*◌, ◌+◌, min, take, drop, length, slice_index_or, false}
use Rattle.std.specs.List.{list_any}
use Rattle.poly_area.specs.Area.{is_near, edges_of}
use Rattle.copper_cover.specs.Rows.{centre_in}
use Rattle.copper_cover.proofs.rows.mark_each.Given as goal

abbrev pub invariant-edges : goal.invariant-edges
invariant-edges l = record {
  marked : (k : ℕ) → k < length l.bits
      → slice_index_or l.bits k false ≡ (slice_index_or l.fn.bits k false || list_any (is_near (centre_in l.row k) l.d) (take (l.edge - 16 * l.block) (drop (16 * l.block) (edges_of l.poly))));
  from : 16 * l.block ≤ l.edge;
  end : l.edge ≤ min (16 * l.block + 16) (length (edges_of l.poly));
}
