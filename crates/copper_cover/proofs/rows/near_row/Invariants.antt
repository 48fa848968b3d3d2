use Rattle.std.proofs.Common.{◌≡◌, ℕ, ◌<◌, ◌*◌, take, length, slice_index_or, false}
use Rattle.std.specs.List.{list_any}
use Rattle.poly_area.specs.Area.{is_near, edges_of}
use Rattle.copper_cover.specs.Rows.{centre_in}
use Rattle.copper_cover.proofs.rows.near_row.Given as goal

abbrev pub invariant-all : goal.invariant-all
invariant-all l = (k : ℕ) → k < length l.bits → slice_index_or l.bits k false ≡ list_any (is_near (centre_in l.row k) l.d) (take (16 * l.block) (edges_of l.poly))
