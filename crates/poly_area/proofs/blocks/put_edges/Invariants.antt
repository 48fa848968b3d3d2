use Rattle.std.proofs.Common.{◌≡◌, ◌≤◌, length, vec_capacity}
use Rattle.poly_area.specs.Blocks.{AreBlocks}
use Rattle.poly_area.proofs.blocks.put_edges.Given as goal

abbrev pub invariant-edges : goal.invariant-edges
invariant-edges l = record {
  blocks : AreBlocks l.blocks.items l.edges l.k;
  room : vec_capacity l.blocks ≡ vec_capacity l.fn.blocks;
  inside : l.k ≤ length l.edges;
}
