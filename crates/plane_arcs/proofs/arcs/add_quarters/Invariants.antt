use Rattle.std.proofs.Common.{◌≡◌, ◌++◌, true}
use Rattle.plane_arcs.specs.Vectors.{IsUpTo, turned}
use Rattle.plane_arcs.specs.Arcs.{quarters, points_round, all_inside}
use Rattle.plane_arcs.proofs.arcs.add_quarters.Given as goal

abbrev pub invariant-quarters : goal.invariant-quarters
invariant-quarters l = record {
  here : l.q ≡ turned l._k l.ccw l.fn.u;
  size : IsUpTo 100000000000000 l.q;
  chain : l.chain.items ≡ l.fn.chain.items ++ points_round l.circle.centre (quarters l.circle.times l.circle.radius l.ccw l.fn.u l._k);
  inside : all_inside (points_round l.circle.centre (quarters l.circle.times l.circle.radius l.ccw l.fn.u l._k)) ≡ true;
}
