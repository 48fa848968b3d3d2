use Rattle.std.proofs.Common.{◌≡◌, length, take}
use Rattle.plane_arcs.specs.Arcs.{points_round}
use Rattle.apertures.proofs.turns.points_about.Given as goal

-- the points so far
abbrev pub invariant-vectors : goal.invariant-vectors
invariant-vectors l = record {
  value : l.points.items ≡ points_round l.p (take l.v-index l.vectors);
  count : length l.points.items ≡ l.v-index;
}
