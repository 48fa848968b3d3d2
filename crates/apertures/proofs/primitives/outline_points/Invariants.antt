use Rattle.std.proofs.Common.{◌≡◌}
use Rattle.apertures.specs.Primitives.{outline_points}
use Rattle.apertures.proofs.primitives.outline_points.Given as goal

-- the points so far
abbrev pub invariant-points : goal.invariant-points
invariant-points l = l.points.items ≡ outline_points l.unit l.values l.k
