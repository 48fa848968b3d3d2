use Rattle.std.proofs.Common.{◌+◌, ◌*◌}
use Rattle.apertures.specs.Primitives.{point_in}
use Rattle.apertures.proofs.MacroLaws.{next_point}
use Rattle.apertures.proofs.primitives.outline_points.Goals as goal

pub points-preserved : goal.points-preserved
points-preserved c =
    next_point (λ k. point_in c.args.unit c.args.values.now (2 * k + 2)) c.points.k c.points.points.items c.push.new.self.items c.point_in.result c.points.invariant c.point_in.ensures.value c.in_ok-push.ensures.items
