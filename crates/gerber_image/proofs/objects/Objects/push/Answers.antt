use Rattle.gerber_image.proofs.Counts.{pushed_count}
use Rattle.gerber_image.proofs.objects.Objects.push.Goals as goal

pub invariant_of-self-2 : goal.invariant_of-self-2
invariant_of-self-2 c = pushed_count c.self.inside.painted.items c.push.new.self.items c.args.object c.self.inside.vertices c.vertices.result c.capped_sum-vertices.result c.self.invariant c.vertices.ensures c.capped_sum-vertices.ensures c.in_ok-push.ensures.items
