use Rattle.std.proofs.Common.{length}
use Rattle.path_order.proofs.Ordering.{indices_of}
use Rattle.drill_plan.proofs.plans.holes.Goals as goal

pub in_order-requires : goal.in_order-requires
in_order-requires c = indices_of (length c.in_ok-points.points.items) c.in_ok-order.order.items c.in_ok-order.ensures.order
