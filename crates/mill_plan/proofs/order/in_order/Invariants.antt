use Rattle.mill_plan.proofs.OrderLaws.{AreTaken}
use Rattle.mill_plan.proofs.order.in_order.Given as goal

abbrev pub invariant-order : goal.invariant-order
invariant-order l = AreTaken l.fn.rows.items l.left.items l.order.items l.k-index l.walks.items
