use Rattle.path_order.proofs.Unique.{one_order}
use Rattle.path_order.proofs.nearest.one_order_law.Goals as goal

pub returns : goal.returns
returns c = one_order
