use Rattle.path_order.proofs.Unique.{one_tour}
use Rattle.path_order.proofs.tours.one_tour_law.Goals as goal

pub returns : goal.returns
returns c = one_tour
