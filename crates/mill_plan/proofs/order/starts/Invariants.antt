use Rattle.std.proofs.Common.{◌≡◌, take}
use Rattle.mill_plan.specs.Cuts.{starts_of}
use Rattle.mill_plan.proofs.order.starts.Given as goal

abbrev pub invariant-rows : goal.invariant-rows
invariant-rows l = l.starts.items ≡ starts_of l.pitch (take l.walk-index l.rows.items)
