use Rattle.std.proofs.Common.{◌-◌, ◌*◌}
use Rattle.islands.proofs.RowGrids.{IsRowAt}
use Rattle.islands.proofs.JoinGrids.{IsJoinedAt}
use Rattle.islands.proofs.joins.join_cells.Given as goal

abbrev pub invariant-rows : goal.invariant-rows
invariant-rows l = IsJoinedAt l.fn.bench l.plane l.on l.outer l.frame l.bench (l.y * l.frame.width)

abbrev pub invariant-runs : goal.invariant-runs
invariant-runs l = IsRowAt l.fn.bench l.plane l.on l.outer l.frame l.y l.end l.bench l.at

abbrev pub decreases-runs : goal.decreases-runs
decreases-runs l = l.end - l.at
