use Rattle.std.proofs.Common.{◌-◌, ◌*◌}
use Rattle.islands.proofs.RankGrids.{IsRankedAt, IsRankRow}
use Rattle.islands.proofs.counts.number_cells.Given as goal

abbrev pub invariant-rows : goal.invariant-rows
invariant-rows l = IsRankedAt l.fn.bench l.plane l.on l.outer l.frame l.bench l.count (l.y * l.frame.width)

abbrev pub invariant-runs : goal.invariant-runs
invariant-runs l = IsRankRow l.fn.bench l.plane l.on l.outer l.frame l.y l.end l.bench l.count l.at

abbrev pub decreases-runs : goal.decreases-runs
decreases-runs l = l.end - l.at
