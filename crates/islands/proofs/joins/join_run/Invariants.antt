use Rattle.std.proofs.Common.{◌-◌}
use Rattle.islands.proofs.RunGrids.{IsRunAt}
use Rattle.islands.proofs.joins.join_run.Given as goal

abbrev pub invariant-parts : goal.invariant-parts
invariant-parts l = IsRunAt l.fn.bench l.plane l.on l.outer l.frame l.y l.first l.past l.bench l.at

abbrev pub decreases-parts : goal.decreases-parts
decreases-parts l = l.past - l.at
