use Rattle.std.proofs.Common.{◌≡◌, ◌++◌, map}
use Rattle.std.specs.List.{range_with_len}
use Rattle.outline_plan.specs.Job.{level_at}
use Rattle.outline_plan.specs.Cuts.{cut_at}
use Rattle.outline_plan.proofs.cuts.add_levels.Given as goal

abbrev pub invariant-levels : goal.invariant-levels
invariant-levels l = l.cuts ≡ l.fn.cuts ++ map (cut_at l.job l.bridges.items l.walk) (map (level_at l.job) (range_with_len 0 l.k))
