use Rattle.std.proofs.Common.{◌+◌}
use Rattle.mill_plan.proofs.PassLaws.{HasPasses}
use Rattle.mill_plan.proofs.passes.side_cuts.Given as goal

abbrev pub invariant-passes : goal.invariant-passes
invariant-passes l = HasPasses l.fn.cutting l.fn.job l.fn.painted.items l.fn.bench.frame (l.pass + 1) l.cuts l.bench
