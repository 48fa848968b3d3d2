use Rattle.std.proofs.Common.{◌≡◌, ◌++◌, map, take}
use Rattle.mill_plan.specs.Cuts.{trace_of}
use Rattle.mill_plan.proofs.program.add_cuts.Given as goal

abbrev pub invariant-chains : goal.invariant-chains
invariant-chains l = l.cuts ≡ l.fn.cuts ++ map (trace_of l.job) (take l.chain-index l.chains.items)
