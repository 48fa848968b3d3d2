use Rattle.std.proofs.Common.{◌≡◌, take}
use Rattle.outline_plan.specs.Cuts.{outline_cuts}
use Rattle.outline_plan.proofs.cuts.cuts.Given as goal

abbrev pub invariant-walks : goal.invariant-walks
invariant-walks l = l.cuts ≡ outline_cuts l.job l.bridges.items (take l.walk-index l.walks.items)
