use Rattle.std.proofs.Common.{◌≡◌, ◌++◌, map, take}
use Rattle.drill_program.specs.Program.{hole_cut}
use Rattle.drill_program.proofs.program.add_holes.Given as goal

abbrev pub invariant-holes : goal.invariant-holes
invariant-holes l = l.cuts ≡ l.fn.cuts ++ map (hole_cut l.job) (take l.at-index l.holes.items)
