use Rattle.std.proofs.Common.{◌≡◌, ◌++◌, map, take}
use Rattle.drill_program.specs.Program.{slot_cut}
use Rattle.drill_program.proofs.program.add_slots.Given as goal

abbrev pub invariant-slots : goal.invariant-slots
invariant-slots l = l.cuts ≡ l.fn.cuts ++ map (slot_cut l.job) (take l.ends-index l.slots.items)
