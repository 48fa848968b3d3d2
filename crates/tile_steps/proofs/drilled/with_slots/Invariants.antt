use Rattle.std.proofs.Common.{◌≡◌, take}
use Rattle.std.specs.Prelude.{IfSome}
use Rattle.std.specs.List.{fold}
use Rattle.tile_steps.specs.Drilled.{with_slot, IsOnBoardBox}
use Rattle.tile_steps.proofs.drilled.with_slots.Given as goal

abbrev pub invariant-slots : goal.invariant-slots
invariant-slots l = (l.all ≡ fold with_slot l.initial.all (take l.ends-index l.tool.slots)) × IfSome l.all IsOnBoardBox
