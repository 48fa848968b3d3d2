use Rattle.std.proofs.Common.{◌≡◌, take}
use Rattle.std.specs.Prelude.{IfSome}
use Rattle.std.specs.List.{fold}
use Rattle.tile_steps.specs.Drilled.{with_point, IsOnBoardBox}
use Rattle.tile_steps.proofs.drilled.with_holes.Given as goal

abbrev pub invariant-holes : goal.invariant-holes
invariant-holes l = (l.all ≡ fold with_point l.initial.all (take l.p-index l.tool.holes)) × IfSome l.all IsOnBoardBox
