use Rattle.std.proofs.Common.{◌≡◌, None, take}
use Rattle.std.specs.Prelude.{IfSome}
use Rattle.std.specs.List.{fold}
use Rattle.tile_steps.specs.Drilled.{with_tool, IsOnBoardBox}
use Rattle.tile_steps.proofs.drilled.drilled_box.Given as goal

abbrev pub invariant-tools : goal.invariant-tools
invariant-tools l = (l.all ≡ fold with_tool None (take l.tool-index l.plan)) × IfSome l.all IsOnBoardBox
