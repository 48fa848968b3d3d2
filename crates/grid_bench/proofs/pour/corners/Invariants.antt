use Rattle.std.specs.List.{All}
use Rattle.board_base.specs.Places.{IsPlace}
use Rattle.grid_bench.proofs.pour.corners.Given as goal

abbrev pub invariant-corners : goal.invariant-corners
invariant-corners l = All IsPlace l.all.items
