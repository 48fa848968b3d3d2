use Rattle.std.specs.List.{All}
use Rattle.board_base.specs.Places.{IsPlace}
use Rattle.grid_tests.proofs.many_edges.border.Given as goal

abbrev pub invariant-points : goal.invariant-points
invariant-points l = All IsPlace l.points.items
