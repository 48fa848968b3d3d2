use Rattle.std.proofs.Common.{◌≡◌, ◌+◌, ◌*◌}
use Rattle.cell_grid.specs.Place.{IsFrame}
use Rattle.separation_check.specs.Unswept.{is_unswept, island_of, class_of}
use Rattle.separation_check.proofs.Collecting.{IsCollecting}
use Rattle.separation_check.proofs.meetings.meetings_by.Given as goal

abbrev pub invariant-rows : goal.invariant-rows
invariant-rows l = record {
  same : l.frame ≡ l.bench.frame;
  frame : IsFrame l.frame;
  collecting : IsCollecting l.bench.frame (is_unswept l.bench) (island_of l.bench) (class_of l.bench) l.list.items l.last (l.y * l.frame.width);
}

abbrev pub invariant-cells : goal.invariant-cells
invariant-cells l = record {
  same : l.frame ≡ l.bench.frame;
  frame : IsFrame l.frame;
  collecting : IsCollecting l.bench.frame (is_unswept l.bench) (island_of l.bench) (class_of l.bench) l.list.items l.last (l.y * l.frame.width + l.x);
}
