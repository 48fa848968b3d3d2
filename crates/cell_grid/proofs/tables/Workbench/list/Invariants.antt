use Rattle.std.proofs.Common.{◌≡◌, take}
use Rattle.std.specs.List.{filter}
use Rattle.cell_grid.specs.Grid.{plane_of}
use Rattle.cell_grid.specs.Cells.{in_plane, all_cells}
use Rattle.cell_grid.proofs.tables.Workbench.list.Given as goal

abbrev pub invariant-places : goal.invariant-places
invariant-places l = l.list.items ≡ filter (in_plane l.self.frame (plane_of l.self l.fn.plane)) (take l.at (all_cells l.self.frame))
