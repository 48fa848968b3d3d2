-- The cells outside Swept, their islands and their classes, as a grid has them.
use Rattle.std.specs.Prelude.{ℕ, Bool, not}
use Rattle.board_base.specs.declared.places.Cell.{Cell}
use Rattle.cell_grid.specs.Grid.{Grid}
use Rattle.cell_grid.specs.Cells.{in_plane, number_in}

-- whether a cell is outside Swept, as all cells outside the frame are
abbrev pub is_unswept : Grid → Cell → Bool
is_unswept g c = not (in_plane g.frame g.swept c)

-- the number of a cell's island, by the labels; outside the frame there is none
abbrev pub island_of : Grid → Cell → ℕ
island_of g c = number_in g.frame 0 g.labels c

-- the number of a cell's class, by the working labels; outside the frame it is 1
abbrev pub class_of : Grid → Cell → ℕ
class_of g c = number_in g.frame 1 g.works c
