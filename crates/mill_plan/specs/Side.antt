-- The grid of a side, with its islands.
use Rattle.std.specs.Prelude.{◌≡◌, ℕ, ◌≤◌, false, List, Ok}
use Rattle.board_base.specs.declared.places.Cell.{Cell}
use Rattle.cell_sets.specs.Islands.{AreIslands}
use Rattle.cell_grid.specs.Grid.{Grid}
use Rattle.cell_grid.specs.Cells.{in_plane, number_in}
use Rattle.shape_parts.specs.declared.shape.Painted.{Painted}
use Rattle.mill_plan.specs.declared.cutting.Cutting.{Cutting}
use Rattle.mill_plan.specs.Cutting.{kept_by}
use Rattle.mill_plan.specs.Frame.{IsFrameOf}

-- the grid over the image's frame has its kept cells and no swept ones, and each label is the number of a cell's island
pub record IsNumberedSide (k : Cutting) (painted : List Painted) (count : ℕ) (g : Grid) : Type 0 where
  pub framed : IsFrameOf k painted (Ok g.frame)
  pub kept : (c : Cell) → in_plane g.frame g.kept c ≡ kept_by k painted c
  pub unswept : (c : Cell) → in_plane g.frame g.swept c ≡ false
  pub islands : AreIslands (kept_by k painted) (number_in g.frame 0 g.labels) count
  pub few : count ≤ 65535
