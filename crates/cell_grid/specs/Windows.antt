-- Some columns and rows of a frame.
use Rattle.std.specs.Prelude.{ℕ, ◌<◌, ◌≤◌}
use Rattle.board_base.specs.declared.places.Cell.{Cell}
use Rattle.cell_grid.specs.declared.frames.Frame.{Frame}
use Rattle.cell_grid.specs.Place.{column_of, row_of}
use Rattle.cell_grid.specs.declared.windows.Span.{Span}
use Rattle.cell_grid.specs.declared.windows.Window.{Window}

-- one of the numbers of the span
pub record IsInSpan (s : Span) (k : ℕ) : Type 0 where
  pub from : s.from ≤ k
  pub to : k < s.to

-- the cell's column and row are of the window
pub record IsInWindow (f : Frame) (w : Window) (c : Cell) : Type 0 where
  pub column : IsInSpan w.columns (column_of f c)
  pub row : IsInSpan w.rows (row_of f c)

-- the window starts and ends no later than the frame
pub record IsWindowOf (f : Frame) (w : Window) : Type 0 where
  pub west : w.columns.from ≤ f.width
  pub east : w.columns.to ≤ f.width
  pub south : w.rows.from ≤ f.height
  pub north : w.rows.to ≤ f.height
