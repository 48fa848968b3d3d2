use Rattle.std.proofs.Common.{◌≡◌, true, sym, subst}
use Rattle.board_base.specs.declared.places.Cell.{Cell}
use Rattle.cell_grid.specs.Grid.{Grid}
use Rattle.cell_grid.specs.Cells.{is_above, IsOnBorder}
use Rattle.grid_tests.proofs.Blank.{blank_above}
use Rattle.grid_tests.proofs.traces.contours_round_one_cell.Goals as goal

pub size_above-requires-clause-border : goal.size_above-requires-clause-border
size_above-requires-clause-border g c =
    subst (λ (w : Grid). (d : Cell) → IsOnBorder w.frame d → is_above w.frame w.clearances 8 d ≡ true) (sym c.in-Ok.ensures.blank) (blank_above _)
