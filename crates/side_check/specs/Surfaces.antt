-- Grids whose surface can be found.
use Rattle.board_base.specs.Places.{IsCoordinate}
use Rattle.mill_program.specs.declared.probes.ProbeGrid.{ProbeGrid}
use Rattle.mill_program.specs.Probes.{IsGrid}

-- a grid that a program may have, which begins on the board
pub record IsProbed (g : ProbeGrid) : Type 0 where
  pub grid : IsGrid g
  pub x0 : IsCoordinate g.x0
  pub y0 : IsCoordinate g.y0
