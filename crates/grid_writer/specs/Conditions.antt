-- Which programs are written.
use Rattle.std.specs.Prelude.{Option, Some, None}
use Rattle.board_base.specs.Places.{IsCoordinate}
use Rattle.mill_program.specs.declared.cuts.Program.{Program}
use Rattle.mill_program.specs.declared.probes.ProbeGrid.{ProbeGrid}
use Rattle.mill_program.specs.Probes.{IsGrid}
use Rattle.mill_program.specs.Conditions.{IsProgram}
use Rattle.grid_runs.specs.Conditions.{IsProgramOver}

-- a grid whose first probe is within the machine's reach
pub record IsPlaced (g : ProbeGrid) : Type 0 where
  pub is_grid : IsGrid g
  pub x0 : IsCoordinate g.x0
  pub y0 : IsCoordinate g.y0

-- no grid, or such a one
abbrev pub IsSurface : Option ProbeGrid → Type 0
IsSurface None = Unit {0}
IsSurface (Some g) = IsPlaced g

-- a program with this grid, or without one
abbrev pub IsOver : Option ProbeGrid → Program → Type 0
IsOver None p = IsProgram p
IsOver (Some g) p = IsProgramOver g p × IsPlaced g

-- a program that is written, with its own grid, if any
abbrev pub IsWritable : Program → Type 0
IsWritable p = IsOver p.grid p
