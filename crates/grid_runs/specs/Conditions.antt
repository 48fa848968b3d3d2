-- Which programs can be run over a grid of probes.
use Rattle.std.specs.Prelude.{◌≡◌, ℤ, ◌≤◌, ◌+ℤ◌, ◌-ℤ◌, ◌<ℤ◌, ◌≤ℤ◌, List, length, Some}
use Rattle.std.specs.List.{All}
use Rattle.board_base.specs.Places.{IsCoordinate}
use Rattle.mill_program.specs.declared.cuts.Corner.{Corner}
use Rattle.mill_program.specs.declared.cuts.Program.{Program}
use Rattle.mill_program.specs.declared.probes.ProbeGrid.{ProbeGrid}
use Rattle.mill_program.specs.Probes.{IsGrid}
use Rattle.mill_program.specs.Conditions.{IsToolRun, AreSteps}

-- a corner that stays within the machine's reach, wherever the surface is within the range of the probes
pub record IsCornerOver (g : ProbeGrid) (c : Corner) : Type 0 where
  pub lowest : IsCoordinate (c.z -ℤ g.range)
  pub highest : IsCoordinate (c.z +ℤ g.range)

-- a program with this grid: one tool run at most, so that the board is probed once, with the range below the safe height
pub record IsProgramOver (g : ProbeGrid) (p : Program) : Type 0 where
  pub grid : p.grid ≡ Some g
  pub is_grid : IsGrid g
  pub safe : IsCoordinate p.safe
  pub change : IsCoordinate p.change
  pub runs : All IsToolRun p.runs
  pub one : length p.runs ≤ 1
  pub range : g.range <ℤ p.safe
  pub corners : All (λ run. All (All (IsCornerOver g)) run.cuts) p.runs

-- a cut that stays below the safe height, wherever the surface is, and that changes either its height or its place
pub record IsRunnableCutOver (g : ProbeGrid) (safe : ℤ) (cut : List Corner) : Type 0 where
  pub below : All (λ c. (c.z +ℤ g.range) <ℤ safe) cut
  pub steps : AreSteps cut

-- tools are changed no lower than the safe height, and each cut is such a one
pub record IsRunnableOver (g : ProbeGrid) (p : Program) : Type 0 where
  pub high : p.safe ≤ℤ p.change
  pub cuts : All (λ run. All (IsRunnableCutOver g p.safe) run.cuts) p.runs
