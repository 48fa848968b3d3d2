-- The levelled program of a side, and what its run does over each surface that answers within the range give. A job that is
-- levelled mills one board, so there is one tile.
use Rattle.std.specs.Prelude.{◌≡◌, ℕ, true, List, ◌++◌, Some}
use Rattle.board_base.specs.declared.places.Cell.{Cell}
use Rattle.board_base.specs.Places.{IsCoordinate}
use Rattle.shape_parts.specs.declared.shape.Painted.{Painted}
use Rattle.mill_program.specs.declared.cuts.Program.{Program}
use Rattle.mill_program.specs.declared.probes.ProbeGrid.{ProbeGrid}
use Rattle.mill_program.specs.GridLines.{lines_over}
use Rattle.mill_program.specs.Strokes.{CutsExactly}
use Rattle.tiling.specs.Copies.{Tile, tiles_of}
use Rattle.levelling.specs.Pieces.{levelled}
use Rattle.grid_runs.specs.Conditions.{IsProgramOver, IsRunnableOver}
use Rattle.job_file.specs.declared.job.Job.{Job}
use Rattle.mill_plan.specs.declared.isolation.Isolation.{Isolation}
use Rattle.mill_plan.specs.Job.{IsSideJob}
use Rattle.mill_plan.specs.Cuts.{all_of}
use Rattle.mill_plan.specs.Isolated.{IsIsolationOf}
use Rattle.mill_plan.specs.Mills.{IsProgramOf}
use Rattle.side_runs.specs.Alone.{alone}
use Rattle.side_levels.specs.Probed.{IsGridOver}
use Rattle.side_surfaces.specs.Runs.{InReach, RunsToOver}
use Rattle.side_surfaces.specs.Sides.{MillsBy}
use Rattle.side_surfaces.specs.Strokes.{wants_by}

-- A program over the grid, with one tool run at the job's speed, feeds, heights and depth. Where the probes are within the
-- machine's reach, its run mills the board, and its strokes are the walks, over each surface.
pub record IsLevelledSide (job : Job) (painted : List Painted) (number : Cell → ℕ) (groups : List (List ℕ)) (walks : List (List Cell)) (g : ProbeGrid) (p : Program) : Type 0 where
  pub words : IsProgramOf job p
  pub first_x : IsCoordinate g.x0
  pub first_y : IsCoordinate g.y0
  pub program : IsProgramOver g p
  pub runnable : IsRunnableOver g p
  pub mills : InReach (Some g) → RunsToOver (Some g) (lines_over p) (MillsBy job painted number groups alone (Some g))
  pub strokes : InReach (Some g) → RunsToOver (Some g) (lines_over p) (λ answers. CutsExactly job.zsafe (wants_by job (Some g) answers alone walks))

pub record LevelledSidesLaw : Type 0 where
  -- where the job asks for levelling, the levelled program is that
  pub side : (job : Job) (painted : List Painted) (plan : Isolation) (g : ProbeGrid) → IsSideJob job → (isolation : IsIsolationOf job painted plan) → job.al_front ≡ true → IsGridOver job plan.frame g
      → IsLevelledSide job painted isolation.number plan.groups.items (all_of isolation.traced.passes ++ isolation.traced.runs) g (levelled g job.pitch plan.program)
  -- and its one tile is the board's own
  pub tiles : (step : Tile) → tiles_of 1 1 step ≡ alone
