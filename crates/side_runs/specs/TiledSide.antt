-- What the answer of `tile` for a side's program is.
use Rattle.std.specs.Prelude.{◌≡◌, ℕ, ◌≤◌, unsigned_abs, List, ◌++◌, map, Ok}
use Rattle.board_base.specs.declared.places.Cell.{Cell}
use Rattle.shape_parts.specs.declared.shape.Painted.{Painted}
use Rattle.rs274_sim.specs.Runs.{RunsTo}
use Rattle.mill_program.specs.declared.cuts.Program.{Program}
use Rattle.mill_program.specs.Conditions.{IsProgram, IsRunnable}
use Rattle.mill_program.specs.Lines.{lines_of}
use Rattle.mill_program.specs.Strokes.{CutsExactly}
use Rattle.tiling.specs.Copies.{Tile, shift_in, tiles_of}
use Rattle.tiling.specs.Stretches.{InTiles}
use Rattle.tiling.specs.Tiles.{tile_of}
use Rattle.job_file.specs.declared.job.Job.{Job}
use Rattle.mill_plan.specs.declared.isolation.Isolation.{Isolation}
use Rattle.mill_plan.specs.Job.{IsSideJob}
use Rattle.mill_plan.specs.Cuts.{all_of}
use Rattle.mill_plan.specs.Isolated.{IsIsolationOf}
use Rattle.mill_plan.specs.Mills.{IsProgramOf}
use Rattle.side_runs.specs.Sides.{MillsTiles}
use Rattle.side_runs.specs.SideStrokes.{wants_along}
use Rattle.side_runs.specs.TileStretches.{MillsBoard}

-- A program that can run, with one tool run at the job's speed, feeds, heights and depth. Its run mills the copies in these
-- tiles, its strokes are the walks in each of them, and it is a stretch for each tile that mills the board there.
pub record IsTiledSide (job : Job) (painted : List Painted) (number : Cell → ℕ) (groups : List (List ℕ)) (walks : List (List Cell)) (tiles : List Tile) (tiled : Program) : Type 0 where
  pub words : IsProgramOf job tiled
  pub program : IsProgram tiled
  pub runnable : IsRunnable tiled
  pub mills : RunsTo (lines_of tiled) (MillsTiles job painted number groups tiles)
  pub strokes : RunsTo (lines_of tiled) (CutsExactly job.zsafe (wants_along job tiles walks))
  pub stretches : RunsTo (lines_of tiled) (InTiles (map (shift_in job.pitch) tiles) (MillsBoard job painted number groups walks))

-- where the steps are no smaller than the frame, the answer of `tile` is that
abbrev pub TiledValueLaw : Type 0
TiledValueLaw =
    (job : Job) (painted : List Painted) (plan : Isolation) (across up : ℕ) (step : Tile) (program : Program) → IsSideJob job → (isolation : IsIsolationOf job painted plan) → 1 ≤ across → 1 ≤ up
    → plan.frame.width ≤ unsigned_abs step.east → plan.frame.height ≤ unsigned_abs step.north → tile_of across up (shift_in job.pitch step) plan.program ≡ Ok program
    → IsTiledSide job painted isolation.number plan.groups.items (all_of isolation.traced.passes ++ isolation.traced.runs) (tiles_of across up step) program
