-- What each tile's stretch of a side's program does.
use Rattle.std.specs.Prelude.{ℕ, ◌<◌, List, ◌++◌, map, length}
use Rattle.board_base.specs.declared.places.Cell.{Cell}
use Rattle.board_base.specs.declared.places.Move.{Move}
use Rattle.shape_parts.specs.declared.shape.Painted.{Painted}
use Rattle.rs274_sim.specs.Runs.{RunsTo}
use Rattle.mill_program.specs.Conditions.{IsProgram}
use Rattle.mill_program.specs.Lines.{lines_of}
use Rattle.mill_program.specs.Strokes.{CutsExactly}
use Rattle.tiling.specs.Copies.{Tile, shift_in, tiled_in}
use Rattle.tiling.specs.Stretches.{InTiles}
use Rattle.job_file.specs.declared.job.Job.{Job}
use Rattle.mill_plan.specs.declared.isolation.Isolation.{Isolation}
use Rattle.mill_plan.specs.Job.{IsSideJob}
use Rattle.mill_plan.specs.Cutting.{side_cutting}
use Rattle.mill_plan.specs.Cuts.{all_of}
use Rattle.mill_plan.specs.Isolated.{PartsOthers, IsIsolationOf}
use Rattle.mill_plan.specs.Mills.{Mills}
use Rattle.side_runs.specs.SideStrokes.{wanted_walk}

-- the moves mill the board along these walks, and part its islands but for those in one group
pub record MillsBoard (job : Job) (painted : List Painted) (number : Cell → ℕ) (groups : List (List ℕ)) (walks : List (List Cell)) (moves : List Move) : Type 0 where
  pub mills : Mills job painted moves
  pub parts : PartsOthers (side_cutting job) job.zwork number groups moves
  pub strokes : CutsExactly job.zsafe (map (wanted_walk job) walks) moves

-- the run of a side's program in tiles is a stretch for each tile, which does that when it is moved back to the first tile
abbrev pub TileStretchesLaw : Type 0
TileStretchesLaw =
    (job : Job) (painted : List Painted) (plan : Isolation) (tiles : List Tile) → IsSideJob job → (isolation : IsIsolationOf job painted plan) → 0 < length tiles → IsProgram (tiled_in job.pitch tiles plan.program)
    → RunsTo (lines_of (tiled_in job.pitch tiles plan.program))
    (InTiles (map (shift_in job.pitch) tiles) (MillsBoard job painted isolation.number plan.groups.items (all_of isolation.traced.passes ++ isolation.traced.runs)))
