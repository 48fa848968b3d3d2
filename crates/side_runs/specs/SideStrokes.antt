-- What the run of a side's program in tiles cuts.
use Rattle.std.specs.Prelude.{List, ◌++◌, map}
use Rattle.std.specs.List.{flat_map}
use Rattle.board_base.specs.declared.places.Cell.{Cell}
use Rattle.shape_parts.specs.declared.shape.Painted.{Painted}
use Rattle.rs274_sim.specs.Runs.{RunsTo}
use Rattle.mill_program.specs.Conditions.{IsProgram, IsRunnable}
use Rattle.mill_program.specs.Lines.{lines_of}
use Rattle.mill_program.specs.Moves.{place_of}
use Rattle.mill_program.specs.Strokes.{Wanted, CutsExactly}
use Rattle.tiling.specs.Copies.{Tile, shift_in, tiled_in}
use Rattle.tiling.specs.Laws.{wanted_in}
use Rattle.job_file.specs.declared.job.Job.{Job}
use Rattle.mill_plan.specs.declared.isolation.Isolation.{Isolation}
use Rattle.mill_plan.specs.Cuts.{all_of, trace_of}
use Rattle.mill_plan.specs.Isolated.{IsIsolationOf}

-- a walk, with tool 1, at the job's depth
abbrev pub wanted_walk : Job → List Cell → Wanted
wanted_walk job walk = record { tool = 1; places = map place_of (trace_of job walk) }

-- these walks in each tile, tile after tile
abbrev pub wants_along : Job → List Tile → List (List Cell) → List Wanted
wants_along job tiles walks = flat_map (λ tile. map (wanted_in (shift_in job.pitch tile)) (map (wanted_walk job) walks)) tiles

-- the strokes of the run of a side's program in tiles are the walks of each pass and then the clearing runs, in their order, in
-- each tile, and nothing else is low
abbrev pub TiledStrokesLaw : Type 0
TiledStrokesLaw =
    (job : Job) (painted : List Painted) (plan : Isolation) (tiles : List Tile) → (isolation : IsIsolationOf job painted plan)
    → IsProgram (tiled_in job.pitch tiles plan.program) → IsRunnable (tiled_in job.pitch tiles plan.program)
    → RunsTo (lines_of (tiled_in job.pitch tiles plan.program)) (CutsExactly job.zsafe (wants_along job tiles (all_of isolation.traced.passes ++ isolation.traced.runs)))
