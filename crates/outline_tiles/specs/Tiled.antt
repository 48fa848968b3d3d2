-- What the run of an outline's program in tiles does.
use Rattle.std.specs.Prelude.{◌<◌, List, length}
use Rattle.board_base.specs.declared.places.Point.{Point}
use Rattle.shape_parts.specs.declared.shape.Painted.{Painted}
use Rattle.rs274_sim.specs.Runs.{RunsTo}
use Rattle.mill_program.specs.Conditions.{IsProgram}
use Rattle.mill_program.specs.Lines.{lines_of}
use Rattle.tiling.specs.Tiles.{tiled}
use Rattle.tiling.specs.Stretches.{InTiles}
use Rattle.job_file.specs.declared.job.Job.{Job}
use Rattle.job_file.specs.Ranges.{IsInRanges}
use Rattle.outline_plan.specs.declared.plan.OutlineCut.{OutlineCut}
use Rattle.outline_plan.specs.CutOut.{Outlines, CutsOut}

-- in each tile the run of the program in tiles cuts the board out as that of the plan does
abbrev pub TiledOutlineLaw : Type 0
TiledOutlineLaw =
    (job : Job) (painted : List Painted) (plan : OutlineCut) (shifts : List Point) → 0 < length shifts → IsInRanges job → (h : CutsOut job painted plan) → IsProgram (tiled shifts plan.program)
    → RunsTo (lines_of (tiled shifts plan.program)) (InTiles shifts (Outlines job h.loops (plan.bridges).items h.walks plan.program))
