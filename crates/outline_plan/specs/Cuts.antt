-- The program that cuts a board out.
use Rattle.std.specs.Prelude.{ℤ, List, [], ◌∷◌, map, flat_map, None}
use Rattle.board_base.specs.declared.places.Cell.{Cell}
use Rattle.board_base.specs.declared.places.Point.{Point}
use Rattle.mill_program.specs.declared.cuts.Corner.{Corner}
use Rattle.mill_program.specs.declared.cuts.ToolRun.{ToolRun}
use Rattle.mill_program.specs.declared.cuts.Program.{Program}
use Rattle.outline_bridges.specs.declared.steps.Step.{Step}
use Rattle.outline_bridges.specs.Steps.{steps_of}
use Rattle.outline_bridges.specs.Corners.{corners_of}
use Rattle.job_file.specs.declared.job.Job.{Job}
use Rattle.outline_plan.specs.Job.{bridge_width, levels_of}

-- the unit steps of a walk on one level: those near a bridge are as high as bridges are, where the level is lower
abbrev pub steps_at : Job → List Point → List Cell → ℤ → List Step
steps_at job bridges walk level = steps_of (record { level = level; lifted = job.zbridges; d = bridge_width job }) bridges job.pitch walk

-- the cut along them
abbrev pub cut_at : Job → List Point → List Cell → ℤ → List Corner
cut_at job bridges walk level = corners_of (steps_at job bridges walk level)

-- all levels of a walk
abbrev pub walk_cuts : Job → List Point → List Cell → List (List Corner)
walk_cuts job bridges walk = map (cut_at job bridges walk) (levels_of job)

-- all levels of each walk, walk after walk
abbrev pub outline_cuts : Job → List Point → List (List Cell) → List (List Corner)
outline_cuts job bridges walks = flat_map (walk_cuts job bridges) walks

-- tool 1 with these cuts, at the job's speed and feeds
abbrev pub outline_run : Job → List (List Corner) → ToolRun
outline_run job cuts = record { tool = 1; speed = job.cut_speed; feed = job.cut_feed; plunge = job.cut_vertfeed; cuts = cuts }

-- that tool run alone, at the job's heights
abbrev pub outline_program : Job → List (List Corner) → Program
outline_program job cuts = record { safe = job.zsafe; change = job.zchange; runs = outline_run job cuts ∷ []; grid = None }
