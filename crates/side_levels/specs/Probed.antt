-- The grid of probes over the frame of a side, and the levelled program over it.
use Rattle.std.specs.Prelude.{◌≡◌, pos, ◌≤ℤ◌, true, List, Ok}
use Rattle.cell_grid.specs.declared.frames.Frame.{Frame}
use Rattle.shape_parts.specs.declared.shape.Painted.{Painted}
use Rattle.mill_program.specs.declared.probes.ProbeGrid.{ProbeGrid}
use Rattle.mill_program.specs.Probes.{IsGrid}
use Rattle.levelling.specs.Grids.{IsInReach, grid_of}
use Rattle.levelling.specs.Pieces.{levelled}
use Rattle.grid_runs.specs.Conditions.{IsProgramOver, IsRunnableOver}
use Rattle.job_file.specs.declared.job.Job.{Job}
use Rattle.mill_plan.specs.declared.isolation.Isolation.{Isolation}
use Rattle.mill_plan.specs.Job.{IsSideJob}
use Rattle.mill_plan.specs.Isolated.{IsIsolationOf}

-- the frame may be probed as the job says
pub record MayBeProbed (job : Job) (f : Frame) : Type 0 where
  pub reach : IsInReach f
  pub across : pos 1000000 ≤ℤ job.al_x
  pub up : pos 1000000 ≤ℤ job.al_y
  pub range : (pos 0 ≤ℤ job.al_range) × (job.al_range ≤ℤ pos 10000000)
  pub feed : (pos 1 ≤ℤ job.al_probefeed) × (job.al_probefeed ≤ℤ pos 100000000)

-- the grid is that of the job over the frame
abbrev pub IsGridOver : Job → Frame → ProbeGrid → Type 0
IsGridOver job f g = grid_of f job.al_x job.al_y job.al_range job.al_probefeed ≡ Ok g

-- it is a grid that a program may have, and the levelled program can be run over it
pub record IsLevelledOver (job : Job) (plan : Isolation) (g : ProbeGrid) : Type 0 where
  pub grid : IsGrid g
  pub program : IsProgramOver g (levelled g job.pitch plan.program)
  pub runnable : IsRunnableOver g (levelled g job.pitch plan.program)

pub record ProbedLaw : Type 0 where
  -- the frame of a side may be probed
  pub frame : (job : Job) (painted : List Painted) (plan : Isolation) → IsSideJob job → IsIsolationOf job painted plan → MayBeProbed job plan.frame
  -- and where the job asks for it, the side's program can be run over the grid of probes
  pub levelled_is : (job : Job) (painted : List Painted) (plan : Isolation) (g : ProbeGrid) → IsSideJob job → IsIsolationOf job painted plan → job.al_front ≡ true → IsGridOver job plan.frame g → IsLevelledOver job plan g
