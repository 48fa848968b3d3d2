-- The programs as they are written: the front's over the surface that is probed, and each in the tiles of the job.
use Rattle.std.specs.Prelude.{◌≤◌, ℤ, pos, neg_ℤ, if◌then◌else◌, List, Option, Some, None, Result, Ok, Err, IfSome}
use Rattle.std.specs.Option.{option_map}
use Rattle.board_base.specs.declared.places.Point.{Point}
use Rattle.board_base.specs.Binds.{◌>>=◌}
use Rattle.cell_grid.specs.declared.frames.Frame.{Frame}
use Rattle.drill_plan.specs.Laws.{OnePlan}
use Rattle.drill_program.specs.Program.{program_of}
use Rattle.mill_program.specs.declared.cuts.Program.{Program}
use Rattle.mill_program.specs.declared.probes.ProbeGrid.{ProbeGrid}
use Rattle.mill_program.specs.Conditions.{IsProgram, IsRunnable}
use Rattle.levelling.specs.declared.grids.TooManyProbes.{TooManyProbes}
use Rattle.levelling.specs.Grids.{grid_of}
use Rattle.levelling.specs.Pieces.{levelled}
use Rattle.grid_writer.specs.Conditions.{IsWritable}
use Rattle.tiling.specs.declared.TileError.{TileError}
use Rattle.tiling.specs.declared.TileError.TheVariants as refusals
use Rattle.tiling.specs.Tiles.{tile_of}
use Rattle.tiling.specs.Copies.{Tile, tiles_of, shift_in}
use Rattle.tile_steps.specs.declared.steps.Frames.{Frames}
use Rattle.tile_steps.specs.declared.steps.TileStep.{TileStep}
use Rattle.tile_steps.specs.Steps.{step_of}
use Rattle.job_file.specs.declared.job.Job.{Job}
use Rattle.mill_plan.specs.declared.isolation.Isolation.{Isolation}
use Rattle.mill_plan.specs.declared.limits.LimitHit.TheVariants as hits
use Rattle.outline_plan.specs.declared.plan.OutlineCut.{OutlineCut}
use Rattle.one_programs.specs.Laws.{OneSide, OneOutline}
use Rattle.endings.specs.declared.status.Status.{Status}
use Rattle.endings.specs.declared.status.Status.TheVariants.{Limit, Memory}
use Rattle.endings.specs.Steps.{Is, Then}
use Rattle.mill_inputs.specs.Accepted.{Accepts}
use Rattle.mill_outputs.specs.declared.plans.Plans.{Plans}
use Rattle.mill_outputs.specs.declared.plans.Programs.{Programs}
use Rattle.mill_outputs.specs.Planned.{ArePlanned}

-- ---- tiles

-- the frames of what was planned
abbrev pub frames_of : Plans → Frames
frames_of plans = record {
  front = option_map (λ (p : Isolation). p.frame) plans.front;
  back = option_map (λ (p : Isolation). p.frame) plans.back;
  outline = option_map (λ (p : OutlineCut). p.frame) plans.outline;
}

-- how far the tiles stand apart
abbrev pub step_by : Job → Plans → TileStep
step_by job plans = step_of job.pitch (frames_of plans) plans.drill

-- the step from tile to tile where the board is seen from the front
abbrev pub seen_in_front : TileStep → Tile
seen_in_front step = record { east = pos step.east; north = pos step.north }

-- and where it is seen from the back, as a mirror shows it
abbrev pub seen_behind : TileStep → Tile
seen_behind step = record { east = neg_ℤ (pos step.east); north = pos step.north }

-- the tiles of a job with this step
abbrev pub tiles_by : Job → Tile → List Tile
tiles_by job step = tiles_of job.tile_x job.tile_y step

-- 1 to 20 tiles in a row, and rows
pub record HasTiles (job : Job) : Type 0 where
  pub across : (1 ≤ job.tile_x) × (job.tile_x ≤ 20)
  pub up : (1 ≤ job.tile_y) × (job.tile_y ≤ 20)

-- ---- the surface

-- a grid, or the limit that its count of probes passes
abbrev pub grid_or_limit : Result ProbeGrid TooManyProbes → Result (Option ProbeGrid) Status
grid_or_limit (Ok g) = Ok (Some g)
grid_or_limit (Err many) = Err (Limit (hits.Probes many.count))

-- the grid over the frame of the front, where there is a front and the job levels it
unfoldable pub front_grid : Job → Option Frame → Result (Option ProbeGrid) Status
front_grid job None = Ok None
front_grid job (Some f) = if job.al_front then grid_or_limit (grid_of f job.al_x job.al_y job.al_range job.al_probefeed) else Ok None

-- the program over a grid, or as it stands where there is none
abbrev pub levelled_if : Option ProbeGrid → ℤ → Program → Program
levelled_if None pitch p = p
levelled_if (Some g) pitch p = levelled g pitch p

-- ---- programs

-- what a refusal of tiles is to the command
abbrev pub tile_refused : TileError → Status
tile_refused (refusals.OutOfRange x y) = Limit (hits.Tile x y)
tile_refused refusals.Memory = Memory

abbrev pub or_refused : Result Program TileError → Result Program Status
or_refused (Ok p) = Ok p
or_refused (Err error) = Err (tile_refused error)

-- the program in the tiles of the job, so far from one another, or the refusal of its first corner that is past the range
unfoldable pub in_tiles : Job → Point → Program → Result Program Status
in_tiles job by p = or_refused (tile_of job.tile_x job.tile_y by p)

-- the same, where there is one
abbrev pub in_tiles_if : Job → Point → Option Program → Result (Option Program) Status
in_tiles_if job by None = Ok None
in_tiles_if job by (Some p) = in_tiles job by p >>= (λ q. Ok (Some q))

-- how far the tiles of the front, of the holes and of the outline stand apart, in nanometres
abbrev pub front_step : Job → TileStep → Point
front_step job step = shift_in job.pitch (seen_in_front step)

-- and those of the back
abbrev pub back_step : Job → TileStep → Point
back_step job step = shift_in job.pitch (seen_behind step)

-- what is levelled and put into tiles: the step, the frame of the front, and the plain programs, as far as they are there
pub record Plain : Type 0 where
  pub step : TileStep
  pub frame : Option Frame
  pub front : Option Program
  pub back : Option Program
  pub drill : Option Program
  pub outline : Option Program

-- the same of plans
abbrev pub plain_of : Job → Plans → Plain
plain_of job plans = record {
  step = step_by job plans;
  frame = option_map (λ (p : Isolation). p.frame) plans.front;
  front = option_map (λ (p : Isolation). p.program) plans.front;
  back = option_map (λ (p : Isolation). p.program) plans.back;
  drill = option_map (program_of job) plans.drill;
  outline = option_map (λ (p : OutlineCut). p.program) plans.outline;
}

-- all of them in tiles, the front's over its grid, or the first refusal: of the probes, and then of the tiles of the front, of
-- the back, of the holes, of the outline
unfoldable pub all_in_tiles : Job → Plain → Result Programs Status
all_in_tiles job plain = do
  grid ← front_grid job plain.frame
  front ← in_tiles_if job (front_step job plain.step) (option_map (levelled_if grid job.pitch) plain.front)
  back ← in_tiles_if job (back_step job plain.step) plain.back
  drill ← in_tiles_if job (front_step job plain.step) plain.drill
  outline ← in_tiles_if job (front_step job plain.step) plain.outline
  Ok (record { front = front; back = back; drill = drill; outline = outline })

-- each is a program that can be written
pub record AreValid (programs : Programs) : Type 0 where
  pub front : IfSome programs.front IsWritable
  pub back : IfSome programs.back IsWritable
  pub drill : IfSome programs.drill IsWritable
  pub outline : IfSome programs.outline IsWritable

-- the same of one that is put into tiles, which can run besides
abbrev pub IsReady : Program → Type 0
IsReady p = IsProgram p × IsRunnable p

-- ---- what is made

-- one program for each image, and one drill list for each file
pub record OneOfEach : Type 0 where
  pub side : OneSide
  pub drill : OnePlan
  pub outline : OneOutline

-- what was planned, and the programs that are written
pub record Made : Type 0 where
  pub plans : Plans
  pub programs : Programs

-- the plans, and then their programs, levelled and in tiles; each step refuses before the next
abbrev pub AreMade : Accepts → Result Made Status → Type 0
AreMade x =
    Then (ArePlanned x) (λ plans.
    Then (Is (all_in_tiles x.job (plain_of x.job plans))) (λ programs.
    Is (Ok (record { plans = plans; programs = programs }))))
