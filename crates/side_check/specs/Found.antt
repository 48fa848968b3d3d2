-- What the check of a side finds of a program, or the first refusal: the frame's limits, the islands, the probe count,
-- missing answers, the machine's run, and the cell that is hit.
use Rattle.std.specs.Prelude.{◌≡◌, ◌⊎◌, ℕ, ◌*◌, ◌≤◌, ℤ, Bool, nat_lt, if◌then◌else◌, List, length, Option, Some, None, Result, Ok, Err}
use Rattle.board_base.specs.declared.places.Cell.{Cell}
use Rattle.board_base.specs.declared.places.Move.{Move}
use Rattle.board_base.specs.declared.places.Side.{Side}
use Rattle.board_base.specs.declared.places.Side.TheVariants.{Front, Back}
use Rattle.cell_sets.specs.Islands.{AreIslands, AreMoreIslands}
use Rattle.cell_grid.specs.declared.frames.Frame.{Frame}
use Rattle.cell_grid.specs.declared.frames.GridError.{GridError}
use Rattle.shape_parts.specs.declared.shape.Painted.{Painted}
use Rattle.rs274_sim.specs.declared.fault.SimFault.{SimFault}
use Rattle.rs274_sim.specs.declared.line.Line.{Line}
use Rattle.rs274_sim.specs.declared.runs.RunFault.{RunFault}
use Rattle.rs274_sim.specs.declared.runs.RunFault.TheVariants as runs
use Rattle.rs274_sim.specs.Machine.{run_of}
use Rattle.mill_program.specs.declared.probes.ProbeGrid.{ProbeGrid}
use Rattle.mill_program.specs.Probes.{surface}
use Rattle.levelling.specs.declared.grids.TooManyProbes.{TooManyProbes}
use Rattle.levelling.specs.Grids.{grid_of}
use Rattle.job_file.specs.declared.job.Job.{Job}
use Rattle.mill_plan.specs.declared.cutting.Cutting.{Cutting}
use Rattle.mill_plan.specs.declared.limits.LimitHit.TheVariants.{Islands, Probes}
use Rattle.mill_plan.specs.declared.limits.PlanError.{PlanError}
use Rattle.mill_plan.specs.declared.limits.PlanError.TheVariants as plans
use Rattle.mill_plan.specs.Cutting.{side_cutting, kept_by}
use Rattle.mill_plan.specs.Frame.{IsFrameOf, error_of}
use Rattle.program_check.specs.Deep.{Surface, IsDeepOver}
use Rattle.program_check.specs.Hits.{IsClear, IsFirstHit}
use Rattle.program_check.specs.Marks.{ArePrinted}
use Rattle.side_check.specs.declared.fault.SideFault.{SideFault}
use Rattle.side_check.specs.declared.fault.SideFault.TheVariants.{Limit, NoProbeAnswer, Sim, Hit, Memory}
use Rattle.endings.specs.Steps.{Is, Then}

-- ---- the frame and the islands

-- what a refusal of a plan is to the check
abbrev pub fault_of : PlanError → SideFault
fault_of (plans.Limit hit) = Limit hit
fault_of plans.Memory = Memory

-- the frame of the side's image, or the limit that it passes
abbrev pub IsFrameFound : Cutting → List Painted → Result Frame SideFault → Type 0
IsFrameFound k painted (Ok f) = IsFrameOf k painted (Ok f)
IsFrameFound k painted (Err fault) = (error : GridError) × (IsFrameOf k painted (Err error) × (fault ≡ fault_of (error_of error)))

-- the numbers of the islands, at most 65,535
abbrev pub AreNumbered : (Cell → Bool) → Result (Cell → ℕ) SideFault → Type 0
AreNumbered kept (Ok number) = (count : ℕ) × (AreIslands kept number count × (count ≤ 65535))
AreNumbered kept (Err fault) = (fault ≡ Limit Islands) × AreMoreIslands 65535 kept

-- the side has no frame, or too many islands
abbrev pub IsSideRefused : Cutting → List Painted → SideFault → Type 0
IsSideRefused k painted fault = IsFrameFound k painted (Err fault) ⊎ ((f : Frame) × IsFrameFound k painted (Ok f) × AreNumbered (kept_by k painted) (Err fault))

-- ---- the surface

-- a grid, or the limit that its count of probes passes
abbrev pub grid_or_limit : Result ProbeGrid TooManyProbes → Result (Option ProbeGrid) SideFault
grid_or_limit (Ok g) = Ok (Some g)
grid_or_limit (Err many) = Err (Limit (Probes many.count))

-- the grid over a side's frame: the front's, where the job levels it; the back's surface is flat, whatever the job says
abbrev pub grid_over_side : Side → Job → Frame → Result (Option ProbeGrid) SideFault
grid_over_side Front job f = if job.al_front then grid_or_limit (grid_of f job.al_x job.al_y job.al_range job.al_probefeed) else Ok None
grid_over_side Back job f = Ok None

-- the surface by the answers, of which there is one for each probe, or more
abbrev pub surface_or_missing : Option ProbeGrid → List ℤ → Result Surface SideFault
surface_or_missing None answers = Ok (surface None answers)
surface_or_missing (Some g) answers = if nat_lt (length answers) (g.nx * g.ny) then Err (NoProbeAnswer (length answers)) else Ok (surface (Some g) answers)

-- ---- the run and its hits

-- the moves of a run, or the machine's fault and its line
abbrev pub moves_or_fault : Result (List Move) (SimFault × ℕ) → Result (List Move) SideFault
moves_or_fault (Ok moves) = Ok moves
moves_or_fault (Err stop) = Err (Sim stop.0 stop.1)

-- what a stop of the machine is to the check
abbrev pub stopped_as : RunFault → SideFault
stopped_as (runs.Sim fault line) = Sim fault line
stopped_as runs.Memory = Memory

-- the moves, which are clear of kept cells, or the cell that is named as hit and its line
abbrev pub IsUnhit : Cutting → List Painted → ℤ → List Move → Result (List Move) SideFault → Type 0
IsUnhit k painted safe moves (Ok clear) = (clear ≡ moves) × IsClear k painted safe moves
IsUnhit k painted safe moves (Err fault) = (line : ℕ) × (c : Cell) × ((fault ≡ Hit c line) × IsFirstHit k painted safe moves line c)

-- ---- all of it

-- what is found: the frame, the islands, the surface, the moves of the run, and the groups that are printed
pub record Findings : Type 0 where
  pub frame : Frame
  pub number : Cell → ℕ
  pub surface : Surface
  pub moves : List Move
  pub groups : List (List ℕ)

-- the groups that are printed, and all else that was found
abbrev pub AreFindings : Cutting → Frame → (Cell → ℕ) → Surface → ℤ → List Move → Result Findings SideFault → Type 0
AreFindings k f number over work moves (Ok found) =
    (found ≡ record { frame = f; number = number; surface = over; moves = moves; groups = found.groups })
    × ArePrinted k f (IsDeepOver over work) moves number found.groups
AreFindings k f number over work moves (Err fault) = ⊥

-- what a check finds of the lines of a program on this side of the job, with these answers, or its first refusal
unfoldable pub AreFound : Job → Side → List Painted → List Line → List ℤ → Result Findings SideFault → Type 0
AreFound job side painted lines answers =
    Then (IsFrameFound (side_cutting job) painted) (λ f.
    Then (AreNumbered (kept_by (side_cutting job) painted)) (λ number.
    Then (Is (grid_over_side side job f)) (λ grid.
    Then (Is (surface_or_missing grid answers)) (λ over.
    Then (Is (moves_or_fault (run_of answers lines))) (λ moves.
    Then (IsUnhit (side_cutting job) painted job.zsafe moves) (λ clear.
    AreFindings (side_cutting job) f number over job.zwork clear))))))
