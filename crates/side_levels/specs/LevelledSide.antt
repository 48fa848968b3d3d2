-- What the run of a side's levelled program does.
use Rattle.std.specs.Prelude.{◌≡◌, ◌↔◌, ℕ, ℤ, pos, ◌*ℤ◌, Bool, true, List, map, Some, Ok}
use Rattle.std.specs.List.{Contains}
use Rattle.board_base.specs.declared.places.Cell.{Cell}
use Rattle.board_base.specs.declared.places.Move.{Move}
use Rattle.board_base.specs.Lattice.{centre_of}
use Rattle.cell_sets.specs.Islands.{AreIslands}
use Rattle.cell_sets.specs.Sweep.{IsSwept}
use Rattle.shape_parts.specs.declared.shape.Painted.{Painted}
use Rattle.shape_parts.specs.Cover.{is_dark}
use Rattle.rs274_sim.specs.Cutter.{nanometre, IsLow, NoBite}
use Rattle.rs274_sim.specs.Machine.{run_of}
use Rattle.mill_program.specs.declared.probes.ProbeGrid.{ProbeGrid}
use Rattle.mill_program.specs.GridLines.{lines_over}
use Rattle.mill_program.specs.Moves.{unnumbered}
use Rattle.mill_program.specs.Probes.{FitGrid, AreInReach, surface}
use Rattle.levelling.specs.Pieces.{levelled}
use Rattle.grid_runs.specs.Moves.{moves_over}
use Rattle.job_file.specs.declared.job.Job.{Job}
use Rattle.mill_plan.specs.declared.isolation.Isolation.{Isolation}
use Rattle.mill_plan.specs.Job.{IsSideJob}
use Rattle.mill_plan.specs.Cutting.{bite_of, kept_by, sweep_of, side_cutting, IsVisited}
use Rattle.mill_plan.specs.Isolated.{IsIsolationOf}
use Rattle.program_check.specs.Deep.{IsDeepOver}
use Rattle.program_check.specs.Hits.{IsClear}
use Rattle.program_check.specs.Marks.{IsPassedBy, IsWhollySweptBy, PartsOthersBy}
use Rattle.program_check.specs.Own.{Follows, IsOwn}
use Rattle.side_runs.specs.OwnSide.{AreSideTests}
use Rattle.side_levels.specs.Probed.{IsGridOver}

-- at the depth of the job, over the surface that the answers of the probes give
abbrev pub IsDeepOn : Job → ProbeGrid → List ℤ → Move → Type 0
IsDeepOn job g answers = IsDeepOver (surface (Some g) answers) job.zwork

-- the moves are a side's own over its frame, by tests of the cells that it may visit and of those that it visits, and low moves
-- follow visited cells
pub record IsOwnOver (job : Job) (painted : List Painted) (plan : Isolation) (g : ProbeGrid) (answers : List ℤ) (moves : List Move) : Type 0 where
  pub allowed : Cell → Bool
  pub visited : Cell → Bool
  pub tests : AreSideTests (side_cutting job) painted plan.frame allowed visited
  pub own : IsOwn (side_cutting job) painted plan.frame job.zsafe (IsDeepOn job g answers) moves allowed visited
  pub along : (move : Move) → Contains moves move → IsLow (job.zsafe *ℤ nanometre) move → Follows (side_cutting job) (λ c. visited c ≡ true) move

-- the centres of the visited cells are passed, and of no others
abbrev pub PassesOver : Job → List Painted → ProbeGrid → List ℤ → List Move → Type 0
PassesOver job painted g answers moves = (c : Cell) → IsPassedBy (IsDeepOn job g answers) moves (centre_of job.pitch c) (pos 0) ↔ IsVisited (side_cutting job) painted c

-- The moves are a side's own: they hit no kept cell and bite no dark point, they pass the visited cells and no others at the
-- depth over the surface, they sweep wholly each cell that these sweep, and two islands that cells not wholly swept join
-- stand in one group of the plan.
pub record MillsOver (job : Job) (painted : List Painted) (plan : Isolation) (g : ProbeGrid) (answers : List ℤ) (moves : List Move) : Type 0 where
  pub own : IsOwnOver job painted plan g answers moves
  pub clear : IsClear (side_cutting job) painted job.zsafe moves
  pub no_bite : NoBite (job.zsafe *ℤ nanometre) (λ q. is_dark q painted ≡ true) (bite_of (side_cutting job)) moves
  pub passes : PassesOver job painted g answers moves
  pub swept : (c : Cell) → IsSwept (sweep_of (side_cutting job)) (IsVisited (side_cutting job) painted) c → IsWhollySweptBy (side_cutting job) (IsDeepOn job g answers) moves c
  pub parts : (number : Cell → ℕ) (count : ℕ) → AreIslands (kept_by (side_cutting job) painted) number count → PartsOthersBy (side_cutting job) (IsDeepOn job g answers) number plan.groups.items moves

-- the moves of a side's levelled program do that, over each surface that answers within the range give
abbrev pub LevelledSideLaw : Type 0
LevelledSideLaw =
    (job : Job) (painted : List Painted) (plan : Isolation) (g : ProbeGrid) (answers : List ℤ) (moves : List Move) → IsSideJob job → IsIsolationOf job painted plan → job.al_front ≡ true
    → IsGridOver job plan.frame g → FitGrid g answers → map unnumbered moves ≡ moves_over g answers (levelled g job.pitch plan.program) → MillsOver job painted plan g answers moves

-- and its lines run to their end, and make such moves, where the probes are within the machine's reach
abbrev pub LevelledRunLaw : Type 0
LevelledRunLaw =
    (job : Job) (painted : List Painted) (plan : Isolation) (g : ProbeGrid) (answers : List ℤ) → IsSideJob job → IsIsolationOf job painted plan → job.al_front ≡ true → IsGridOver job plan.frame g
    → FitGrid g answers → AreInReach g
    → (moves : List Move) × (run_of answers (lines_over (levelled g job.pitch plan.program)) ≡ Ok moves) × (map unnumbered moves ≡ moves_over g answers (levelled g job.pitch plan.program))
    × MillsOver job painted plan g answers moves
