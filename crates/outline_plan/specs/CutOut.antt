-- What cuts a board out.
use Rattle.std.specs.Prelude.{◌≡◌, ℕ, ◌<◌, pos, ◌*ℤ◌, true, List, [], ◌∷◌, length, Ok}
use Rattle.std.specs.List.{Contains}
use Rattle.board_base.specs.declared.places.Cell.{Cell}
use Rattle.board_base.specs.declared.places.Point.{Point}
use Rattle.board_base.specs.declared.places.Move.{Move}
use Rattle.poly_area.specs.Area.{area_holds}
use Rattle.shape_parts.specs.declared.shape.Part.TheVariants.{Area}
use Rattle.shape_parts.specs.declared.shape.Painted.{Painted}
use Rattle.rs274_sim.specs.Cutter.{NoBite, Sweeps, nanometre}
use Rattle.rs274_sim.specs.Runs.{RunsTo}
use Rattle.mill_program.specs.declared.cuts.Program.{Program}
use Rattle.mill_program.specs.Conditions.{IsProgram, IsRunnable}
use Rattle.mill_program.specs.Lines.{lines_of}
use Rattle.mill_program.specs.Strokes.{CutsExactly, wanted}
use Rattle.outline_loops.specs.Answers.{IsClosedBoard}
use Rattle.outline_bridges.specs.declared.steps.Step.{Step}
use Rattle.job_file.specs.declared.job.Job.{Job}
use Rattle.job_file.specs.Checks.{radius_of}
use Rattle.mill_plan.specs.Frame.{IsFrameOf}
use Rattle.mill_plan.specs.Cuts.{ArePassWalks}
use Rattle.outline_plan.specs.declared.plan.OutlineCut.{OutlineCut}
use Rattle.outline_plan.specs.Job.{outline_cutting, levels_count, level_at, bridge_width, listed_bridges}
use Rattle.outline_plan.specs.Cuts.{steps_at, outline_cuts, outline_program}

-- the board as one dark object
abbrev pub board_of : List (List Point) → List Painted
board_of loops = record { shape = record { part = Area loops; on = true } ∷ []; dark = true } ∷ []

-- one of the moves goes over the step, at the step's height
pub record IsCutStep (moves : List Move) (s : Step) : Type 0 where
  pub move : Move
  pub there : Contains moves move
  pub turning : move.turning ≡ true
  pub from_height : (move.from).z ≡ s.z *ℤ nanometre
  pub to_height : (move.to).z ≡ s.z *ℤ nanometre
  pub from_on : Sweeps move s.from (pos 0)
  pub to_on : Sweeps move s.to (pos 0)

-- The run of the program doesn't reach into the board, leaves the bridges, goes over each step of each level of each walk
-- at its height, and cuts what the program says and nothing else.
pub record Outlines (job : Job) (loops : List (List Point)) (bridges : List Point) (walks : List (List Cell)) (program : Program) (moves : List Move) : Type 0 where
  pub no_bite : NoBite (job.zsafe *ℤ nanometre) (λ q. area_holds q loops ≡ true) (radius_of job.cutter_diameter) moves
  pub stands : NoBite (job.zbridges *ℤ nanometre) (Contains bridges) (radius_of (bridge_width job)) moves
  pub steps : (w : List Cell) (k : ℕ) (s : Step) → Contains walks w → k < levels_count job → Contains (steps_at job bridges w (level_at job k)) s → IsCutStep moves s
  pub cuts : CutsExactly job.zsafe (wanted program.runs) moves

-- The board of the outline and its frame; the walks round the board and their count, the count of levels, and the bridges
-- on the walks; and the program, which goes along each level of each walk, lifted over the bridges, and cuts the board out.
pub record CutsOut (job : Job) (painted : List Painted) (plan : OutlineCut) : Type 0 where
  pub loops : List (List Point)
  pub board : IsClosedBoard painted loops
  pub framed : IsFrameOf (outline_cutting job) (board_of loops) (Ok plan.frame)
  pub walks : List (List Cell)
  pub are : ArePassWalks (outline_cutting job) (board_of loops) 0 walks
  pub count : plan.chains ≡ length walks
  pub levels : plan.passes ≡ levels_count job
  pub listed : (plan.bridges).items ≡ listed_bridges job walks
  pub words : plan.program ≡ outline_program job (outline_cuts job (plan.bridges).items walks)
  pub valid : IsProgram plan.program
  pub runnable : IsRunnable plan.program
  pub outlines : RunsTo (lines_of plan.program) (Outlines job loops (plan.bridges).items walks plan.program)
