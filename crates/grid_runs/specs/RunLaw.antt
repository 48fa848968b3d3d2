-- What the run of a program's lines over a grid of probes does.
use Rattle.std.specs.Prelude.{◌≡◌, ℤ, ◌*ℤ◌, ◌<ℤ◌, true, List, Ok, map}
use Rattle.std.specs.List.{Contains, flat_map}
use Rattle.board_base.specs.declared.places.Pos.{Pos}
use Rattle.board_base.specs.declared.places.Move.{Move}
use Rattle.board_base.specs.declared.places.MoveKind.TheVariants.{Feed}
use Rattle.rs274_sim.specs.Cutter.{nanometre}
use Rattle.rs274_sim.specs.Machine.{run_of}
use Rattle.mill_program.specs.declared.cuts.Corner.{Corner}
use Rattle.mill_program.specs.declared.cuts.ToolRun.{ToolRun}
use Rattle.mill_program.specs.declared.cuts.Program.{Program}
use Rattle.mill_program.specs.declared.probes.ProbeGrid.{ProbeGrid}
use Rattle.mill_program.specs.GridLines.{lines_over}
use Rattle.mill_program.specs.Moves.{unnumbered}
use Rattle.mill_program.specs.Probes.{FitGrid, AreInReach}
use Rattle.mill_program.specs.Strokes.{Wanted, CutsExactly}
use Rattle.grid_runs.specs.Conditions.{IsProgramOver, IsRunnableOver}
use Rattle.grid_runs.specs.Moves.{place_on, moves_over}

-- the lines of a program over a grid run to their end with each list of answers that fits, and make its moves over the
-- surface that these answers give
abbrev pub GridRunLaw : Type 0
GridRunLaw =
    (g : ProbeGrid) (answers : List ℤ) (p : Program) → IsProgramOver g p → IsRunnableOver g p → FitGrid g answers → AreInReach g
    → (moves : List Move) × (run_of answers (lines_over p) ≡ Ok moves) × (map unnumbered moves ≡ moves_over g answers p)

-- ---- strokes

-- what a cut of a tool run has to cut over the surface
abbrev pub wanted_on : ProbeGrid → List ℤ → ToolRun → List Corner → Wanted
wanted_on g answers run cut = record { tool = run.tool; places = map (place_on g answers) cut }

-- what tool runs have to cut over the surface
abbrev pub wanted_over : ProbeGrid → List ℤ → List ToolRun → List Wanted
wanted_over g answers runs = flat_map (λ run. map (wanted_on g answers run) run.cuts) runs

-- the run of a program over a grid cuts what its tool runs say, each corner over the surface, in their order, and nothing else
abbrev pub GridStrokeLaw : Type 0
GridStrokeLaw =
    (g : ProbeGrid) (answers : List ℤ) (p : Program) (moves : List Move) → IsProgramOver g p → IsRunnableOver g p → FitGrid g answers
    → map unnumbered moves ≡ moves_over g answers p → CutsExactly p.safe (wanted_over g answers p.runs) moves

-- ---- depths

-- a corner of a program
abbrev pub IsCornerOf : Program → Corner → Type 0
IsCornerOf p c = (run : ToolRun) × (cut : List Corner) × Contains p.runs run × Contains run.cuts cut × Contains cut c

-- the position is that of a corner of the program, at exactly the corner's height above the surface there
abbrev pub StandsAtCorner : ProbeGrid → List ℤ → Program → Pos → Type 0
StandsAtCorner g answers p at = (c : Corner) × IsCornerOf p c × (at ≡ place_on g answers c)

-- the depths of moves over a surface
pub record AreExactDepths (g : ProbeGrid) (answers : List ℤ) (p : Program) (moves : List Move) : Type 0 where
  -- each corner is reached at the feed with the spindle turning, at exactly its height above the surface there
  pub reached : (c : Corner) → IsCornerOf p c → (m : Move) × Contains moves m × (m.kind ≡ Feed) × (m.turning ≡ true) × (m.to ≡ place_on g answers c)
  -- and each end below the safe height of a move with the spindle turning stands at a corner
  pub from : (m : Move) → Contains moves m → m.turning ≡ true → (m.from).z <ℤ (p.safe *ℤ nanometre) → StandsAtCorner g answers p m.from
  pub to : (m : Move) → Contains moves m → m.turning ≡ true → (m.to).z <ℤ (p.safe *ℤ nanometre) → StandsAtCorner g answers p m.to

-- the depths of the run of a program over a grid are exact
abbrev pub ExactDepthLaw : Type 0
ExactDepthLaw =
    (g : ProbeGrid) (answers : List ℤ) (p : Program) (moves : List Move) → IsProgramOver g p → IsRunnableOver g p
    → map unnumbered moves ≡ moves_over g answers p → AreExactDepths g answers p moves
