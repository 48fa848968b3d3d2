-- What the run of a program must be, over each surface that its probes may find.
use Rattle.std.specs.Prelude.{ℕ, ℤ, List, Option, Some, None}
use Rattle.board_base.specs.declared.places.Move.{Move}
use Rattle.rs274_sim.specs.declared.line.Line.{Line}
use Rattle.rs274_sim.specs.Runs.{EndsWith}
use Rattle.rs274_sim.specs.Text.{StandsFor}
use Rattle.mill_program.specs.declared.probes.ProbeGrid.{ProbeGrid}
use Rattle.mill_program.specs.Probes.{Fit, AreInReach}

-- the probes, if any, are within the machine's reach
abbrev pub InReach : Option ProbeGrid → Type 0
InReach None = Unit {0}
InReach (Some g) = AreInReach g

-- with each list of answers that fits, the run of the lines comes to its end, and its moves have P of these answers
abbrev pub RunsToOver : Option ProbeGrid → List Line → (List ℤ → List Move → Type 0) → Type 0
RunsToOver grid lines P = (answers : List ℤ) → Fit grid answers → EndsWith answers lines (P answers)

-- the bytes stand for lines that do, where the probes are within the machine's reach
unfoldable pub RunsOver : Option ProbeGrid → List ℕ → (List ℤ → List Move → Type 0) → Type 0
RunsOver grid bytes P = (lines : List Line) × StandsFor bytes lines × (InReach grid → RunsToOver grid lines P)
