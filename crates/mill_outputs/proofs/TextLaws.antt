-- From the lines of a program to their text.
use Rattle.std.proofs.Common.{◌≡◌, ℤ, List, Option, Some, None, sym, subst}
use Rattle.board_base.specs.declared.places.Move.{Move}
use Rattle.rs274_sim.specs.declared.line.Line.{Line}
use Rattle.rs274_sim.specs.Runs.{Runs, RunsTo}
use Rattle.mill_program.specs.declared.cuts.Program.{Program}
use Rattle.mill_program.specs.declared.probes.ProbeGrid.{ProbeGrid}
use Rattle.mill_program.specs.Conditions.{IsProgram}
use Rattle.mill_program.specs.GridLines.{lines_over}
use Rattle.mill_program.specs.Lines.{lines_of}
use Rattle.mill_program.proofs.GridLineLaws.{grid_line_law}
use Rattle.grid_runs.specs.Conditions.{IsProgramOver}
use Rattle.grid_writer.specs.Conditions.{IsPlaced, IsOver, IsWritable}
use Rattle.grid_writer.specs.Laws.{SpellingOverLaw}
use Rattle.side_surfaces.specs.Runs.{InReach, RunsToOver, RunsOver}
use Rattle.mill_outputs.specs.Mill.{program_text}

-- ---- programs that can be written

pub plain_written : (p : Program) → IsProgram p → IsWritable p
plain_written p program = subst (λ (g : Option ProbeGrid). IsOver g p) (sym program.grid) program

pub levelled_written : (g : ProbeGrid) (p : Program) → IsProgramOver g p → IsPlaced g → IsWritable p
levelled_written g p program placed = subst (λ (o : Option ProbeGrid). IsOver o p) (sym program.grid) (program, placed)

-- ---- runs

-- what the run of a program's lines does, the run of their text does
pub text_runs : SpellingOverLaw → (p : Program) (P : List Move → Type 0) → IsProgram p → RunsTo (lines_of p) P → Runs (program_text p) P
unfolding Runs
text_runs spelled p P program runs =
    (lines_over p, spelled p (plain_written p program), subst (λ (lines : List Line). RunsTo lines P) (sym (grid_line_law p program.grid)) runs)

-- so it is over a grid
pub text_runs_over : SpellingOverLaw → (g : ProbeGrid) (p : Program) (P : List ℤ → List Move → Type 0) → IsProgramOver g p → IsPlaced g → (InReach (Some g) → RunsToOver (Some g) (lines_over p) P) → RunsOver (Some g) (program_text p) P
unfolding RunsOver
text_runs_over spelled g p P program placed runs = (lines_over p, spelled p (levelled_written g p program placed), runs)

-- what runs whatever the probe answers runs without a grid
pub flat_runs : (p : Program) (P : List ℤ → List Move → Type 0) (Q : List Move → Type 0) → ((answers : List ℤ) (moves : List Move) → Q moves → P answers moves) → Runs (program_text p) Q → RunsOver None (program_text p) P
unfolding Runs RunsTo RunsOver
flat_runs p P Q more (lines, stands, runs) = (lines, stands, λ reach answers fit. let found = runs answers in (found.0, found.1, more answers found.0 found.2))

pub runs_weaker : (p : Program) (P Q : List Move → Type 0) → ((moves : List Move) → P moves → Q moves) → RunsTo (lines_of p) P → RunsTo (lines_of p) Q
unfolding RunsTo
runs_weaker p P Q weaker runs answers =
    let found = runs answers in
    (found.0, found.1, weaker found.0 found.2)
