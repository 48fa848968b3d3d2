-- Which files `mill` writes, and how it ends where nothing fails.
use Rattle.std.specs.Prelude.{◌≡◌, ℕ, List, [], ◌∷◌, ◌++◌, Option, Some, None, Result, Ok, Err, codes}
use Rattle.board_base.specs.declared.places.Role.{Role}
use Rattle.board_base.specs.declared.places.Role.TheVariants as roles
use Rattle.mill_program.specs.declared.cuts.Program.{Program}
use Rattle.mill_program.specs.GridLines.{lines_over}
use Rattle.grid_writer.specs.Spelling.{text_over}
use Rattle.job_file.specs.declared.job.Job.{Job}
use Rattle.endings.specs.declared.status.Status.{Status}
use Rattle.endings.specs.declared.status.Status.TheVariants.{Done}
use Rattle.endings.specs.Lines.{line_of}
use Rattle.endings.specs.Outputs.{Output}
use Rattle.endings.specs.Reads.{Reading}
use Rattle.endings.specs.Steps.{Is, Then}
use Rattle.endings.specs.Ending.{Ending, refusal}
use Rattle.mill_inputs.specs.Accepted.{Accepts, accepted}
use Rattle.mill_outputs.specs.declared.plans.Plans.{Plans}
use Rattle.mill_outputs.specs.Report.{report_text}
use Rattle.mill_outputs.specs.Planned.{ArePlanned}
use Rattle.mill_outputs.specs.Written.{Made, AreMade}

-- the name of a file: behind the job's base name and an underscore, where there is one
abbrev pub named : Option (List ℕ) → List ℕ → List ℕ
named None name = name
named (Some base) name = base ++ codes "_" ++ name

-- a file of what was planned, where that is there
abbrev pub file_if : {A : Type 0} → Role → List ℕ → (A → List ℕ) → Option A → List Output
file_if role name bytes None = []
file_if role name bytes (Some plan) = record { role = role; name = name; bytes = bytes plan } ∷ []

-- the text of a program, over its grid of probes, if any
abbrev pub program_text : Program → List ℕ
program_text program = text_over (lines_over program)

-- the file of a program
abbrev pub program_file : Option (List ℕ) → Role → List ℕ → Option Program → List Output
program_file base role name program = file_if role (named base name) program_text program

-- the report
abbrev pub report_file : Option (List ℕ) → Plans → Output
report_file base plans = record { role = roles.Report; name = named base (codes "report.txt"); bytes = report_text plans }

-- the program of each side, the front's before the back's, those of the holes and of the outline, and then the report
unfoldable pub files_of : Job → Made → List Output
files_of job made =
    program_file job.basename roles.Front (codes "front.ngc") (made.programs).front
    ++ program_file job.basename roles.Back (codes "back.ngc") (made.programs).back
    ++ program_file job.basename roles.Drill (codes "drill.ngc") (made.programs).drill
    ++ program_file job.basename roles.Outline (codes "outline.ngc") (made.programs).outline
    ++ report_file job.basename made.plans ∷ []

-- what was accepted, and what was planned for it
pub record Planning : Type 0 where
  pub accepts : Accepts
  pub plans : Plans

-- what is accepted, and what is planned for it; each step refuses before the next
abbrev pub AsPlanned : List (List ℕ) → Reading → Result Planning Status → Type 0
AsPlanned words given =
    Then (Is (accepted words given)) (λ x.
    Then (ArePlanned x) (λ plans.
    Is (Ok (record { accepts = x; plans = plans }))))

-- what was accepted, and what was made of it
pub record Milled : Type 0 where
  pub accepts : Accepts
  pub made : Made

-- the steps of `mill`, each of which refuses before the next: what is accepted, and what is made of it
abbrev pub Answered : List (List ℕ) → Reading → Result Milled Status → Type 0
Answered words given =
    Then (Is (accepted words given)) (λ x.
    Then (AreMade x) (λ made.
    Is (Ok (record { accepts = x; made = made }))))

-- the ending of what the steps answer
abbrev pub ending_of : Result Milled Status → Ending
ending_of (Ok m) = record { status = Done; outputs = files_of m.accepts.job m.made; lines = line_of Done }
ending_of (Err status) = refusal status

-- how `mill` ends with these words and what reads give
unfoldable pub Ends : List (List ℕ) → Reading → Ending → Type 0
Ends words given e = (answer : Result Milled Status) × Answered words given answer × (e ≡ ending_of answer)

-- the files of what is made of what was accepted
unfoldable pub AreFilesOf : Accepts → List Output → Type 0
AreFilesOf x outputs = (made : Made) × AreMade x (Ok made) × (outputs ≡ files_of x.job made)
