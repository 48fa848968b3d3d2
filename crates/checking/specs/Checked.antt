-- What `check` finds, and how it ends.
use Rattle.std.specs.Prelude.{◌≡◌, ℕ, List, [], ◌++◌, flat_map, Result, Ok, Err, codes}
use Rattle.board_base.specs.declared.places.Role.TheVariants as roles
use Rattle.rs274_sim.specs.declared.fault.SimFault.TheVariants as stops
use Rattle.side_check.specs.declared.fault.SideFault.{SideFault}
use Rattle.side_check.specs.declared.fault.SideFault.TheVariants as faults
use Rattle.side_check.specs.Found.{Findings, AreFound}
use Rattle.endings.specs.declared.status.NgcOrSim.TheVariants.{Machine}
use Rattle.endings.specs.declared.status.Status.{Status}
use Rattle.endings.specs.declared.status.Status.TheVariants.{Done, Limit, Ngc, Cell, Memory}
use Rattle.endings.specs.Reads.{Reading}
use Rattle.endings.specs.Steps.{Is, Then}
use Rattle.endings.specs.Ending.{Ending, refusal, with_ok}
use Rattle.mill_outputs.specs.Report.{numbers_text}
use Rattle.checking.specs.Accepted.{Accepts, accepted}

-- ---- what is found

-- what a fault of the check is to the command: answers that are missing are told of line 0
abbrev pub refused_as : SideFault → Status
refused_as (faults.Limit hit) = Limit hit
refused_as (faults.NoProbeAnswer count) = Ngc roles.Ngc (Machine (stops.NoProbeAnswer count)) 0
refused_as (faults.Sim fault line) = Ngc roles.Ngc (Machine fault) line
refused_as (faults.Hit cell line) = Cell cell.i cell.j line
refused_as faults.Memory = Memory

-- what the check finds of what was accepted, or its first refusal
abbrev pub Finds : Accepts → Result Findings SideFault → Type 0
Finds x answer = AreFound x.job x.side x.painted x.lines x.answers answer

-- the same, with the status of a refusal
abbrev pub IsFoundOf : Accepts → Result Findings Status → Type 0
IsFoundOf x (Ok found) = Finds x (Ok found)
IsFoundOf x (Err status) = (fault : SideFault) × (status ≡ refused_as fault) × Finds x (Err fault)

-- what was accepted, and what was found of it
pub record Checked : Type 0 where
  pub accepts : Accepts
  pub found : Findings

-- the steps of `check`, each of which refuses before the next: what is accepted, and what is found of it
abbrev pub Answered : List (List ℕ) → Reading → Result Checked Status → Type 0
Answered words given =
    Then (Is (accepted words given)) (λ x.
    Then (IsFoundOf x) (λ found.
    Is (Ok (record { accepts = x; found = found }))))

-- ---- what is told of it

-- the line of a group of islands that are left joined
unfoldable pub joined_line : List ℕ → List ℕ
joined_line group = codes "joined" ++ numbers_text group ++ codes "\n"

-- a line for each group
unfoldable pub joined_lines : List (List ℕ) → List ℕ
joined_lines groups = flat_map joined_line groups

-- ---- all of it

-- the ending of what the steps answer: nothing is written, and the lines are those of the groups
abbrev pub ending_of : Result Checked Status → Ending
ending_of (Ok c) = record { status = Done; outputs = []; lines = with_ok Done (joined_lines c.found.groups) }
ending_of (Err status) = refusal status

-- how `check` ends with these words and what reads give
unfoldable pub CheckEnds : List (List ℕ) → Reading → Ending → Type 0
CheckEnds words given e = (answer : Result Checked Status) × Answered words given answer × (e ≡ ending_of answer)
