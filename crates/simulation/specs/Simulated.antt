-- What `simulate` reads and runs, in which order its steps refuse, and how it ends.
use Rattle.std.specs.Prelude.{◌≡◌, ℕ, List, [], ◌∷◌, ◌++◌, length, map, Option, Some, None, Result, Ok, Err, codes, decimal, string_bytes, Vec}
use Rattle.std.specs.declared.alloc.Global.{Global}
use Rattle.std.specs.List.{flat_map}
use Rattle.board_base.specs.declared.places.Role.{Role}
use Rattle.board_base.specs.declared.places.Role.TheVariants as roles
use Rattle.board_base.specs.declared.places.Move.{Move}
use Rattle.board_base.specs.Shelf.{ShelfState}
use Rattle.board_base.specs.Binds.{◌>>=◌}
use Rattle.move_watch.specs.declared.bounds.Limits.{Limits}
use Rattle.move_watch.specs.declared.finding.Finding.{Finding}
use Rattle.move_watch.specs.Watched.{findings_from, found}
use Rattle.rs274_sim.specs.declared.fault.SimFault.{SimFault}
use Rattle.rs274_sim.specs.declared.runs.RunFault.{RunFault}
use Rattle.rs274_sim.specs.declared.runs.RunFault.TheVariants.{Sim}
use Rattle.rs274_sim.specs.declared.runs.RunFault.TheVariants as stops
use Rattle.rs274_sim.specs.Machine.{run_of}
use Rattle.rs274_sim.specs.Reading.{program_of, LineFault, LongLine, BadNumber, BadExpression, TooDeep, OpenComment, BadParameter, BadByte, TooFine}
use Rattle.ngc_reader.specs.declared.error.NgcKind.{NgcKind}
use Rattle.ngc_reader.specs.declared.error.NgcKind.TheVariants as kinds
use Rattle.endings.specs.declared.status.NgcOrSim.TheVariants.{Reader, Machine}
use Rattle.endings.specs.declared.status.Status.{Status}
use Rattle.endings.specs.declared.status.Status.TheVariants.{Done, Ngc, Watch, Memory}
use Rattle.endings.specs.Reads.{Reading, input}
use Rattle.endings.specs.Answers.{usage, IsInput}
use Rattle.endings.specs.Ending.{Ending, refusal, with_ok}
use Rattle.simulation.specs.declared.sources.Sources.{Sources as SourcesStruct}
use Rattle.simulation.specs.declared.patrolled.Patrolled.{Patrolled}
use Rattle.simulation.specs.declared.report.Simulation.{Simulation}
use Rattle.simulation.specs.Words.{Named, words_of}
use Rattle.simulation.specs.Answers.{answers_of}

-- ---- what is read

-- the bytes of the program and those of the probe's answers
pub record Sources : Type 0 where
  pub program : List ℕ
  pub probes : List ℕ

-- what the code holds of them
abbrev pub sources_of : SourcesStruct → Sources
sources_of s = record { program = s.program.items; probes = s.probes.items }

-- the bytes of the file with the probe's answers, or none where there is no file
abbrev pub probe_bytes : Option (List ℕ) → Reading → Result (List ℕ) Status
probe_bytes None given = Ok []
probe_bytes (Some name) given = input roles.Probes name given

-- the code has them, or a refusal of their input
abbrev pub IsProbeBytes : Option (List ℕ) → ShelfState → ShelfState → Result (Vec ℕ Global) Status → Type 0
IsProbeBytes None before now (Ok bytes) = bytes.items ≡ []
IsProbeBytes None before now (Err status) = ⊥
IsProbeBytes (Some name) before now answer = IsInput roles.Probes name before now answer

-- both files, the program's first
unfoldable pub sources_in : Named → Reading → Result Sources Status
sources_in names given = do
  program ← input roles.Ngc names.program given
  probes ← probe_bytes names.probes given
  Ok (record { program = program; probes = probes })

-- ---- what it stands for

-- the reader's word for a fault
abbrev pub kind_of : LineFault → NgcKind
kind_of LongLine = kinds.LongLine
kind_of BadNumber = kinds.BadNumber
kind_of BadExpression = kinds.BadExpression
kind_of TooDeep = kinds.TooDeep
kind_of OpenComment = kinds.OpenComment
kind_of BadParameter = kinds.BadParameter
kind_of BadByte = kinds.BadByte
kind_of TooFine = kinds.TooFine

-- what a file of this role stands for, or the refusal of its first line outside the grammar
abbrev pub read_as : {A : Type 0} → Role → Result A (LineFault × ℕ) → Result A Status
read_as role (Ok x) = Ok x
read_as role (Err fault) = Err (Ngc role (Reader (kind_of fault.0)) fault.1)

-- what the reader's refusal is to the command
abbrev pub refused_as : Role → NgcKind → ℕ → Status
refused_as role kinds.Memory line = Memory
refused_as role kind line = Ngc role (Reader kind) line

-- the moves of a run, or the refusal of the line that the machine has no step for
abbrev pub run_to : Result (List Move) (SimFault × ℕ) → Result (List Move) Status
run_to (Ok moves) = Ok moves
run_to (Err stop) = Err (Ngc roles.Ngc (Machine stop.0) stop.1)

-- what the machine's stop is to the command
abbrev pub stopped_as : RunFault → Status
stopped_as (Sim fault line) = Ngc roles.Ngc (Machine fault) line
stopped_as stops.Memory = Memory

-- the moves of the program with these answers: the program's grammar, that of the answers, the machine
unfoldable pub moves_in : Sources → Result (List Move) Status
moves_in sources = do
  lines ← read_as roles.Ngc (program_of sources.program)
  answers ← read_as roles.Probes (answers_of sources.probes)
  run_to (run_of answers lines)

-- ---- what is told of it

-- the number of the first move that broke the bounds, if there is one
abbrev pub first_text : Option ℕ → List ℕ
first_text None = codes "none"
first_text (Some first) = decimal first

-- what a watcher found
abbrev pub finding_line : Finding → List ℕ
finding_line f = codes "watcher " ++ decimal f.watcher ++ codes " seen " ++ decimal f.seen ++ codes " first " ++ first_text f.first ++ codes "\n"

-- how many moves there were, and a line for each watcher
abbrev pub run_lines : ℕ → List Finding → List ℕ
run_lines moves findings = codes "moves " ++ decimal moves ++ codes "\n" ++ flat_map finding_line findings

-- an objection, if there is one, or what else there is
abbrev pub objects_or : ℕ → Option ℕ → Status → Status
objects_or watcher None other = other
objects_or watcher (Some at) other = Watch watcher at

-- Watch with the first watcher that has a first move that broke its bounds, or Done
abbrev pub verdict_of : List Finding → Status
verdict_of [] = Done
verdict_of (f ∷ findings) = objects_or f.watcher f.first (verdict_of findings)

-- the ending with such lines and such a status, and no file
abbrev pub told_as : List ℕ → Status → Ending
told_as lines status = record { status = status; outputs = []; lines = with_ok status lines }

-- what the code holds of an ending
abbrev pub told_of : Simulation → Ending
told_of s = told_as (string_bytes s.lines) s.status

-- what watchers with these bounds find in these moves
abbrev pub findings_in : List Limits → List Move → List Finding
findings_in limits moves = findings_from 0 (map (found moves) limits)

-- the ending of a run that comes to its end
abbrev pub ending_of : List Limits → List Move → Ending
ending_of limits moves = told_as (run_lines (length moves) (findings_in limits moves)) (verdict_of (findings_in limits moves))

-- the run has these moves and these findings
pub record IsPatrolled (limits : List Limits) (run : Result (List Move) (SimFault × ℕ)) (p : Patrolled) : Type 0 where
  pub moves : List Move
  pub runs : run ≡ Ok moves
  pub count : p.moves ≡ length moves
  pub findings : p.findings ≡ findings_in limits moves

-- ---- all of it

-- the ending of a run of these bytes, or the first refusal
abbrev pub outcome_of : List Limits → Sources → Result Ending Status
outcome_of limits sources = moves_in sources >>= (λ moves. Ok (ending_of limits moves))

-- the same of what the words name: words, both files, their grammars, the machine
unfoldable pub simulated : List Limits → List (List ℕ) → Reading → Result Ending Status
simulated limits words given = do
  names ← usage (words_of words)
  sources ← sources_in names given
  outcome_of limits sources

-- an ending, or that of a refusal
abbrev pub ended : Result Ending Status → Ending
ended (Ok e) = e
ended (Err status) = refusal status

-- how `simulate` ends with these words and what reads give, where the watchers have these bounds
abbrev pub SimulationEnds : List Limits → List (List ℕ) → Reading → Ending → Type 0
SimulationEnds limits words given e = e ≡ ended (simulated limits words given)
