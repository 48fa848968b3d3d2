-- What the steps of the command make of it.
use Rattle.std.proofs.Common.{◌≡◌, ℕ, ℤ, List, length, Result, Ok, Err, sym, ap, ◌∙◌, subst}
use Rattle.board_base.specs.declared.places.Role.{Role}
use Rattle.board_base.specs.declared.places.Role.TheVariants as roles
use Rattle.board_base.specs.declared.places.Move.{Move}
use Rattle.board_base.specs.Binds.{◌>>=◌}
use Rattle.board_base.specs.Shelf.{ShelfState}
use Rattle.move_watch.specs.declared.bounds.Limits.{Limits}
use Rattle.rs274_sim.specs.declared.fault.SimFault.{SimFault}
use Rattle.rs274_sim.specs.declared.line.Line.{Line}
use Rattle.rs274_sim.specs.declared.runs.RunFault.{RunFault}
use Rattle.rs274_sim.specs.declared.runs.RunFault.TheVariants.{Sim}
use Rattle.rs274_sim.specs.declared.runs.RunFault.TheVariants as stops
use Rattle.rs274_sim.specs.Machine.{run_of}
use Rattle.rs274_sim.specs.Made.{StopsRun}
use Rattle.rs274_sim.specs.Reading.{LineFault, program_of}
use Rattle.ngc_reader.specs.declared.error.NgcKind.{NgcKind}
use Rattle.ngc_reader.specs.declared.error.NgcKind.TheVariants as kinds
use Rattle.ngc_reader.specs.Gives.{FailsAt}
use Rattle.rs274_sim.proofs.FoundLaws.{not_ok}
use Rattle.endings.specs.declared.status.Status.{Status}
use Rattle.endings.specs.declared.status.Status.TheVariants.{Done, Usage, Job, Gerber, Drill, Outline, TooLong, Limit, ReadFault, WriteFault, Ngc, Watch, Cell, Memory}
use Rattle.endings.specs.Answers.{usage, MakesOf}
use Rattle.endings.specs.Ending.{Ending}
use Rattle.endings.specs.Reads.{Reading, MayRead}
use Rattle.endings.specs.Works.{Gives, status_of}
use Rattle.endings.proofs.RunLaws.{refuses_weaker}
use Rattle.simulation.specs.declared.patrolled.Patrolled.{Patrolled}
use Rattle.simulation.specs.declared.report.Simulation.{Simulation}
use Rattle.simulation.specs.declared.sources.Sources.{Sources as SourcesStruct}
use Rattle.endings.specs.Words.{IsExactUsage}
use Rattle.endings.proofs.UsageLaws.{usage_accepted}
use Rattle.simulation.specs.Words.{Named, words_of}
use Rattle.simulation.specs.Answers.{answers_of}
use Rattle.simulation.specs.Simulated.{Sources, sources_of, sources_in, read_as, refused_as, stopped_as, run_to, moves_in, told_of, told_as, run_lines, verdict_of, IsPatrolled, ending_of, outcome_of, simulated}
use Rattle.endings.proofs.ReadingLaws.{some_reading}
use Rattle.simulation.proofs.SourceLaws.{sources_not_usage}

-- ---- refusals of lines

-- what a reader refuses, the command refuses so
pub refusal_made : {X Y : Type 0} (view : X → Y) (role : Role) (kind : NgcKind) (line : ℕ) (read : Result Y (LineFault × ℕ)) → FailsAt kind line read → MakesOf view (read_as role read) (Err (refused_as role kind line))
refusal_made view role kinds.LongLine line read h = ap (read_as role) h
refusal_made view role kinds.BadNumber line read h = ap (read_as role) h
refusal_made view role kinds.BadExpression line read h = ap (read_as role) h
refusal_made view role kinds.TooDeep line read h = ap (read_as role) h
refusal_made view role kinds.OpenComment line read h = ap (read_as role) h
refusal_made view role kinds.BadParameter line read h = ap (read_as role) h
refusal_made view role kinds.BadByte line read h = ap (read_as role) h
refusal_made view role kinds.TooFine line read h = ap (read_as role) h
refusal_made view role kinds.Memory line read h = tt

-- a refusal of one step is one of all
makes_weaker : {X Y A B : Type 0} (view : X → Y) (all : A → B) (step : Result Y Status) (whole : Result B Status) (status : Status) → (step ≡ Err status → whole ≡ Err status)
    → MakesOf view step (Err status) → MakesOf all whole (Err status)
makes_weaker view all step whole Done weaker h = absurd h
makes_weaker view all step whole (Usage word) weaker h = weaker h
makes_weaker view all step whole (Job error) weaker h = weaker h
makes_weaker view all step whole (Gerber role error) weaker h = weaker h
makes_weaker view all step whole (Drill error) weaker h = weaker h
makes_weaker view all step whole (Outline error) weaker h = weaker h
makes_weaker view all step whole (TooLong role) weaker h = weaker h
makes_weaker view all step whole (Limit hit) weaker h = weaker h
makes_weaker view all step whole (ReadFault role) weaker h = weaker h
makes_weaker view all step whole (WriteFault role) weaker h = absurd h
makes_weaker view all step whole (Ngc role fault line) weaker h = weaker h
makes_weaker view all step whole (Watch watcher at) weaker h = weaker h
makes_weaker view all step whole (Cell i j line) weaker h = weaker h
makes_weaker view all step whole Memory weaker h = tt

-- ---- what is made of both files

lines_stop : (limits : List Limits) (s : Sources) (status : Status) → read_as roles.Ngc (program_of s.program) ≡ Err status → outcome_of limits s ≡ Err status
unfolding moves_in
lines_stop limits s status e = ap (λ r. (r >>= (λ lines. read_as roles.Probes (answers_of s.probes) >>= (λ answers. run_to (run_of answers lines)))) >>= (λ moves. Ok (ending_of limits moves))) e

behind_lines : (limits : List Limits) (s : Sources) (lines : List Line) → read_as roles.Ngc (program_of s.program) ≡ Ok lines
    → outcome_of limits s ≡ ((read_as roles.Probes (answers_of s.probes) >>= (λ answers. run_to (run_of answers lines))) >>= (λ moves. Ok (ending_of limits moves)))
unfolding moves_in
behind_lines limits s lines e = ap (λ r. (r >>= (λ lines. read_as roles.Probes (answers_of s.probes) >>= (λ answers. run_to (run_of answers lines)))) >>= (λ moves. Ok (ending_of limits moves))) e

behind_answers : (limits : List Limits) (s : Sources) (lines : List Line) (answers : List ℤ) → read_as roles.Ngc (program_of s.program) ≡ Ok lines → read_as roles.Probes (answers_of s.probes) ≡ Ok answers
    → outcome_of limits s ≡ (run_to (run_of answers lines) >>= (λ moves. Ok (ending_of limits moves)))
behind_answers limits s lines answers e f = behind_lines limits s lines e ∙ ap (λ r. (r >>= (λ answers. run_to (run_of answers lines))) >>= (λ moves. Ok (ending_of limits moves))) f

-- the program is refused
pub program_out : {X : Type 0} (view : X → List Line) (limits : List Limits) (s : Sources) (status : Status) → MakesOf view (read_as roles.Ngc (program_of s.program)) (Err status) → MakesOf told_of (outcome_of limits s) (Err status)
program_out view limits s status h = makes_weaker view told_of (read_as roles.Ngc (program_of s.program)) (outcome_of limits s) status (lines_stop limits s status) h

-- the answers are refused
pub answers_out : {X : Type 0} (view : X → List ℤ) (limits : List Limits) (s : Sources) (lines : List Line) (status : Status) → read_as roles.Ngc (program_of s.program) ≡ Ok lines
    → MakesOf view (read_as roles.Probes (answers_of s.probes)) (Err status) → MakesOf told_of (outcome_of limits s) (Err status)
answers_out view limits s lines status e h =
    makes_weaker view told_of (read_as roles.Probes (answers_of s.probes)) (outcome_of limits s) status
    (λ f. behind_lines limits s lines e ∙ ap (λ r. (r >>= (λ answers. run_to (run_of answers lines))) >>= (λ moves. Ok (ending_of limits moves))) f) h

-- the machine stops
pub machine_out : (limits : List Limits) (s : Sources) (lines : List Line) (answers : List ℤ) (fault : RunFault) → read_as roles.Ngc (program_of s.program) ≡ Ok lines → read_as roles.Probes (answers_of s.probes) ≡ Ok answers
    → StopsRun fault (run_of answers lines) → MakesOf told_of (outcome_of limits s) (Err (stopped_as fault))
machine_out limits s lines answers (Sim fault line) e f h =
    behind_answers limits s lines answers e f ∙ ap (λ r. run_to r >>= (λ moves. Ok (ending_of limits moves))) h
machine_out limits s lines answers stops.Memory e f h = tt

-- the run comes to its end
pub run_told : (limits : List Limits) (s : Sources) (lines : List Line) (answers : List ℤ) (run : Patrolled) (x : Simulation) → read_as roles.Ngc (program_of s.program) ≡ Ok lines
    → read_as roles.Probes (answers_of s.probes) ≡ Ok answers → IsPatrolled limits (run_of answers lines) run → told_of x ≡ told_as (run_lines run.moves run.findings) (verdict_of run.findings)
    → MakesOf told_of (outcome_of limits s) (Ok x)
run_told limits s lines answers run x e f h told =
    behind_answers limits s lines answers e f
    ∙ ap (λ r. run_to r >>= (λ moves. Ok (ending_of limits moves))) h.runs
    ∙ ap Ok (sym (
    told
    ∙ ap (λ k. told_as (run_lines k run.findings) (verdict_of run.findings)) h.count
    ∙ ap (λ fs. told_as (run_lines (length h.moves) fs) (verdict_of fs)) h.findings
    ))

-- a refusal of what was read is one of a line
abbrev IsOfLine : Status → Type 0
IsOfLine (Ngc role fault line) = Unit {0}
IsOfLine status = ⊥

err_is : {A : Type 0} (s t : Status) → ◌≡◌ {A = Result A Status} (Err s) (Err t) → s ≡ t
err_is s t e = cc

pub outcome_of_line : (limits : List Limits) (s : Sources) (status : Status) → outcome_of limits s ≡ Err status → IsOfLine status
unfolding moves_in
outcome_of_line limits s status e = by_lines (program_of s.program) e
  where
    by_run : (r : Result (List Move) (SimFault × ℕ)) → (run_to r >>= (λ moves. Ok (ending_of limits moves))) ≡ Err status → IsOfLine status
    by_run (Ok moves) e = absurd (not_ok status (ending_of limits moves) (sym e))
    by_run (Err stop) e = subst IsOfLine (err_is _ status e) tt

    by_answers : (lines : List Line) (r : Result (List ℤ) (LineFault × ℕ)) → ((read_as roles.Probes r >>= (λ answers. run_to (run_of answers lines))) >>= (λ moves. Ok (ending_of limits moves))) ≡ Err status → IsOfLine status
    by_answers lines (Ok answers) e = by_run (run_of answers lines) e
    by_answers lines (Err fault) e = subst IsOfLine (err_is _ status e) tt

    by_lines : (r : Result (List Line) (LineFault × ℕ)) → ((read_as roles.Ngc r >>= (λ lines. read_as roles.Probes (answers_of s.probes) >>= (λ answers. run_to (run_of answers lines)))) >>= (λ moves. Ok (ending_of limits moves))) ≡ Err status → IsOfLine status
    by_lines (Ok lines) e = by_answers lines (answers_of s.probes) e
    by_lines (Err fault) e = subst IsOfLine (err_is _ status e) tt

-- ---- all of it

words_stop : (limits : List Limits) (words : List (List ℕ)) (given : Reading) (word : ℕ) → words_of words ≡ Err word → simulated limits words given ≡ Err (Usage word)
unfolding simulated
words_stop limits words given word e = ap (λ r. usage r >>= (λ names. sources_in names given >>= (λ sources. outcome_of limits sources))) e

behind_words : (limits : List Limits) (words : List (List ℕ)) (given : Reading) (names : Named) → words_of words ≡ Ok names → simulated limits words given ≡ (sources_in names given >>= (λ sources. outcome_of limits sources))
unfolding simulated
behind_words limits words given names e = ap (λ r. usage r >>= (λ names. sources_in names given >>= (λ sources. outcome_of limits sources))) e

sources_stop : (limits : List Limits) (words : List (List ℕ)) (given : Reading) (names : Named) (status : Status) → words_of words ≡ Ok names → sources_in names given ≡ Err status → simulated limits words given ≡ Err status
sources_stop limits words given names status e f = behind_words limits words given names e ∙ ap (λ r. r >>= (λ sources. outcome_of limits sources)) f

behind_sources : (limits : List Limits) (words : List (List ℕ)) (given : Reading) (names : Named) (s : Sources) → words_of words ≡ Ok names → sources_in names given ≡ Ok s → simulated limits words given ≡ outcome_of limits s
behind_sources limits words given names s e f = behind_words limits words given names e ∙ ap (λ r. r >>= (λ sources. outcome_of limits sources)) f

-- the words are refused
pub refuses_words : (limits : List Limits) (words : List (List ℕ)) (word : ℕ) (before now : ShelfState) → words_of words ≡ Err word → Gives told_of before now (simulated limits words) (Err (Usage word))
refuses_words limits words word before now e = ((some_reading before.files).0, (some_reading before.files).1, words_stop limits words (some_reading before.files).0 word e)

-- the files are refused
pub refuses_sources : (limits : List Limits) (words : List (List ℕ)) (names : Named) (status : Status) (before now : ShelfState) → words_of words ≡ Ok names → Gives sources_of before now (sources_in names) (Err status)
    → Gives told_of before now (simulated limits words) (Err status)
refuses_sources limits words names status before now e h =
    refuses_weaker (λ given s. sources_in names given ≡ Err s) (λ given s. simulated limits words given ≡ Err s) status before now (λ given s f. sources_stop limits words given names s e f) h

-- what was read is refused, or told
pub gives_outcome : (limits : List Limits) (words : List (List ℕ)) (names : Named) (s : SourcesStruct) (result : Result Simulation Status) (before now last : ShelfState) → words_of words ≡ Ok names
    → Gives sources_of before now (sources_in names) (Ok s) → MakesOf told_of (outcome_of limits (sources_of s)) result → Gives told_of before last (simulated limits words) result
gives_outcome limits words names s result before now last e read made = by_result result made
  where
    so : (r : Result Ending Status) → outcome_of limits (sources_of s) ≡ r → (given : Reading) × MayRead before.files given × (simulated limits words given ≡ r)
    so r f = (read.0, read.1, behind_sources limits words read.0 names (sources_of s) e read.2 ∙ f)

    by_status : (status : Status) → MakesOf told_of (outcome_of limits (sources_of s)) (Err status) → Gives told_of before last (simulated limits words) (Err status)
    by_status Done h = absurd h
    by_status (Usage word) h = so (Err (Usage word)) h
    by_status (Job error) h = so (Err (Job error)) h
    by_status (Gerber role error) h = so (Err (Gerber role error)) h
    by_status (Drill error) h = so (Err (Drill error)) h
    by_status (Outline error) h = so (Err (Outline error)) h
    by_status (TooLong role) h = absurd (outcome_of_line limits (sources_of s) (TooLong role) h)
    by_status (Limit hit) h = so (Err (Limit hit)) h
    by_status (ReadFault role) h = absurd (outcome_of_line limits (sources_of s) (ReadFault role) h)
    by_status (WriteFault role) h = absurd h
    by_status (Ngc role fault line) h = so (Err (Ngc role fault line)) h
    by_status (Watch watcher at) h = so (Err (Watch watcher at)) h
    by_status (Cell i j line) h = so (Err (Cell i j line)) h
    by_status Memory h = tt

    by_result : (r : Result Simulation Status) → MakesOf told_of (outcome_of limits (sources_of s)) r → Gives told_of before last (simulated limits words) r
    by_result (Ok x) h = so (Ok (told_of x)) h
    by_result (Err status) h = by_status status h

-- ---- Usage

-- neither the reading nor what was read is refused by Usage
pub sources_other : (names : Named) (status : Status) (before now : ShelfState) → Gives sources_of before now (sources_in names) (Err status) → (word : ℕ) → status ≡ Usage word → ⊥
sources_other names status before now h word is = of_usage (subst (λ s. Gives sources_of before now (sources_in names) (Err s)) is h)
  where
    of_usage : Gives sources_of before now (sources_in names) (Err (Usage word)) → ⊥
    of_usage h = sources_not_usage names h.0 word h.2

pub outcome_other : (limits : List Limits) (s : Sources) (status : Status) → MakesOf told_of (outcome_of limits s) (Err status) → (word : ℕ) → status ≡ Usage word → ⊥
outcome_other limits s status h word is = outcome_of_line limits s (Usage word) (subst (λ t. MakesOf told_of (outcome_of limits s) (Err t)) is h)

done_other : (word : ℕ) → Done ≡ Usage word → ⊥
done_other word e = cc

pub usage_told : (limits : List Limits) (words : List (List ℕ)) (names : Named) (s : Sources) (result : Result Simulation Status) → words_of words ≡ Ok names → MakesOf told_of (outcome_of limits s) result
    → IsExactUsage (words_of words) (status_of result)
usage_told limits words names s (Ok x) e h = usage_accepted (words_of words) names Done e done_other
usage_told limits words names s (Err status) e h = usage_accepted (words_of words) names status e (outcome_other limits s status h)
