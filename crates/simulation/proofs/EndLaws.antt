-- The endings of the command that its steps come to.
use Rattle.std.proofs.Common.{◌≡◌, ◌≢◌, ℕ, List, [], ◌∷◌, length, Option, Some, None, Result, Ok, Err, inl, inr, refl, sym, ap, ◌∙◌, subst}
use Rattle.std.specs.Prelude.{string_bytes, MatchResult}
use Rattle.board_base.specs.declared.places.Move.{Move}
use Rattle.board_base.specs.Binds.{◌>>=◌}
use Rattle.board_base.specs.Files.{Files}
use Rattle.board_base.specs.Shelf.{ShelfState, OnlyReads}
use Rattle.move_watch.specs.declared.bounds.Limits.{Limits}
use Rattle.move_watch.specs.declared.finding.Finding.{Finding}
use Rattle.rs274_sim.proofs.FoundLaws.{same_ok, bind_ok}
use Rattle.endings.specs.declared.status.Status.{Status}
use Rattle.endings.specs.declared.status.Status.TheVariants.{Done, Usage, Job, Gerber, Drill, Outline, TooLong, Limit, ReadFault, WriteFault, Ngc, Watch, Cell, Memory}
use Rattle.endings.specs.Answers.{usage, IfTold}
use Rattle.endings.specs.Ending.{Ending, refusal}
use Rattle.endings.specs.Reads.{Reading, held_in, MayRead, without}
use Rattle.endings.specs.Run.{IsAnswer}
use Rattle.endings.specs.Works.{Gives, ComesBehind, Works, WorksAlone}
use Rattle.endings.proofs.RunLaws.{all_told, given_by, from_told_and, refuses_weaker, works_refused}
use Rattle.endings.proofs.AloneLaws.{ok_some}
use Rattle.simulation.specs.declared.report.Simulation.{Simulation}
use Rattle.simulation.specs.Words.{words_of}
use Rattle.simulation.specs.Simulated.{sources_in, moves_in, run_lines, objects_or, verdict_of, told_of, findings_in, ending_of, outcome_of, simulated, ended, SimulationEnds}

-- the run is done, or a watcher objected
verdict_comes : (findings : List Finding) → ComesBehind (verdict_of findings)
verdict_comes [] = tt
verdict_comes (f ∷ findings) = by_first f.watcher f.first (verdict_of findings) (verdict_comes findings)
  where
    by_first : (watcher : ℕ) (first : Option ℕ) (other : Status) → ComesBehind other → ComesBehind (objects_or watcher first other)
    by_first watcher None other h = h
    by_first watcher (Some at) other h = tt

lines_some : (moves : ℕ) (findings : List Finding) → run_lines moves findings ≢ []
lines_some moves findings e = cc

-- what is given is the ending of some moves
simulated_ok : (limits : List Limits) (words : List (List ℕ)) (given : Reading) (e : Ending) → simulated limits words given ≡ Ok e → (moves : List Move) × (e ≡ ending_of limits moves)
unfolding simulated
simulated_ok limits words given e h =
    let named = bind_ok (usage (words_of words)) (λ names. sources_in names given >>= (λ sources. outcome_of limits sources)) e h in
    let read = bind_ok (sources_in named.0 given) (λ sources. outcome_of limits sources) e named.2 in
    let run = bind_ok (moves_in read.0) (λ moves. Ok (ending_of limits moves)) e read.2 in
    (run.0, sym (same_ok (ending_of limits run.0) e run.2))

-- a run that came to its end
works_alone : (limits : List Limits) (words : List (List ℕ)) (s : Simulation) (before now : ShelfState) → OnlyReads before now → Gives told_of before now (simulated limits words) (Ok s)
    → WorksAlone (SimulationEnds limits words) (string_bytes s.lines) s.status before now
works_alone limits words s before now keeps h =
    let end = simulated_ok limits words h.0 (told_of s) h.2 in
    let findings = findings_in limits end.0 in
    record {
      comes = subst ComesBehind (sym (ap (λ (e : Ending). e.status) end.1)) (verdict_comes findings);
      files = keeps.files;
      writes = keeps.writes;
      some = subst (λ lines. lines ≢ []) (sym (ap (λ (e : Ending). e.lines) end.1)) (ok_some (verdict_of findings) (run_lines (length end.0) findings) (lines_some (length end.0) findings));
      ending = (h.0, h.1, told_of s, sym (ap ended h.2), refl);
    }

-- a refusal
pub works_so : (limits : List Limits) (words : List (List ℕ)) (status : Status) (before now : ShelfState) → OnlyReads before now → Gives told_of before now (simulated limits words) (Err status)
    → Works (SimulationEnds limits words) status before now
works_so limits words status before now keeps h =
    works_refused (SimulationEnds limits words) status before now keeps
    (refuses_weaker (λ given s. simulated limits words given ≡ Err s) (λ given s. SimulationEnds limits words given (refusal s)) status before now (λ given s e. sym (ap ended e)) h)

-- either
pub works_result : (limits : List Limits) (words : List (List ℕ)) (result : Result Simulation Status) (before now : ShelfState) → OnlyReads before now → Gives told_of before now (simulated limits words) result
    → MatchResult result (λ s. WorksAlone (SimulationEnds limits words) (string_bytes s.lines) s.status before now) (λ status. Works (SimulationEnds limits words) status before now)
works_result limits words (Ok s) before now keeps h = works_alone limits words s before now keeps h
works_result limits words (Err status) before now keeps h = works_so limits words status before now keeps h

-- ---- what is answered to the endings that told files have

same_ended : (limits : List Limits) (words : List (List ℕ)) (o : Option Files) (files : Files) (given : Reading) (r : Result Ending Status) (e : Ending) → o ≡ Some files → MayRead o given → simulated limits words given ≡ r
    → SimulationEnds limits words (held_in files) e → e ≡ ended r
same_ended limits words o files given r e told may is h = h ∙ ap ended (subst (λ given. simulated limits words given ≡ r) (given_by o files given told may) is)

-- a run that came to its end is the one ending
pub only_told : (limits : List Limits) (words : List (List ℕ)) (s : Simulation) (before now : ShelfState) → Gives told_of before now (simulated limits words) (Ok s)
    → IfTold before.files (λ files. (e : Ending) → SimulationEnds limits words (held_in files) e → e ≡ told_of s)
only_told limits words s before now h =
    all_told before.files (λ files. (e : Ending) → SimulationEnds limits words (held_in files) e → e ≡ told_of s)
    (λ files told e ends. same_ended limits words before.files files h.0 (Ok (told_of s)) e told h.1 h.2 ends)

-- so is a refusal, unless memory was wanting or a fault of a read was counted
pub refusal_answered : (limits : List Limits) (words : List (List ℕ)) (status : Status) (before now : ShelfState) → Gives told_of before now (simulated limits words) (Err status)
    → IfTold before.files (λ files. (e : Ending) → SimulationEnds limits words (held_in files) e → IsAnswer (SimulationEnds limits words) files e status before now)
refusal_answered limits words status before now h =
    all_told before.files (λ files. (e : Ending) → SimulationEnds limits words (held_in files) e → IsAnswer (SimulationEnds limits words) files e status before now)
    (λ files told e ends. by_status status files e told ends h)
  where
    so : (s : Status) (files : Files) (e : Ending) → before.files ≡ Some files → SimulationEnds limits words (held_in files) e → (given : Reading) × MayRead before.files given × (simulated limits words given ≡ Err s)
        → IsAnswer (SimulationEnds limits words) files e s before now
    so s files e told ends r = inl (sym (ap (λ (e : Ending). e.status) (same_ended limits words before.files files r.0 (Err s) e told r.1 r.2 ends)))

    by_status : (s : Status) (files : Files) (e : Ending) → before.files ≡ Some files → SimulationEnds limits words (held_in files) e → Gives told_of before now (simulated limits words) (Err s)
        → IsAnswer (SimulationEnds limits words) files e s before now
    by_status Memory files e told ends h = inr (inl refl)
    by_status (ReadFault role) files e told ends (inl r) =
        inr (inr (inl (role, refl, subst (λ given. SimulationEnds limits words (without role given) (refusal (ReadFault role))) (given_by before.files files r.1 told r.2) (sym (ap ended r.3)), r.0)))
    by_status (ReadFault role) files e told ends (inr r) =
        inl (sym (ap (λ (e : Ending). e.status) (ends ∙ ap ended (from_told_and before.files files (λ files. simulated limits words (held_in files) ≡ Err (ReadFault role)) told r))))
    by_status (TooLong role) files e told ends h = so (TooLong role) files e told ends h.0
    by_status Done files e told ends h = absurd h
    by_status (WriteFault role) files e told ends h = absurd h
    by_status (Usage word) files e told ends h = so (Usage word) files e told ends h
    by_status (Job error) files e told ends h = so (Job error) files e told ends h
    by_status (Gerber role error) files e told ends h = so (Gerber role error) files e told ends h
    by_status (Drill error) files e told ends h = so (Drill error) files e told ends h
    by_status (Outline error) files e told ends h = so (Outline error) files e told ends h
    by_status (Limit hit) files e told ends h = so (Limit hit) files e told ends h
    by_status (Ngc role fault line) files e told ends h = so (Ngc role fault line) files e told ends h
    by_status (Watch watcher at) files e told ends h = so (Watch watcher at) files e told ends h
    by_status (Cell i j line) files e told ends h = so (Cell i j line) files e told ends h
