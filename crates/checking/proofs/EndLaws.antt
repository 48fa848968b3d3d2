-- The endings of the command that its steps come to, and what is answered to them.
use Rattle.std.proofs.Common.{◌≡◌, ◌≢◌, ◌⊎◌, ℕ, List, [], ◌∷◌, ◌++◌, Some, Result, Ok, Err, inl, inr, refl, sym, ap, ◌∙◌, subst}
use Rattle.board_base.specs.Files.{Files}
use Rattle.board_base.specs.Shelf.{ShelfState, OnlyReads}
use Rattle.side_check.specs.declared.fault.SideFault.{SideFault}
use Rattle.side_check.specs.declared.fault.SideFault.TheVariants as faults
use Rattle.side_check.specs.Found.{Findings}
use Rattle.endings.specs.declared.status.Status.{Status}
use Rattle.endings.specs.declared.status.Status.TheVariants.{Done, Usage, Job, Gerber, Drill, Outline, TooLong, Limit, ReadFault, WriteFault, Ngc, Watch, Cell, Memory}
use Rattle.endings.specs.Answers.{IfTold}
use Rattle.endings.specs.Ending.{Ending, refusal, with_ok, Command}
use Rattle.endings.specs.Lines.{line_of}
use Rattle.endings.specs.Reads.{Reading, held_in, MayRead, without}
use Rattle.endings.specs.Run.{IsAnswer}
use Rattle.endings.specs.Words.{IsExactUsage}
use Rattle.endings.specs.Works.{Refuses, Works, WorksAlone}
use Rattle.endings.proofs.RunLaws.{all_told, given_by, from_told_and, refuses_weaker, works_refused}
use Rattle.mill_inputs.proofs.ContentLaws.{ok_is}
use Rattle.mill_inputs.proofs.AcceptLaws.{same_err}
use Rattle.mill_outputs.proofs.PlanLaws.{err_not_ok}
use Rattle.mill_outputs.proofs.MillLaws.{status_is}
use Rattle.checking.specs.Words.{words_of}
use Rattle.checking.specs.Accepted.{Accepts, accepted}
use Rattle.checking.specs.Checked.{refused_as, Finds, Checked, Answered, joined_lines, ending_of, CheckEnds}
use Rattle.checking.proofs.AcceptLaws.{RefusesAll, accepted_not_done}

-- ---- the three endings

pub ends_refused : (words : List (List ℕ)) (given : Reading) (status : Status) → accepted words given ≡ Err status → CheckEnds words given (refusal status)
unfolding CheckEnds
ends_refused words given status e = (Err status, inl (sym e), refl)

pub ends_faulted : (words : List (List ℕ)) (given : Reading) (x : Accepts) (fault : SideFault) → accepted words given ≡ Ok x → Finds x (Err fault) → CheckEnds words given (refusal (refused_as fault))
unfolding CheckEnds
ends_faulted words given x fault e finds = (Err (refused_as fault), inr (x, sym e, inl (fault, refl, finds)), refl)

-- what was accepted, and what was found of it
abbrev pub IsChecked : List (List ℕ) → Reading → Checked → Type 0
IsChecked words given c = (accepted words given ≡ Ok c.accepts) × Finds c.accepts (Ok c.found)

pub ends_done : (words : List (List ℕ)) (given : Reading) (c : Checked) → IsChecked words given c → CheckEnds words given (ending_of (Ok c))
unfolding CheckEnds
ends_done words given c is = (Ok c, (c.accepts, sym is.0, (c.found, is.1, refl)), refl)

-- an ending by the words and files, by a fault of the check, or of what is found
abbrev pub EndsAs : List (List ℕ) → Reading → Ending → Type 0
EndsAs words given e =
    ((status : Status) × (accepted words given ≡ Err status) × (e ≡ refusal status))
    ⊎ ((x : Accepts) × (fault : SideFault) × (accepted words given ≡ Ok x) × Finds x (Err fault) × (e ≡ refusal (refused_as fault)))
    ⊎ ((c : Checked) × IsChecked words given c × (e ≡ ending_of (Ok c)))

-- there is no other
pub ends_as : (words : List (List ℕ)) (given : Reading) (e : Ending) → CheckEnds words given e → EndsAs words given e
unfolding CheckEnds
ends_as words given e ends = by_answer ends.0 ends.1 ends.2
  where
    checked : (x : Accepts) (found : Findings) (c : Checked) → accepted words given ≡ Ok x → Finds x (Ok found) → c ≡ record { accepts = x; found = found } → IsChecked words given c
    checked x found c good finds is = subst (IsChecked words given) (sym is) (good, finds)

    by_answer : (answer : Result Checked Status) → Answered words given answer → e ≡ ending_of answer → EndsAs words given e
    by_answer (Ok c) steps is =
        let rest = steps.2 in
        inr (inr (c, checked steps.0 rest.0 c (sym steps.1) rest.1 (ok_is c (record { accepts = steps.0; found = rest.0 }) rest.2), is))
    by_answer (Err status) (inl refused) is = inl (status, sym refused, is)
    by_answer (Err status) (inr (x, good, inl (fault, told, finds))) is = inr (inl (x, fault, sym good, finds, is ∙ ap refusal told))
    by_answer (Err status) (inr (x, good, inr (found, finds, made))) is = absurd (err_not_ok (record { accepts = x; found = found }) status made)

-- no fault is Done
pub fault_not_done : (fault : SideFault) → refused_as fault ≡ Done → ⊥
fault_not_done (faults.Limit hit) e = cc
fault_not_done (faults.NoProbeAnswer count) e = cc
fault_not_done (faults.Sim fault line) e = cc
fault_not_done (faults.Hit cell line) e = cc
fault_not_done faults.Memory e = cc

-- nor a Usage
fault_not_usage : (fault : SideFault) (word : ℕ) → refused_as fault ≡ Usage word → ⊥
fault_not_usage (faults.Limit hit) word e = cc
fault_not_usage (faults.NoProbeAnswer count) word e = cc
fault_not_usage (faults.Sim fault line) word e = cc
fault_not_usage (faults.Hit cell line) word e = cc
fault_not_usage faults.Memory word e = cc

-- only what was found ends with Done
pub of_done : (words : List (List ℕ)) (given : Reading) (e : Ending) → CheckEnds words given e → e.status ≡ Done → (c : Checked) × IsChecked words given c × (e ≡ ending_of (Ok c))
of_done words given e ends done = by_case (ends_as words given e ends)
  where
    by_case : EndsAs words given e → (c : Checked) × IsChecked words given c × (e ≡ ending_of (Ok c))
    by_case (inl refused) = absurd (accepted_not_done words given (refused.1 ∙ ap Err (sym (status_is e (refusal refused.0) refused.2) ∙ done)))
    by_case (inr (inl faulted)) = absurd (fault_not_done faulted.1 (sym (status_is e (refusal (refused_as faulted.1)) faulted.4) ∙ done))
    by_case (inr (inr checked)) = checked

-- nor is a refusal of words and files
pub refusal_not_done : (words : List (List ℕ)) (status : Status) (before now : ShelfState) → RefusesAll words status before now → status ≡ Done → ⊥
refusal_not_done words status before now r done = subst (λ s. RefusesAll words s before now) done r

-- ---- one answer

other_end : (words : List (List ℕ)) (given : Reading) (x : Accepts) (status : Status) → accepted words given ≡ Ok x → accepted words given ≡ Err status → ⊥
other_end words given x status good bad = err_not_ok x status (sym bad ∙ good)

-- words and files that are refused have that ending alone
refused_alone : (words : List (List ℕ)) (given : Reading) (status : Status) (e : Ending) → accepted words given ≡ Err status → CheckEnds words given e → status ≡ e.status
refused_alone words given status e bad ends = by_case (ends_as words given e ends)
  where
    by_case : EndsAs words given e → status ≡ e.status
    by_case (inl refused) = same_err Accepts status refused.0 (sym bad ∙ refused.1) ∙ sym (status_is e (refusal refused.0) refused.2)
    by_case (inr (inl faulted)) = absurd (other_end words given faulted.0 status faulted.2 bad)
    by_case (inr (inr checked)) = absurd (other_end words given (checked.0).accepts status (checked.1).0 bad)

-- what was accepted ends by what is found of it
abbrev pub EndsOf : Accepts → Ending → Type 0
EndsOf x e =
    ((fault : SideFault) × Finds x (Err fault) × (e ≡ refusal (refused_as fault)))
    ⊎ ((found : Findings) × Finds x (Ok found) × (e ≡ ending_of (Ok (record { accepts = x; found = found }))))

pub ends_of : (words : List (List ℕ)) (given : Reading) (x : Accepts) (e : Ending) → accepted words given ≡ Ok x → CheckEnds words given e → EndsOf x e
ends_of words given x e good ends = by_case (ends_as words given e ends)
  where
    one : (y : Accepts) → accepted words given ≡ Ok y → y ≡ x
    one y also = ok_is y x (sym also ∙ good)

    by_case : EndsAs words given e → EndsOf x e
    by_case (inl refused) = absurd (other_end words given x refused.0 good refused.1)
    by_case (inr (inl faulted)) = inl (faulted.1, subst (λ (y : Accepts). Finds y (Err faulted.1)) (one faulted.0 faulted.2) faulted.3, faulted.4)
    by_case (inr (inr checked)) =
        let c = checked.0 in
        let same = one c.accepts (checked.1).0 in
        inr (
          c.found,
          subst (λ (y : Accepts). Finds y (Ok c.found)) same (checked.1).1,
          checked.2 ∙ ap (λ (y : Accepts). ending_of (Ok (record { accepts = y; found = c.found }))) same,
        )

-- ---- what is answered

-- the status answers each ending that `check` has with the told files
abbrev pub AnswersAll : List (List ℕ) → Status → ShelfState → ShelfState → Type 0
AnswersAll words status before now = IfTold before.files (λ files. (e : Ending) → CheckEnds words (held_in files) e → IsAnswer (CheckEnds words) files e status before now)

-- A refusal R of what reads give answers each ending of a command that ends so, and in no other way, where R holds.
pub refused_answers : (ends : Command) (R : Reading → Status → Type 0) → ((given : Reading) (s : Status) → R given s → ends given (refusal s))
    → ((given : Reading) (s : Status) (e : Ending) → R given s → ends given e → s ≡ e.status)
    → (status : Status) (before now : ShelfState) → Refuses R status before now
    → IfTold before.files (λ files. (e : Ending) → ends (held_in files) e → IsAnswer ends files e status before now)
refused_answers ends R so alone status before now r =
    all_told before.files (λ files. (e : Ending) → ends (held_in files) e → IsAnswer ends files e status before now) (λ files told e h. by_status status files e told h r)
  where
    is : (s : Status) (files : Files) (e : Ending) → before.files ≡ Some files → ends (held_in files) e → (given : Reading) × MayRead before.files given × R given s → IsAnswer ends files e s before now
    is s files e told h r = inl (alone (held_in files) s e (subst (λ (given : Reading). R given s) (given_by before.files files r.0 told r.1) r.2) h)

    by_status : (s : Status) (files : Files) (e : Ending) → before.files ≡ Some files → ends (held_in files) e → Refuses R s before now → IsAnswer ends files e s before now
    by_status Done files e told h r = absurd r
    by_status (WriteFault role) files e told h r = absurd r
    by_status Memory files e told h r = inr (inl refl)
    by_status (Usage word) files e told h r = is (Usage word) files e told h r
    by_status (Job error) files e told h r = is (Job error) files e told h r
    by_status (Gerber role error) files e told h r = is (Gerber role error) files e told h r
    by_status (Drill error) files e told h r = is (Drill error) files e told h r
    by_status (Outline error) files e told h r = is (Outline error) files e told h r
    by_status (Limit hit) files e told h r = is (Limit hit) files e told h r
    by_status (Ngc role fault line) files e told h r = is (Ngc role fault line) files e told h r
    by_status (Watch watcher at) files e told h r = is (Watch watcher at) files e told h r
    by_status (Cell i j line) files e told h r = is (Cell i j line) files e told h r
    by_status (TooLong role) files e told h r = is (TooLong role) files e told h r.0
    by_status (ReadFault role) files e told h (inl r) =
        inr (inr (inl (role, refl, so (without role (held_in files)) (ReadFault role) (subst (λ (given : Reading). R (without role given) (ReadFault role)) (given_by before.files files r.1 told r.2) r.3), r.0)))
    by_status (ReadFault role) files e told h (inr r) =
        inl (alone (held_in files) (ReadFault role) e (from_told_and before.files files (λ fs. R (held_in fs) (ReadFault role)) told r) h)

-- where words and files are refused
pub refusal_answers : (words : List (List ℕ)) (status : Status) (before now : ShelfState) → RefusesAll words status before now → AnswersAll words status before now
refusal_answers words status before now r =
    refused_answers (CheckEnds words) (λ given s. accepted words given ≡ Err s) (ends_refused words) (λ given s e bad ends. refused_alone words given s e bad ends) status before now r

-- what was accepted of told files
abbrev pub IsAccepted : List (List ℕ) → Accepts → ShelfState → Type 0
IsAccepted words x before = (given : Reading) × MayRead before.files given × (accepted words given ≡ Ok x)

accepted_answers : (words : List (List ℕ)) (x : Accepts) (status : Status) (before now : ShelfState) → IsAccepted words x before
    → ((files : Files) (e : Ending) → EndsOf x e → IsAnswer (CheckEnds words) files e status before now) → AnswersAll words status before now
accepted_answers words x status before now r each =
    all_told before.files (λ files. (e : Ending) → CheckEnds words (held_in files) e → IsAnswer (CheckEnds words) files e status before now)
    (λ files told e ends. each files e (ends_of words (held_in files) x e (subst (λ (given : Reading). accepted words given ≡ Ok x) (given_by before.files files r.0 told r.1) r.2) ends))

-- where the check refuses
pub fault_answers : (words : List (List ℕ)) (x : Accepts) (fault : SideFault) (before now : ShelfState) → IsAccepted words x before
    → ((answer : Result Findings SideFault) → Finds x answer → (fault ≡ faults.Memory) ⊎ (answer ≡ Err fault)) → AnswersAll words (refused_as fault) before now
fault_answers words x fault before now r only = accepted_answers words x (refused_as fault) before now r (λ files e ends. by_case files e ends)
  where
    memory : (files : Files) (e : Ending) → fault ≡ faults.Memory → IsAnswer (CheckEnds words) files e (refused_as fault) before now
    memory files e is = inr (inl (ap refused_as is))

    same : (f g : SideFault) → ◌≡◌ {A = Result Findings SideFault} (Err f) (Err g) → f ≡ g
    same f g e = cc

    other : (found : Findings) (g : SideFault) → ◌≡◌ {A = Result Findings SideFault} (Ok found) (Err g) → ⊥
    other found g e = cc

    by_fault : (files : Files) (e : Ending) (g : SideFault) → e ≡ refusal (refused_as g) → (fault ≡ faults.Memory) ⊎ (◌≡◌ {A = Result Findings SideFault} (Err g) (Err fault)) → IsAnswer (CheckEnds words) files e (refused_as fault) before now
    by_fault files e g is (inl m) = memory files e m
    by_fault files e g is (inr one) = inl (sym (status_is e (refusal (refused_as g)) is ∙ ap refused_as (same g fault one)))

    by_found : (files : Files) (e : Ending) (found : Findings) → (fault ≡ faults.Memory) ⊎ (◌≡◌ {A = Result Findings SideFault} (Ok found) (Err fault)) → IsAnswer (CheckEnds words) files e (refused_as fault) before now
    by_found files e found (inl m) = memory files e m
    by_found files e found (inr one) = absurd (other found fault one)

    by_case : (files : Files) (e : Ending) → EndsOf x e → IsAnswer (CheckEnds words) files e (refused_as fault) before now
    by_case files e (inl f) = by_fault files e f.0 f.2 (only (Err f.0) f.1)
    by_case files e (inr f) = by_found files e f.0 (only (Ok f.0) f.1)

-- where memory is wanting
pub memory_answers : (words : List (List ℕ)) (before now : ShelfState) → AnswersAll words Memory before now
memory_answers words before now =
    all_told before.files (λ files. (e : Ending) → CheckEnds words (held_in files) e → IsAnswer (CheckEnds words) files e Memory before now) (λ files told e ends. inr (inl refl))

-- where the program passes
pub done_answers : (words : List (List ℕ)) (x : Accepts) (before now : ShelfState) → IsAccepted words x before → ((fault : SideFault) → Finds x (Err fault) → ⊥) → AnswersAll words Done before now
done_answers words x before now r never = accepted_answers words x Done before now r (λ files e ends. by_case files e ends)
  where
    by_case : (files : Files) (e : Ending) → EndsOf x e → IsAnswer (CheckEnds words) files e Done before now
    by_case files e (inl f) = absurd (never f.0 f.1)
    by_case files e (inr f) = inl (sym (status_is e (ending_of (Ok (record { accepts = x; found = f.0 }))) f.2))

-- ---- what is done before any line is put

pub refusal_works : (words : List (List ℕ)) (status : Status) (before now : ShelfState) → OnlyReads before now → RefusesAll words status before now → Works (CheckEnds words) status before now
refusal_works words status before now keeps r =
    works_refused (CheckEnds words) status before now keeps (refuses_weaker (λ given s. accepted words given ≡ Err s) (λ given s. CheckEnds words given (refusal s)) status before now (ends_refused words) r)

pub fault_works : (words : List (List ℕ)) (x : Accepts) (fault : SideFault) (before now : ShelfState) → OnlyReads before now → IsAccepted words x before
    → (fault ≡ faults.Memory) ⊎ Finds x (Err fault) → Works (CheckEnds words) (refused_as fault) before now
fault_works words x fault before now keeps r (inl memory) = subst (λ f. Works (CheckEnds words) (refused_as f) before now) (sym memory) (inl keeps.files)
fault_works words x fault before now keeps r (inr finds) = by_fault fault (r.0, r.1, ends_faulted words r.0 x fault r.2 finds)
  where
    by_fault : (f : SideFault) → (given : Reading) × MayRead before.files given × CheckEnds words given (refusal (refused_as f)) → Works (CheckEnds words) (refused_as f) before now
    by_fault (faults.Limit hit) ends = (keeps.files, keeps.writes, ends)
    by_fault (faults.NoProbeAnswer count) ends = (keeps.files, keeps.writes, ends)
    by_fault (faults.Sim fault line) ends = (keeps.files, keeps.writes, ends)
    by_fault (faults.Hit cell line) ends = (keeps.files, keeps.writes, ends)
    by_fault faults.Memory ends = inl keeps.files

pub memory_works : (words : List (List ℕ)) (before now : ShelfState) → OnlyReads before now → Works (CheckEnds words) Memory before now
memory_works words before now keeps = inl keeps.files

ok_behind : (lines : List ℕ) → lines ++ line_of Done ≢ []
ok_behind [] e = cc
ok_behind (b ∷ lines) e = cc

pub done_works : (words : List (List ℕ)) (x : Accepts) (found : Findings) (lines : List ℕ) (before now : ShelfState) → OnlyReads before now → IsAccepted words x before → Finds x (Ok found)
    → lines ≡ joined_lines found.groups → WorksAlone (CheckEnds words) lines Done before now
done_works words x found lines before now keeps r finds is =
    let c : Checked = record { accepts = x; found = found } in
    record {
      comes = tt;
      files = keeps.files;
      writes = keeps.writes;
      some = ok_behind lines;
      ending = (r.0, r.1, ending_of (Ok c), ends_done words r.0 c (r.2, finds), ap made (sym is));
    }
  where
    made : List ℕ → Ending
    made lines = record { status = Done; outputs = []; lines = with_ok Done lines }

-- an ending that is Done has lines
pub done_lines : (words : List (List ℕ)) (given : Reading) (e : Ending) → CheckEnds words given e → e.status ≡ Done → e.lines ≢ []
done_lines words given e ends done =
    let c = of_done words given e ends done in
    subst (λ (e : Ending). e.lines ≢ []) (sym c.2) (ok_behind (joined_lines c.0.found.groups))

-- ---- Usage

pub fault_usage : (words : List (List ℕ)) (fault : SideFault) → IsExactUsage (words_of words) Done → IsExactUsage (words_of words) (refused_as fault)
fault_usage words fault accepted = record { only = λ word e. absurd (fault_not_usage fault word e); comes = λ word e. absurd (never word (accepted.comes word e)) }
  where
    never : (word : ℕ) → (Done ≡ Usage word) ⊎ (Done ≡ Memory) → ⊥
    never word (inl e) = cc
    never word (inr e) = cc

pub memory_usage : (words : List (List ℕ)) → IsExactUsage (words_of words) Done → IsExactUsage (words_of words) Memory
memory_usage words accepted = fault_usage words faults.Memory accepted
