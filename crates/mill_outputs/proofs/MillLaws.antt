-- How `mill` ends, and what is answered to that.
use Rattle.std.proofs.Common.{◌≡◌, ◌⊎◌, ℕ, List, [], ◌∷◌, Option, Some, Result, Ok, Err, inl, inr, refl, sym, ap, ◌∙◌, subst}
use Rattle.board_base.specs.declared.places.Role.{Role}
use Rattle.board_base.specs.declared.places.Role.TheVariants as roles
use Rattle.board_base.specs.Counts.{Rose}
use Rattle.board_base.specs.Files.{Files, stored}
use Rattle.board_base.specs.Shelf.{ShelfState, OnlyReads}
use Rattle.mill_plan.specs.declared.limits.LimitHit.{LimitHit}
use Rattle.outline_loops.specs.declared.refusals.OutlineError.{OutlineError}
use Rattle.endings.specs.declared.status.Status.{Status}
use Rattle.endings.specs.declared.status.Status.TheVariants.{Done, Usage, Job as RefusedJob, Gerber, Drill as RefusedDrill, Outline as RefusedOutline, TooLong, Limit, ReadFault, WriteFault, Ngc, Watch, Cell, Memory}
use Rattle.endings.specs.Answers.{IfTold}
use Rattle.endings.specs.Outputs.{Output, all_stored, IsStopped, Stops, Writes}
use Rattle.endings.specs.Reads.{Reading, held_in, MayRead, without}
use Rattle.endings.specs.Ending.{Ending, refusal}
use Rattle.endings.specs.Run.{IsAnswer}
use Rattle.endings.specs.Works.{Refuses, Works}
use Rattle.endings.proofs.RunLaws.{PutsOk, all_told, given_by, from_told_and, refuses_weaker, works_refused}
use Rattle.endings.specs.Words.{IsExactUsage}
use Rattle.mill_inputs.specs.Words.{words_of}
use Rattle.mill_inputs.specs.Accepted.{Accepts, accepted}
use Rattle.mill_inputs.proofs.ContentLaws.{ok_is}
use Rattle.mill_inputs.proofs.AcceptLaws.{accepted_not_done}
use Rattle.mill_outputs.specs.Written.{OneOfEach, Made, AreMade}
use Rattle.mill_outputs.specs.Mill.{files_of, Milled, Answered, ending_of, Ends, AreFilesOf}
use Rattle.mill_outputs.proofs.PlanLaws.{IsPlanRefusal}
use Rattle.mill_outputs.proofs.AcceptedLaws.{IsAccepted, accepted_stands}
use Rattle.mill_outputs.proofs.MadeLaws.{made_apart, made_refusal, programs_same}
use Rattle.mill_outputs.proofs.FileLaws.{same_writes, files_not_of_lines}

-- ---- the three endings

pub ends_refused : (words : List (List ℕ)) (given : Reading) (status : Status) → accepted words given ≡ Err status → Ends words given (refusal status)
unfolding Ends
ends_refused words given status e = (Err status, inl (sym e), refl)

pub ends_limited : (words : List (List ℕ)) (given : Reading) (x : Accepts) (status : Status) → accepted words given ≡ Ok x → AreMade x (Err status) → Ends words given (refusal status)
unfolding Ends
ends_limited words given x status e refused = (Err status, inr (x, sym e, inl refused), refl)

pub ends_done : (words : List (List ℕ)) (given : Reading) (m : Milled) → accepted words given ≡ Ok m.accepts → AreMade m.accepts (Ok m.made) → Ends words given (ending_of (Ok m))
unfolding Ends
ends_done words given m e planned = (Ok m, (m.accepts, sym e, (m.made, planned, refl)), refl)

-- what was accepted and planned for it
abbrev pub IsMilled : List (List ℕ) → Reading → Milled → Type 0
IsMilled words given m = (accepted words given ≡ Ok m.accepts) × AreMade m.accepts (Ok m.made)

-- an ending by the words and files, by a limit, or of what is made
abbrev pub EndsAs : List (List ℕ) → Reading → Ending → Type 0
EndsAs words given e =
    ((status : Status) × (accepted words given ≡ Err status) × (e ≡ refusal status))
    ⊎ ((x : Accepts) × (status : Status) × (accepted words given ≡ Ok x) × AreMade x (Err status) × (e ≡ refusal status))
    ⊎ ((m : Milled) × IsMilled words given m × (e ≡ ending_of (Ok m)))

ok_of_err : {A : Type 0} (a : A) (status : Status) → ◌≡◌ {A = Result A Status} (Err status) (Ok a) → ⊥
ok_of_err a status e = cc

-- there is no other
pub ends_as : (words : List (List ℕ)) (given : Reading) (e : Ending) → Ends words given e → EndsAs words given e
unfolding Ends
ends_as words given e ends = by_answer ends.0 ends.1 ends.2
  where
    milled : (x : Accepts) (made : Made) (m : Milled) → accepted words given ≡ Ok x → AreMade x (Ok made) → m ≡ record { accepts = x; made = made } → IsMilled words given m
    milled x made m good planned is = subst (IsMilled words given) (sym is) (good, planned)

    by_answer : (answer : Result Milled Status) → Answered words given answer → e ≡ ending_of answer → EndsAs words given e
    by_answer (Ok m) steps is =
        let rest = steps.2 in
        inr (inr (m, milled steps.0 rest.0 m (sym steps.1) rest.1 (ok_is m (record { accepts = steps.0; made = rest.0 }) rest.2), is))
    by_answer (Err status) (inl refused) is = inl (status, sym refused, is)
    by_answer (Err status) (inr (x, good, inl limited)) is = inr (inl (x, status, sym good, limited, is))
    by_answer (Err status) (inr (x, good, inr (made, planned, last))) is = absurd (ok_of_err (record { accepts = x; made = made }) status last)

pub status_is : (e f : Ending) → e ≡ f → e.status ≡ f.status
status_is e f same = ap (λ (e : Ending). e.status) same

-- only what is made ends with Done
pub of_done : (words : List (List ℕ)) (given : Reading) (e : Ending) → Ends words given e → e.status ≡ Done → (m : Milled) × IsMilled words given m × (e ≡ ending_of (Ok m))
of_done words given e ends done = by_case (ends_as words given e ends)
  where
    not_done : (status : Status) → IsPlanRefusal status → status ≡ Done → ⊥
    not_done status (inl limit) is = apart limit.0 (sym limit.1 ∙ is)
      where
        apart : (hit : LimitHit) → Limit hit ≡ Done → ⊥
        apart hit e = cc
    not_done status (inr outline) is = apart outline.0 (sym outline.1 ∙ is)
      where
        apart : (error : OutlineError) → RefusedOutline error ≡ Done → ⊥
        apart error e = cc

    by_case : EndsAs words given e → (m : Milled) × IsMilled words given m × (e ≡ ending_of (Ok m))
    by_case (inl refused) = absurd (accepted_not_done words given (refused.1 ∙ ap Err (sym (status_is e (refusal refused.0) refused.2) ∙ done)))
    by_case (inr (inl limited)) = absurd (not_done limited.1 (made_refusal limited.0 limited.1 limited.3) (sym (status_is e (refusal limited.1) limited.4) ∙ done))
    by_case (inr (inr milled)) = milled

-- which puts ok
pub puts_ok : (words : List (List ℕ)) → PutsOk (Ends words)
puts_ok words given e ends done = ap (λ (e : Ending). e.lines) (of_done words given e ends done).2

-- ---- one answer

other_end : (words : List (List ℕ)) (given : Reading) (x : Accepts) (status : Status) → accepted words given ≡ Ok x → accepted words given ≡ Err status → ⊥
other_end words given x status good bad = ok_of_err x status (sym bad ∙ good)

one_refusal : (words : List (List ℕ)) (given : Reading) (s t : Status) → accepted words given ≡ Err s → accepted words given ≡ Err t → s ≡ t
one_refusal words given s t e f = same s t (sym e ∙ f)
  where
    same : (s t : Status) → ◌≡◌ {A = Result Accepts Status} (Err s) (Err t) → s ≡ t
    same s t e = cc

one_accepted : (words : List (List ℕ)) (given : Reading) (x y : Accepts) → accepted words given ≡ Ok x → accepted words given ≡ Ok y → x ≡ y
one_accepted words given x y e f = ok_is x y (sym e ∙ f)

-- words and files that are refused have that ending alone
refused_alone : (words : List (List ℕ)) (given : Reading) (status : Status) (e : Ending) → accepted words given ≡ Err status → Ends words given e → status ≡ e.status
refused_alone words given status e bad ends = by_case (ends_as words given e ends)
  where
    by_case : EndsAs words given e → status ≡ e.status
    by_case (inl refused) = one_refusal words given status refused.0 bad refused.1 ∙ sym (status_is e (refusal refused.0) refused.2)
    by_case (inr (inl limited)) = absurd (other_end words given limited.0 status limited.2 bad)
    by_case (inr (inr milled)) = absurd (other_end words given (milled.0).accepts status (milled.1).0 bad)

-- what was accepted ends by the answer of what is made of it
abbrev pub EndsOf : Accepts → Ending → Type 0
EndsOf x e =
    ((status : Status) × AreMade x (Err status) × (e ≡ refusal status))
    ⊎ ((made : Made) × AreMade x (Ok made) × (e ≡ ending_of (Ok (record { accepts = x; made = made }))))

pub ends_of : (words : List (List ℕ)) (given : Reading) (x : Accepts) (e : Ending) → accepted words given ≡ Ok x → Ends words given e → EndsOf x e
ends_of words given x e good ends = by_case (ends_as words given e ends)
  where
    by_case : EndsAs words given e → EndsOf x e
    by_case (inl refused) = absurd (other_end words given x refused.0 good refused.1)
    by_case (inr (inl limited)) = inl (limited.1, subst (λ (y : Accepts). AreMade y (Err limited.1)) (one_accepted words given limited.0 x limited.2 good) limited.3, limited.4)
    by_case (inr (inr milled)) =
        let m = milled.0 in
        let same = one_accepted words given m.accepts x (milled.1).0 good in
        inr (
          m.made,
          subst (λ (y : Accepts). AreMade y (Ok m.made)) same (milled.1).1,
          milled.2 ∙ ap (λ (y : Accepts). ending_of (Ok (record { accepts = y; made = m.made }))) same,
        )

-- what is made ends with what is made
pub made_alone : OneOfEach → (words : List (List ℕ)) (given : Reading) (x : Accepts) (made : Made) (e : Ending) → accepted words given ≡ Ok x → AreMade x (Ok made) → Ends words given e
    → (other : Made) × AreMade x (Ok other) × (e ≡ ending_of (Ok (record { accepts = x; made = other })))
made_alone law words given x made e good planned ends = by_case (ends_of words given x e good ends)
  where
    by_case : EndsOf x e → (other : Made) × AreMade x (Ok other) × (e ≡ ending_of (Ok (record { accepts = x; made = other })))
    by_case (inl limited) = absurd (made_apart law x (accepted_stands words given x good) made limited.0 planned limited.1)
    by_case (inr other) = other

-- ---- what is answered

-- the status answers each ending that `mill` has with the told files
abbrev pub AnswersAll : List (List ℕ) → Status → ShelfState → ShelfState → Type 0
AnswersAll words status before now = IfTold before.files (λ files. (e : Ending) → Ends words (held_in files) e → IsAnswer (Ends words) files e status before now)

answers_all : (words : List (List ℕ)) (status : Status) (before now : ShelfState) → ((files : Files) → before.files ≡ Some files → (e : Ending) → Ends words (held_in files) e → IsAnswer (Ends words) files e status before now)
    → AnswersAll words status before now
answers_all words status before now h = all_told before.files (λ files. (e : Ending) → Ends words (held_in files) e → IsAnswer (Ends words) files e status before now) h

-- reads that may be are those of the told files
accepted_told : (words : List (List ℕ)) (x : Accepts) (before : ShelfState) (files : Files) → (given : Reading) × MayRead before.files given × (accepted words given ≡ Ok x) → before.files ≡ Some files
    → accepted words (held_in files) ≡ Ok x
accepted_told words x before files r told = subst (λ (given : Reading). accepted words given ≡ Ok x) (given_by before.files files r.0 told r.1) r.2

answers_refused : (words : List (List ℕ)) (status : Status) (before now : ShelfState) (files : Files) → before.files ≡ Some files → Refuses (λ given s. accepted words given ≡ Err s) status before now
    → (e : Ending) → Ends words (held_in files) e → IsAnswer (Ends words) files e status before now
answers_refused words status before now files told r e ends = by_status status r
  where
    so : (s : Status) → (given : Reading) × MayRead before.files given × (accepted words given ≡ Err s) → IsAnswer (Ends words) files e s before now
    so s r = inl (refused_alone words (held_in files) s e (subst (λ (given : Reading). accepted words given ≡ Err s) (given_by before.files files r.0 told r.1) r.2) ends)

    by_status : (s : Status) → Refuses (λ given s. accepted words given ≡ Err s) s before now → IsAnswer (Ends words) files e s before now
    by_status Done r = absurd r
    by_status (WriteFault role) r = absurd r
    by_status Memory r = inr (inl refl)
    by_status (Usage word) r = so (Usage word) r
    by_status (RefusedJob error) r = so (RefusedJob error) r
    by_status (Gerber role error) r = so (Gerber role error) r
    by_status (RefusedDrill error) r = so (RefusedDrill error) r
    by_status (RefusedOutline error) r = so (RefusedOutline error) r
    by_status (Ngc role fault line) r = so (Ngc role fault line) r
    by_status (Watch watcher at) r = so (Watch watcher at) r
    by_status (Cell i j line) r = so (Cell i j line) r
    by_status (Limit hit) r = so (Limit hit) r
    by_status (TooLong role) r = so (TooLong role) r.0
    by_status (ReadFault role) (inl r) =
        inr (inr (inl (role, refl, ends_refused words (without role (held_in files)) (ReadFault role) (subst (λ (given : Reading). accepted words (without role given) ≡ Err (ReadFault role)) (given_by before.files files r.1 told r.2) r.3), r.0)))
    by_status (ReadFault role) (inr r) =
        inl (refused_alone words (held_in files) (ReadFault role) e (from_told_and before.files files (λ fs. accepted words (held_in fs) ≡ Err (ReadFault role)) told r) ends)

-- the answer where words and files are refused
pub refusal_answers : (words : List (List ℕ)) (status : Status) (before now : ShelfState) → Refuses (λ given s. accepted words given ≡ Err s) status before now → AnswersAll words status before now
refusal_answers words status before now r = answers_all words status before now (λ files told. answers_refused words status before now files told r)

-- where what is made is refused
pub plan_answers : (words : List (List ℕ)) (x : Accepts) (status : Status) (before now : ShelfState) → (given : Reading) × MayRead before.files given × (accepted words given ≡ Ok x)
    → ((answer : Result Made Status) → AreMade x answer → (status ≡ Memory) ⊎ (answer ≡ Err status)) → AnswersAll words status before now
plan_answers words x status before now r only = answers_all words status before now (λ files told e ends. by_case files e (ends_of words (held_in files) x e (accepted_told words x before files r told) ends))
  where
    by_limit : (files : Files) (e : Ending) (s : Status) → e ≡ refusal s → (status ≡ Memory) ⊎ (◌≡◌ {A = Result Made Status} (Err s) (Err status)) → IsAnswer (Ends words) files e status before now
    by_limit files e s is (inl memory) = inr (inl memory)
    by_limit files e s is (inr same) = inl (sym (one s status same) ∙ sym (status_is e (refusal s) is))
      where
        one : (s t : Status) → ◌≡◌ {A = Result Made Status} (Err s) (Err t) → s ≡ t
        one s t e = cc

    by_made : (files : Files) (e : Ending) (made : Made) → (status ≡ Memory) ⊎ (◌≡◌ {A = Result Made Status} (Ok made) (Err status)) → IsAnswer (Ends words) files e status before now
    by_made files e made (inl memory) = inr (inl memory)
    by_made files e made (inr other) = absurd (ok_of_err made status (sym other))

    by_case : (files : Files) (e : Ending) → EndsOf x e → IsAnswer (Ends words) files e status before now
    by_case files e (inl limited) = by_limit files e limited.0 limited.2 (only (Err limited.0) limited.1)
    by_case files e (inr planned) = by_made files e planned.0 (only (Ok planned.0) planned.1)

-- where memory is wanting
pub memory_answers : (words : List (List ℕ)) (before now : ShelfState) → AnswersAll words Memory before now
memory_answers words before now = answers_all words Memory before now (λ files told e ends. inr (inl refl))

-- the ending of what files were made for
files_alone : OneOfEach → (words : List (List ℕ)) (given : Reading) (x : Accepts) (outputs : List Output) (e : Ending) → accepted words given ≡ Ok x → AreFilesOf x outputs → Ends words given e
    → (other : Made) × AreMade x (Ok other) × (e ≡ ending_of (Ok (record { accepts = x; made = other })))
unfolding AreFilesOf
files_alone law words given x outputs e good made ends = made_alone law words given x made.0 e good made.1 ends

-- where all files are written
pub done_answers : OneOfEach → (words : List (List ℕ)) (x : Accepts) (outputs : List Output) (before now : ShelfState) → (given : Reading) × MayRead before.files given × (accepted words given ≡ Ok x) → AreFilesOf x outputs
    → AnswersAll words Done before now
done_answers law words x outputs before now r made =
    answers_all words Done before now (λ files told e ends. inl (done e (files_alone law words (held_in files) x outputs e (accepted_told words x before files r told) made ends)))
  where
    done : (e : Ending) → (other : Made) × AreMade x (Ok other) × (e ≡ ending_of (Ok (record { accepts = x; made = other }))) → Done ≡ e.status
    done e other = sym (status_is e (ending_of (Ok (record { accepts = x; made = other.0 }))) other.2)

-- a write that was refused is of one of the files
stopped_writes : (role : Role) (outputs : List Output) (before now : Option Files) → IsStopped role outputs before now → Writes role outputs
stopped_writes role [] before now stopped = stopped
stopped_writes role (output ∷ outputs) before now (inl here) = inl here.0
stopped_writes role (output ∷ outputs) before now (inr later) = inr (stopped_writes role outputs (stored output.name output.bytes before) now later)

files_stopped : OneOfEach → (x : Accepts) → IsAccepted x → (role : Role) (outputs : List Output) (other : Made) (before now : Option Files) → AreFilesOf x outputs → AreMade x (Ok other) → IsStopped role outputs before now
    → Writes role (files_of x.job other)
unfolding AreFilesOf
files_stopped law x ok role outputs other before now made again stopped =
    same_writes role x.job made.0 other (programs_same law x ok made.0 other made.1 again) (subst (Writes role) made.2 (stopped_writes role outputs before now stopped))

-- where a write is refused
pub stop_answers : OneOfEach → (words : List (List ℕ)) (x : Accepts) (outputs : List Output) (status : Status) (before between now : ShelfState) → (given : Reading) × MayRead before.files given × (accepted words given ≡ Ok x) → AreFilesOf x outputs
    → between.write_faults ≡ before.write_faults → Stops status outputs between now → AnswersAll words status before now
stop_answers law words x outputs status before between now r made same stops = by_status status stops
  where
    ok : IsAccepted x
    ok = accepted_stands words r.0 x r.2

    so : (role : Role) → Stops (WriteFault role) outputs between now → (files : Files) (e : Ending) → (other : Made) × AreMade x (Ok other) × (e ≡ ending_of (Ok (record { accepts = x; made = other })))
        → IsAnswer (Ends words) files e (WriteFault role) before now
    so role stops files e other =
        inr (inr (inr (
          role,
          refl,
          subst (λ (e : Ending). Writes role e.outputs) (sym other.2) (files_stopped law x ok role outputs other.0 between.files now.files made other.1 stops.1),
          subst (λ n. Rose n now.write_faults) same stops.0,
        )))

    by_status : (s : Status) → Stops s outputs between now → AnswersAll words s before now
    by_status Done stops = absurd stops
    by_status (Usage word) stops = absurd stops
    by_status (RefusedJob error) stops = absurd stops
    by_status (Gerber role error) stops = absurd stops
    by_status (RefusedDrill error) stops = absurd stops
    by_status (RefusedOutline error) stops = absurd stops
    by_status (Ngc role fault line) stops = absurd stops
    by_status (Watch watcher at) stops = absurd stops
    by_status (Cell i j line) stops = absurd stops
    by_status (TooLong role) stops = absurd stops
    by_status (Limit hit) stops = absurd stops
    by_status (ReadFault role) stops = absurd stops
    by_status Memory stops = memory_answers words before now
    by_status (WriteFault role) stops =
        answers_all words (WriteFault role) before now
        (λ files told e ends. so role stops files e (files_alone law words (held_in files) x outputs e (accepted_told words x before files r told) made ends))

-- ---- what is done before any line is put

pub refusal_works : (words : List (List ℕ)) (status : Status) (before now : ShelfState) → OnlyReads before now → Refuses (λ given s. accepted words given ≡ Err s) status before now → Works (Ends words) status before now
refusal_works words status before now keeps r =
    works_refused (Ends words) status before now keeps (refuses_weaker (λ given s. accepted words given ≡ Err s) (λ given s. Ends words given (refusal s)) status before now (ends_refused words) r)

pub plan_works : (words : List (List ℕ)) (x : Accepts) (status : Status) (before now : ShelfState) → OnlyReads before now → (given : Reading) × MayRead before.files given × (accepted words given ≡ Ok x)
    → (status ≡ Memory) ⊎ AreMade x (Err status) → Works (Ends words) status before now
plan_works words x status before now keeps r (inl memory) = subst (λ s. Works (Ends words) s before now) (sym memory) (inl keeps.files)
plan_works words x status before now keeps r (inr refused) = by_kind (made_refusal x status refused)
  where
    ends : (s : Status) → status ≡ s → (given : Reading) × MayRead before.files given × Ends words given (refusal s)
    ends s is = (r.0, r.1, ends_limited words r.0 x s r.2 (subst (λ s. AreMade x (Err s)) is refused))

    by_kind : IsPlanRefusal status → Works (Ends words) status before now
    by_kind (inl limit) = subst (λ s. Works (Ends words) s before now) (sym limit.1) (keeps.files, keeps.writes, ends (Limit limit.0) limit.1)
    by_kind (inr outline) = subst (λ s. Works (Ends words) s before now) (sym outline.1) (keeps.files, keeps.writes, ends (RefusedOutline outline.0) outline.1)

-- such a refusal is no usage
not_usage : (status : Status) (word : ℕ) → (status ≡ Memory) ⊎ IsPlanRefusal status → status ≡ Usage word → ⊥
not_usage status word (inl memory) e = apart (sym memory ∙ e)
  where
    apart : Memory ≡ Usage word → ⊥
    apart e = cc
not_usage status word (inr (inl limit)) e = apart limit.0 (sym limit.1 ∙ e)
  where
    apart : (hit : LimitHit) → Limit hit ≡ Usage word → ⊥
    apart hit e = cc
not_usage status word (inr (inr outline)) e = apart outline.0 (sym outline.1 ∙ e)
  where
    apart : (error : OutlineError) → RefusedOutline error ≡ Usage word → ⊥
    apart error e = cc

pub plan_usage : (words : List (List ℕ)) (x : Accepts) (status : Status) → IsExactUsage (words_of words) Done → (status ≡ Memory) ⊎ AreMade x (Err status) → IsExactUsage (words_of words) status
plan_usage words x status accepted refused = record { only = λ word e. absurd (not_usage status word (kind refused) e); comes = λ word e. absurd (never word (accepted.comes word e)) }
  where
    kind : (status ≡ Memory) ⊎ AreMade x (Err status) → (status ≡ Memory) ⊎ IsPlanRefusal status
    kind (inl memory) = inl memory
    kind (inr refused) = inr (made_refusal x status refused)

    never : (word : ℕ) → (Done ≡ Usage word) ⊎ (Done ≡ Memory) → ⊥
    never word (inl e) = cc
    never word (inr e) = cc

files_end : (words : List (List ℕ)) (x : Accepts) (outputs : List Output) (given : Reading) → accepted words given ≡ Ok x → AreFilesOf x outputs
    → (e : Ending) × Ends words given e × (e.status ≡ Done) × (outputs ≡ e.outputs)
unfolding AreFilesOf
files_end words x outputs given e made =
    let m : Milled = record { accepts = x; made = made.0 } in
    (ending_of (Ok m), ends_done words given m e made.1, refl, made.2)

pub done_works : (words : List (List ℕ)) (x : Accepts) (outputs : List Output) (before between now : ShelfState) → between.files ≡ before.files → (given : Reading) × MayRead before.files given × (accepted words given ≡ Ok x)
    → AreFilesOf x outputs → now.files ≡ all_stored outputs between.files → Works (Ends words) Done before now
done_works words x outputs before between now same r made stored =
    let f = files_end words x outputs r.0 r.2 made in
    (r.0, r.1, f.0, f.1, (f.2, stored ∙ ap (all_stored outputs) same ∙ ap (λ o. all_stored o before.files) f.3))

files_not_lines : (x : Accepts) (outputs : List Output) (before now : Option Files) → AreFilesOf x outputs → IsStopped roles.Lines outputs before now → ⊥
unfolding AreFilesOf
files_not_lines x outputs before now made stopped = files_not_of_lines x.job made.0 (subst (Writes roles.Lines) made.2 (stopped_writes roles.Lines outputs before now stopped))

pub stop_works : (words : List (List ℕ)) (x : Accepts) (outputs : List Output) (status : Status) (before between now : ShelfState) → OnlyReads before between → (given : Reading) × MayRead before.files given × (accepted words given ≡ Ok x)
    → AreFilesOf x outputs → Stops status outputs between now → Works (Ends words) status before now
stop_works words x outputs status before between now keeps r made stops = by_status status stops
  where
    stopped : (role : Role) → IsStopped role outputs between.files now.files → (e : Ending) × Ends words r.0 e × IsStopped role e.outputs before.files now.files
    stopped role s =
        let f = files_end words x outputs r.0 r.2 made in
        (f.0, f.1, subst (λ o. IsStopped role o before.files now.files) f.3 (subst (λ files. IsStopped role outputs files now.files) keeps.files s))

    by_status : (s : Status) → Stops s outputs between now → Works (Ends words) s before now
    by_status Done stops = absurd stops
    by_status (Usage word) stops = absurd stops
    by_status (RefusedJob error) stops = absurd stops
    by_status (Gerber role error) stops = absurd stops
    by_status (RefusedDrill error) stops = absurd stops
    by_status (RefusedOutline error) stops = absurd stops
    by_status (Ngc role fault line) stops = absurd stops
    by_status (Watch watcher at) stops = absurd stops
    by_status (Cell i j line) stops = absurd stops
    by_status (TooLong role) stops = absurd stops
    by_status (Limit hit) stops = absurd stops
    by_status (ReadFault role) stops = absurd stops
    by_status (WriteFault role) stops =
        let f = stopped role stops.1 in (
          (λ e. files_not_lines x outputs between.files now.files made (subst (λ role. IsStopped role outputs between.files now.files) e stops.1)),
          subst (λ n. Rose n now.write_faults) keeps.write_faults stops.0,
          (r.0, r.1, f.0, f.1, f.2),
        )
    by_status Memory stops =
        let f = stopped stops.0 stops.1 in
        inr (r.0, r.1, f.0, f.1, (stops.0, f.2))
