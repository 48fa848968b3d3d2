-- The endings of the command that its steps come to.
use Rattle.std.proofs.Common.{◌≡◌, ◌≢◌, ◌⊎◌, ℕ, ◌≤◌, List, [], Result, Ok, Err, inl, inr, refl, sym, ap, ◌∙◌, subst}
use Rattle.board_base.specs.Shelf.{ShelfState}
use Rattle.endings.specs.declared.status.Status.{Status}
use Rattle.endings.specs.declared.status.Status.TheVariants.{Done, Usage, Job as RefusedJob, Gerber, Drill, Outline, TooLong, Limit, ReadFault, WriteFault, Ngc, Watch, Cell, Memory}
use Rattle.endings.specs.Answers.{usage}
use Rattle.endings.specs.Ending.{Ending, refusal, with_ok}
use Rattle.endings.specs.Reads.{Reading, held_in, MayRead}
use Rattle.endings.specs.Steps.{Is, Then}
use Rattle.endings.specs.Works.{Refuses, Works, WorksAlone}
use Rattle.endings.proofs.RunLaws.{works_refused}
use Rattle.endings.proofs.AloneLaws.{ok_some}
use Rattle.mill_inputs.specs.Accepted.{accepted}
use Rattle.mill_inputs.proofs.StepLaws.{IsOfBytes, err_is}
use Rattle.endings.proofs.ReadingLaws.{some_reading, still}
use Rattle.mill_inputs.proofs.ContentLaws.{ok_is}
use Rattle.mill_inputs.proofs.AcceptLaws.{accepted_not_done}
use Rattle.mill_outputs.specs.declared.plans.Plans.{Plans}
use Rattle.mill_outputs.specs.Planned.{IsOneRefusal}
use Rattle.mill_outputs.specs.Mill.{Planning, AsPlanned}
use Rattle.mill_outputs.proofs.PlanLaws.{IsOnly, IsPlanRefusal, err_not_ok, then_first, or_memory, planned_refusal}
use Rattle.sampling.specs.declared.figures.Summary.{Summary}
use Rattle.endings.specs.Words.{IsExactUsage}
use Rattle.endings.proofs.UsageLaws.{usage_accepted}
use Rattle.sampling.specs.Words.{words_of}
use Rattle.sampling.specs.Sampled.{sample_files, mill_words, HasPlans, summary_of, summary_line, Sampled, ending_of, SampleEnds}
use Rattle.sampling.proofs.FileLaws.{accepted_alone}
use Rattle.sampling.proofs.AnswerLaws.{is_only, then_only, milled_apart}

-- ---- what `mill` refuses a board for

-- a refusal of what texts stand for, or of their plans
abbrev pub IsOfBoard : Status → Type 0
IsOfBoard (Outline error) = Unit {0}
IsOfBoard status = IsOfBytes status

of_bytes : (status : Status) → IsOfBytes status → IsOfBoard status
of_bytes Done h = h
of_bytes (Usage word) h = h
of_bytes (RefusedJob error) h = h
of_bytes (Gerber role error) h = h
of_bytes (Drill error) h = h
of_bytes (Outline error) h = tt
of_bytes (TooLong role) h = h
of_bytes (Limit hit) h = h
of_bytes (ReadFault role) h = h
of_bytes (WriteFault role) h = h
of_bytes (Ngc role fault line) h = h
of_bytes (Watch watcher at) h = h
of_bytes (Cell i j line) h = h
of_bytes Memory h = h

of_plans : (status : Status) → IsPlanRefusal status → IsOfBoard status
of_plans status (inl limit) = subst IsOfBoard (sym limit.1) tt
of_plans status (inr outline) = subst IsOfBoard (sym outline.1) tt

milled_refused : (pads : ℕ) (status : Status) → pads ≤ 400 → AsPlanned mill_words (held_in (sample_files pads)) (Err status) → IsOfBoard status
milled_refused pads status few (inl bad) = of_bytes status (err_is IsOfBytes (accepted mill_words (held_in (sample_files pads))) status (accepted_alone pads few) (sym bad))
milled_refused pads status few (inr (x, good, inl refused)) = of_plans status (planned_refusal x status refused)
milled_refused pads status few (inr (x, good, inr (plans, planned, made))) = absurd (err_not_ok _ status made)

-- ---- the answers of the command

-- the last step, and the last two
abbrev told : ℕ → Planning → Result Summary Status → Type 0
told pads m = Is (Ok (summary_of pads m.plans))

abbrev milled : ℕ → Result Summary Status → Type 0
milled pads = Then (AsPlanned mill_words (held_in (sample_files pads))) (told pads)

-- wrong words are
usage_only : (words : List (List ℕ)) (word : ℕ) → words_of words ≡ Err word → IsOnly (Sampled words) (Usage word)
usage_only words word e = then_first (Is (usage (words_of words))) milled (Usage word) (is_only (usage (words_of words)) (Usage word) (ap usage e))

-- so is what `mill` refuses
board_only : (words : List (List ℕ)) (pads : ℕ) (status : Status) → words_of words ≡ Ok pads → IsOnly (AsPlanned mill_words (held_in (sample_files pads))) status → IsOnly (Sampled words) status
board_only words pads status e only =
    then_only (usage (words_of words)) pads milled status (ap usage e) (then_first (AsPlanned mill_words (held_in (sample_files pads))) (told pads) status only)

-- plans are told
sampled : (words : List (List ℕ)) (pads : ℕ) (plans : Plans) → words_of words ≡ Ok pads → HasPlans mill_words (held_in (sample_files pads)) plans → Sampled words (Ok (summary_of pads plans))
sampled words pads plans e has = (pads, sym (ap usage e), (record { accepts = has.0; plans = plans }, has.1, refl))

-- and then there is no refusal
sampled_apart : (words : List (List ℕ)) (pads : ℕ) (plans : Plans) (status : Status) → words_of words ≡ Ok pads → HasPlans mill_words (held_in (sample_files pads)) plans → Sampled words (Err status) → ⊥
sampled_apart words pads plans status e has (inl bad) = err_not_ok pads status (bad ∙ ap usage e)
sampled_apart words pads plans status e has (inr (n, good, inl refused)) =
    let same : n ≡ pads = ok_is n pads (good ∙ ap usage e) in
    milled_apart mill_words (held_in (sample_files pads)) _ status has.1 (subst (λ k. AsPlanned mill_words (held_in (sample_files k)) (Err status)) same refused)
sampled_apart words pads plans status e has (inr (n, good, inr (m, milled, made))) = err_not_ok _ status made

-- ---- what was done before any line is put

ends_so : (words : List (List ℕ)) (given : Reading) (answer : Result Summary Status) → Sampled words answer → SampleEnds words given (ending_of answer)
unfolding SampleEnds
ends_so words given answer h = (answer, h, refl)

refuses_usage : (words : List (List ℕ)) (word : ℕ) (shelf : ShelfState) → Sampled words (Err (Usage word)) → Refuses (λ given s. SampleEnds words given (refusal s)) (Usage word) shelf shelf
refuses_usage words word shelf h = let r = some_reading shelf.files in (r.0, r.1, ends_so words r.0 (Err (Usage word)) h)

refuses_board : (words : List (List ℕ)) (status : Status) (shelf : ShelfState) → IsOfBoard status → Sampled words (Err status) → Refuses (λ given s. SampleEnds words given (refusal s)) status shelf shelf
refuses_board words status shelf of h = by_status status of h
  where
    so : (s : Status) → Sampled words (Err s) → (given : Reading) × MayRead shelf.files given × SampleEnds words given (refusal s)
    so s h = let r = some_reading shelf.files in (r.0, r.1, ends_so words r.0 (Err s) h)

    by_status : (s : Status) → IsOfBoard s → Sampled words (Err s) → Refuses (λ given s. SampleEnds words given (refusal s)) s shelf shelf
    by_status Done of h = absurd of
    by_status (Usage word) of h = absurd of
    by_status (RefusedJob error) of h = so (RefusedJob error) h
    by_status (Gerber role error) of h = so (Gerber role error) h
    by_status (Drill error) of h = so (Drill error) h
    by_status (Outline error) of h = so (Outline error) h
    by_status (TooLong role) of h = absurd of
    by_status (Limit hit) of h = so (Limit hit) h
    by_status (ReadFault role) of h = absurd of
    by_status (WriteFault role) of h = absurd of
    by_status (Ngc role fault line) of h = absurd of
    by_status (Watch watcher at) of h = absurd of
    by_status (Cell i j line) of h = absurd of
    by_status Memory of h = tt

-- wrong words
pub usage_works : (words : List (List ℕ)) (word : ℕ) → words_of words ≡ Err word → (shelf : ShelfState) → Works (SampleEnds words) (Usage word) shelf shelf
usage_works words word e shelf = works_refused (SampleEnds words) (Usage word) shelf shelf (still shelf) (refuses_usage words word shelf (usage_only words word e).0)

-- want of memory
pub memory_works : (words : List (List ℕ)) (shelf : ShelfState) → Works (SampleEnds words) Memory shelf shelf
memory_works words shelf = inl refl

-- what `mill` refuses
pub board_works : (words : List (List ℕ)) (pads : ℕ) (status : Status) → words_of words ≡ Ok pads → pads ≤ 400 → IsOneRefusal (AsPlanned mill_words (held_in (sample_files pads))) status
    → (shelf : ShelfState) → Works (SampleEnds words) status shelf shelf
board_works words pads status e few (inl memory) shelf = subst (λ s. Works (SampleEnds words) s shelf shelf) (sym memory) (memory_works words shelf)
board_works words pads status e few (inr only) shelf =
    works_refused (SampleEnds words) status shelf shelf (still shelf) (refuses_board words status shelf (milled_refused pads status few only.0) (board_only words pads status e only).0)

line_some : (s : Summary) → summary_line s ≢ []
line_some s e = cc

-- a board that was milled
pub sample_works : (words : List (List ℕ)) (pads : ℕ) (plans : Plans) (lines : List ℕ) → words_of words ≡ Ok pads → HasPlans mill_words (held_in (sample_files pads)) plans → lines ≡ summary_line (summary_of pads plans)
    → (shelf : ShelfState) → WorksAlone (SampleEnds words) lines Done shelf shelf
sample_works words pads plans lines e has is shelf =
    let r = some_reading shelf.files in
    record {
      comes = tt;
      files = refl;
      writes = refl;
      some = subst (λ lines. with_ok Done lines ≢ []) (sym is) (ok_some Done (summary_line (summary_of pads plans)) (line_some (summary_of pads plans)));
      ending = (r.0, r.1, ending_of (Ok (summary_of pads plans)), ends_so words r.0 (Ok (summary_of pads plans)) (sampled words pads plans e has), ap (λ lines. made lines) (sym is));
    }
  where
    made : List ℕ → Ending
    made lines = record { status = Done; outputs = []; lines = with_ok Done lines }

-- ---- what is answered to each ending

-- a refusal is that of each, or memory was wanting
refusal_alone : (words : List (List ℕ)) (status : Status) → IsOneRefusal (Sampled words) status → (given : Reading) (e : Ending) → SampleEnds words given e → (status ≡ e.status) ⊎ (status ≡ Memory)
unfolding SampleEnds
refusal_alone words status (inl memory) given e ends = inr memory
refusal_alone words status (inr only) given e ends = inl (sym (ap (λ (e : Ending). e.status) (ends.2 ∙ ap ending_of (only.1 ends.0 ends.1))))

pub usage_alone : (words : List (List ℕ)) (word : ℕ) → words_of words ≡ Err word → (given : Reading) (e : Ending) → SampleEnds words given e → (Usage word ≡ e.status) ⊎ (Usage word ≡ Memory)
usage_alone words word e = refusal_alone words (Usage word) (inr (usage_only words word e))

pub board_alone : (words : List (List ℕ)) (pads : ℕ) (status : Status) → words_of words ≡ Ok pads → IsOneRefusal (AsPlanned mill_words (held_in (sample_files pads))) status
    → (given : Reading) (e : Ending) → SampleEnds words given e → (status ≡ e.status) ⊎ (status ≡ Memory)
board_alone words pads status e refused = refusal_alone words status (or_memory (AsPlanned mill_words (held_in (sample_files pads))) (Sampled words) status (board_only words pads status e) refused)

-- a board that was milled has endings that are Done
pub sample_alone : (words : List (List ℕ)) (pads : ℕ) (plans : Plans) → words_of words ≡ Ok pads → HasPlans mill_words (held_in (sample_files pads)) plans
    → (given : Reading) (e : Ending) → SampleEnds words given e → (Done ≡ e.status) ⊎ (Done ≡ Memory)
unfolding SampleEnds
sample_alone words pads plans e has given end ends = by_answer ends.0 ends.1 ends.2
  where
    by_answer : (answer : Result Summary Status) → Sampled words answer → end ≡ ending_of answer → (Done ≡ end.status) ⊎ (Done ≡ Memory)
    by_answer (Ok s) h is = inl (sym (ap (λ (e : Ending). e.status) is))
    by_answer (Err status) h is = absurd (sampled_apart words pads plans status e has h)

-- no refusal is Done
sampled_not_done : (words : List (List ℕ)) → Sampled words (Err Done) → ⊥
sampled_not_done words (inl bad) = apart (words_of words) bad
  where
    apart : (r : Result ℕ ℕ) → ◌≡◌ {A = Result ℕ Status} (Err Done) (usage r) → ⊥
    apart (Ok n) e = cc
    apart (Err word) e = cc
sampled_not_done words (inr (n, good, inl (inl bad))) = accepted_not_done mill_words (held_in (sample_files n)) (sym bad)
sampled_not_done words (inr (n, good, inl (inr (x, ok, inl refused)))) = of_plans Done (planned_refusal x Done refused)
sampled_not_done words (inr (n, good, inl (inr (x, ok, inr (plans, planned, is))))) = err_not_ok _ Done is
sampled_not_done words (inr (n, good, inr (m, milled, is))) = err_not_ok _ Done is

-- an ending that is Done has a line
pub done_lines : (words : List (List ℕ)) (given : Reading) (e : Ending) → SampleEnds words given e → e.status ≡ Done → e.lines ≢ []
unfolding SampleEnds
done_lines words given end ends done = by_answer ends.0 ends.1 ends.2
  where
    by_answer : (answer : Result Summary Status) → Sampled words answer → end ≡ ending_of answer → end.lines ≢ []
    by_answer (Ok s) h is = subst (λ (e : Ending). e.lines ≢ []) (sym is) (ok_some Done (summary_line s) (line_some s))
    by_answer (Err status) h is = absurd (sampled_not_done words (subst (λ s. Sampled words (Err s)) (sym (ap (λ (e : Ending). e.status) is) ∙ done) h))

-- ---- Usage, and Done

pub usage_done : (words : List (List ℕ)) (pads : ℕ) → words_of words ≡ Ok pads → IsExactUsage (words_of words) Done
usage_done words pads e = usage_accepted (words_of words) pads Done e (λ word f. apart word f)
  where
    apart : (word : ℕ) → Done ≡ Usage word → ⊥
    apart word e = cc

pub usage_memory : (words : List (List ℕ)) (pads : ℕ) → words_of words ≡ Ok pads → IsExactUsage (words_of words) Memory
usage_memory words pads e = usage_accepted (words_of words) pads Memory e (λ word f. apart word f)
  where
    apart : (word : ℕ) → Memory ≡ Usage word → ⊥
    apart word e = cc

-- a refusal of a board is neither
board_is : (pads : ℕ) (status : Status) → pads ≤ 400 → IsOneRefusal (AsPlanned mill_words (held_in (sample_files pads))) status → IsOfBoard status
board_is pads status few (inl memory) = subst IsOfBoard (sym memory) tt
board_is pads status few (inr only) = milled_refused pads status few only.0

pub usage_board : (words : List (List ℕ)) (pads : ℕ) (status : Status) → words_of words ≡ Ok pads → pads ≤ 400 → IsOneRefusal (AsPlanned mill_words (held_in (sample_files pads))) status → IsExactUsage (words_of words) status
usage_board words pads status e few refused = usage_accepted (words_of words) pads status e (λ word is. subst IsOfBoard is (board_is pads status few refused))

pub board_not_done : (pads : ℕ) (status : Status) → pads ≤ 400 → IsOneRefusal (AsPlanned mill_words (held_in (sample_files pads))) status → status ≡ Done → ⊥
board_not_done pads status few refused is = subst IsOfBoard is (board_is pads status few refused)
