-- What is accepted of what reads give, step by step.
use Rattle.std.proofs.Common.{◌≡◌, ◌⊎◌, ℕ, List, Some, Result, Ok, Err, inl, inr, refl, sym, ◌∙◌, subst}
use Rattle.std.specs.Prelude.{IfErr}
use Rattle.board_base.specs.declared.places.Side.{Side}
use Rattle.board_base.specs.declared.places.Role.{Role}
use Rattle.board_base.specs.declared.places.Role.TheVariants as roles
use Rattle.board_base.specs.Shelf.{ShelfState, OnlyReads}
use Rattle.rs274_sim.specs.Reading.{LineFault, program_of}
use Rattle.gerber_image.specs.Outcome.{outcome_of}
use Rattle.job_file.specs.declared.job.Job.{Job}
use Rattle.job_file.specs.Read.{job_read}
use Rattle.endings.specs.declared.status.Status.{Status}
use Rattle.endings.specs.declared.status.Status.TheVariants.{Done, Usage, Job as RefusedJob, Gerber, Drill, Outline, TooLong, Limit, ReadFault, WriteFault, Ngc, Watch, Cell, Memory}
use Rattle.endings.specs.Answers.{usage, MakesOf}
use Rattle.endings.specs.Reads.{Reading, MayRead}
use Rattle.endings.specs.Words.{IsExactUsage}
use Rattle.endings.specs.Works.{Refuses, Gives, status_of}
use Rattle.endings.proofs.ReadingLaws.{some_reading, still}
use Rattle.endings.proofs.UsageLaws.{usage_refused, usage_accepted}
use Rattle.mill_inputs.specs.Accepted.{job_bytes, image}
use Rattle.mill_inputs.proofs.StepLaws.{carries_all, refuses_onto, joins, carries_second, from_earlier, IsOfBytes, err_is, if_err_then, made_refuses, made_refuses_as}
use Rattle.mill_inputs.proofs.ReadLaws.{IsReadOf, job_text_refused}
use Rattle.mill_inputs.proofs.InputLaws.{is_job}
use Rattle.mill_inputs.proofs.ContentLaws.{painted_refused}
use Rattle.mill_inputs.proofs.AcceptLaws.{job_refusal, not_both, usage_only, usage_not_done}
use Rattle.simulation.specs.Answers.{answers_of}
use Rattle.simulation.specs.Simulated.{read_as}
use Rattle.checking.specs.declared.acceptance.Accepted.{Accepted as AcceptedStruct}
use Rattle.checking.specs.Words.{CheckWords, words_of}
use Rattle.checking.specs.Accepted.{accepts_of, side_job_in, layer_role, Inputs, inputs_of, contents_of, accepted}
use Rattle.checking.proofs.ReadLaws.{IsOfInputs, inputs_refused, job_apart}

-- ---- what the files are refused for

-- a refusal of what was read
abbrev pub IsOfContents : Status → Type 0
IsOfContents (Ngc role fault line) = Unit {0}
IsOfContents status = IsOfBytes status

of_bytes : (role : Role) (bytes : List ℕ) → IfErr (image role bytes) IsOfContents
of_bytes role bytes = weaker (image role bytes) (painted_refused role (outcome_of bytes))
  where
    more : (s : Status) → IsOfBytes s → IsOfContents s
    more Done h = h
    more (Usage word) h = h
    more (RefusedJob error) h = h
    more (Gerber role error) h = h
    more (Drill error) h = h
    more (Outline error) h = h
    more (TooLong role) h = h
    more (Limit hit) h = h
    more (ReadFault role) h = h
    more (WriteFault role) h = h
    more (Ngc role fault line) h = tt
    more (Watch watcher at) h = h
    more (Cell i j line) h = h
    more Memory h = h

    weaker : {A : Type 0} (r : Result A Status) → IfErr r IsOfBytes → IfErr r IsOfContents
    weaker (Ok x) h = tt
    weaker (Err s) h = more s h

lines_refused : (role : Role) {A : Type 0} (r : Result A (LineFault × ℕ)) → IfErr (read_as role r) IsOfContents
lines_refused role (Ok x) = tt
lines_refused role (Err fault) = tt

pub contents_refused : (side : Side) (job : Job) (raw : Inputs) → IfErr (contents_of side job raw) IsOfContents
unfolding contents_of
contents_refused side job raw =
    if_err_then IsOfContents (image (layer_role side) raw.layer) _ (of_bytes (layer_role side) raw.layer) (λ painted.
    if_err_then IsOfContents (read_as roles.Ngc (program_of raw.sources.program)) _ (lines_refused roles.Ngc (program_of raw.sources.program)) (λ lines.
    if_err_then IsOfContents (read_as roles.Probes (answers_of raw.sources.probes)) _ (lines_refused roles.Probes (answers_of raw.sources.probes)) (λ answers. tt)))

-- ---- the first refusal is that of all

-- a refusal of the words
words_refused : (words : List (List ℕ)) (given : Reading) (word : ℕ) → words_of words ≡ Err word → accepted words given ≡ Err (Usage word)
unfolding accepted
words_refused words given word e = rw e refl

-- a refusal of the job's file
text_refused : (words : List (List ℕ)) (w : CheckWords) → words_of words ≡ Ok w → (given : Reading) (s : Status) → job_bytes w.job given ≡ Err s → accepted words given ≡ Err s
unfolding accepted
text_refused words w e given s f = rw (e, f) refl

-- a refusal of the job
job_fails : (words : List (List ℕ)) (w : CheckWords) (text : List ℕ) (given : Reading) → words_of words ≡ Ok w → job_bytes w.job given ≡ Ok text
    → (s : Status) → side_job_in w.side text words ≡ Err s → accepted words given ≡ Err s
unfolding accepted
job_fails words w text given e f s bad = rw (e, f, bad) refl

-- a refusal of a file
inputs_fail : (words : List (List ℕ)) (w : CheckWords) (text : List ℕ) (job : Job) → words_of words ≡ Ok w → side_job_in w.side text words ≡ Ok job
    → (given : Reading) (s : Status) → job_bytes w.job given ≡ Ok text → inputs_of w job given ≡ Err s → accepted words given ≡ Err s
unfolding accepted
inputs_fail words w text job e good given s f bad = rw (e, f, good, bad) refl

-- all but what the files stand for
all_read : (words : List (List ℕ)) (w : CheckWords) (text : List ℕ) (job : Job) (raw : Inputs) (given : Reading) → words_of words ≡ Ok w → side_job_in w.side text words ≡ Ok job
    → job_bytes w.job given ≡ Ok text → inputs_of w job given ≡ Ok raw → accepted words given ≡ contents_of w.side job raw
unfolding accepted
all_read words w text job raw given e good f g = rw (e, f, good, g) refl

-- ---- the ways out

abbrev pub RefusesAll : List (List ℕ) → Status → ShelfState → ShelfState → Type 0
RefusesAll words status before now = Refuses (λ given s. accepted words given ≡ Err s) status before now

-- the words are refused
pub refuses_words : (words : List (List ℕ)) (word : ℕ) (status : Status) (before now : ShelfState) → words_of words ≡ Err word → (status ≡ Usage word) ⊎ (status ≡ Memory) → RefusesAll words status before now
refuses_words words word status before now e (inl is) =
    subst (λ s. RefusesAll words s before now) (sym is) ((some_reading before.files).0, (some_reading before.files).1, words_refused words (some_reading before.files).0 word e)
refuses_words words word status before now e (inr is) = subst (λ s. RefusesAll words s before now) (sym is) tt

-- the job's file is refused
pub refuses_text : (words : List (List ℕ)) (w : CheckWords) (status : Status) (before now : ShelfState) → words_of words ≡ Ok w
    → Refuses (λ given s. job_bytes w.job given ≡ Err s) status before now → RefusesAll words status before now
refuses_text words w status before now e r =
    refuses_onto (λ given s. job_bytes w.job given ≡ Err s) (λ given s. accepted words given ≡ Err s) status before before now (still before)
    (carries_all before.files (λ given s. job_bytes w.job given ≡ Err s) (λ given s. accepted words given ≡ Err s) (text_refused words w e)) r

-- the job is refused
pub refuses_job : {X : Type 0} (view : X → Job) (words : List (List ℕ)) (w : CheckWords) (text : List ℕ) (status : Status) (before now : ShelfState) → words_of words ≡ Ok w
    → (given : Reading) × MayRead before.files given × (job_bytes w.job given ≡ Ok text) → MakesOf view (side_job_in w.side text words) (Err status) → RefusesAll words status before now
refuses_job view words w text status before now e given bad =
    made_refuses view (side_job_in w.side text words) status before now (λ given s. accepted words given ≡ Err s) (job_refusal (job_read text words (Some w.side))) given.0 given.1 (job_fails words w text given.0 e given.2) bad

-- a file is refused
pub refuses_inputs : (words : List (List ℕ)) (w : CheckWords) (text : List ℕ) (job : Job) (status : Status) (before between now : ShelfState) → OnlyReads before between → words_of words ≡ Ok w
    → (given : Reading) × MayRead before.files given × (job_bytes w.job given ≡ Ok text) → side_job_in w.side text words ≡ Ok job
    → Refuses (λ given s. inputs_of w job given ≡ Err s) status between now → RefusesAll words status before now
refuses_inputs words w text job status before between now keeps e given good r =
    refuses_onto (λ given s. inputs_of w job given ≡ Err s) (λ given s. accepted words given ≡ Err s) status before between now keeps
    (carries_second before.files is_job (job_bytes w.job) text (inputs_of w job) (job_apart w.job w job) given (λ given s. accepted words given ≡ Err s) (inputs_fail words w text job e good)) r

-- what the files stand for is made, or one of them is refused
pub gives_contents : (words : List (List ℕ)) (w : CheckWords) (text : List ℕ) (job : Job) (raw : Inputs) (before between now : ShelfState) (result : Result AcceptedStruct Status) → OnlyReads before between
    → words_of words ≡ Ok w → (given : Reading) × MayRead before.files given × (job_bytes w.job given ≡ Ok text) → side_job_in w.side text words ≡ Ok job
    → (given : Reading) × MayRead between.files given × (inputs_of w job given ≡ Ok raw) → MakesOf accepts_of (contents_of w.side job raw) result → Gives accepts_of before now (accepted words) result
gives_contents words w text job raw before between now result keeps e first good second made = by_result result made
  where
    later : (given : Reading) × MayRead before.files given × (inputs_of w job given ≡ Ok raw)
    later = from_earlier before between (λ given. inputs_of w job given ≡ Ok raw) keeps second

    reading : (given : Reading) × MayRead before.files given × (accepted words given ≡ contents_of w.side job raw)
    reading =
        let j = joins before.files is_job (job_bytes w.job) text (inputs_of w job) (job_apart w.job w job) first.0 first.1 first.2 later.0 later.1 in
        (j.given, j.may, all_read words w text job raw j.given e good j.gives (j.same ∙ later.2))

    by_result : (r : Result AcceptedStruct Status) → MakesOf accepts_of (contents_of w.side job raw) r → Gives accepts_of before now (accepted words) r
    by_result (Ok x) made = (reading.0, reading.1, reading.2 ∙ made)
    by_result (Err status) made =
        made_refuses_as IsOfContents (λ role h. h) (λ role h. h) accepts_of (contents_of w.side job raw) status before now (λ given s. accepted words given ≡ Err s)
        (contents_refused w.side job raw) reading.0 reading.1 (λ s bad. reading.2 ∙ bad) made

-- ---- exactly the words that are wrong are a usage

not_read : (role : Role) (word : ℕ) → IsReadOf role (Usage word) → ⊥
not_read role word h = h

not_files : (word : ℕ) → IsOfInputs (Usage word) → ⊥
not_files word (inl (inl front)) = front
not_files word (inl (inr back)) = back
not_files word (inr (inl program)) = program
not_files word (inr (inr probes)) = probes

only_words : (words : List (List ℕ)) (given : Reading) (word : ℕ) → accepted words given ≡ Err (Usage word) → words_of words ≡ Err word
unfolding accepted
only_words words given word e =
    usage_only (words_of words) _ word (λ w.
    not_both (job_bytes w.job given) _ (Usage word) (err_is (IsReadOf roles.Job) (job_bytes w.job given) (Usage word) (job_text_refused w.job given)) (λ text.
    not_both (side_job_in w.side text words) _ (Usage word) (err_is IsOfBytes (side_job_in w.side text words) (Usage word) (job_refusal (job_read text words (Some w.side)))) (λ job.
    not_both (inputs_of w job given) _ (Usage word) (λ bad. not_files word (err_is IsOfInputs (inputs_of w job given) (Usage word) (inputs_refused w job given) bad)) (λ raw.
    err_is IsOfContents (contents_of w.side job raw) (Usage word) (contents_refused w.side job raw))))) e

-- words that are refused
pub usage_of_words : (words : List (List ℕ)) (word : ℕ) (status : Status) → words_of words ≡ Err word → (status ≡ Usage word) ⊎ (status ≡ Memory) → IsExactUsage (words_of words) status
usage_of_words words word status e (inl is) = subst (IsExactUsage (words_of words)) (sym is) (usage_refused (words_of words) word e)
usage_of_words words word status e (inr is) = subst (IsExactUsage (words_of words)) (sym is) (record { only = λ n f. absurd (apart n f); comes = λ n f. inr refl })
  where
    apart : (n : ℕ) → Memory ≡ Usage n → ⊥
    apart n f = cc

-- words that are accepted
pub usage_behind_words : (words : List (List ℕ)) (w : CheckWords) (before now : ShelfState) (result : Result AcceptedStruct Status) → words_of words ≡ Ok w → Gives accepts_of before now (accepted words) result
    → IsExactUsage (words_of words) (status_of result)
usage_behind_words words w before now (Ok x) e r = usage_accepted (words_of words) w Done e apart
  where
    apart : (word : ℕ) → Done ≡ Usage word → ⊥
    apart word f = cc
usage_behind_words words w before now (Err status) e r = usage_accepted (words_of words) w status e (λ word is. not_word word (subst (λ s. RefusesAll words s before now) is r))
  where
    apart : (word : ℕ) → words_of words ≡ Err word → ⊥
    apart word f = cc

    not_word : (word : ℕ) → RefusesAll words (Usage word) before now → ⊥
    not_word word r = apart word (only_words words r.0 word r.2)

-- ---- no refusal is Done

files_not_done : IsOfInputs Done → ⊥
files_not_done (inl (inl front)) = front
files_not_done (inl (inr back)) = back
files_not_done (inr (inl program)) = program
files_not_done (inr (inr probes)) = probes

pub accepted_not_done : (words : List (List ℕ)) (given : Reading) → accepted words given ≡ Err Done → ⊥
unfolding accepted
accepted_not_done words given e =
    not_both (usage (words_of words)) _ Done (usage_not_done (words_of words)) (λ w.
    not_both (job_bytes w.job given) _ Done (err_is (IsReadOf roles.Job) (job_bytes w.job given) Done (job_text_refused w.job given)) (λ text.
    not_both (side_job_in w.side text words) _ Done (err_is IsOfBytes (side_job_in w.side text words) Done (job_refusal (job_read text words (Some w.side)))) (λ job.
    not_both (inputs_of w job given) _ Done (λ bad. files_not_done (err_is IsOfInputs (inputs_of w job given) Done (inputs_refused w job given) bad)) (λ raw.
    err_is IsOfContents (contents_of w.side job raw) Done (contents_refused w.side job raw))))) e
