-- What is accepted of what reads give, step by step.
use Rattle.std.proofs.Common.{◌≡◌, ◌⊎◌, ℕ, List, Option, Some, None, Result, Ok, Err, inl, inr, refl, sym, ap, ◌∙◌, subst}
use Rattle.std.specs.Prelude.{IfOk, IfErr, is_some}
use Rattle.board_base.specs.declared.places.Role.{Role}
use Rattle.board_base.specs.declared.places.Role.TheVariants as roles
use Rattle.board_base.specs.Shelf.{ShelfState, OnlyReads}
use Rattle.board_base.specs.Files.{Files}
use Rattle.board_base.specs.Binds.{◌>>=◌}
use Rattle.job_file.specs.declared.job.Job.{Job}
use Rattle.job_file.specs.declared.error.JobKind.{JobKind}
use Rattle.job_file.specs.declared.error.JobKind.TheVariants as jobs
use Rattle.job_file.specs.declared.error.JobError.{JobError}
use Rattle.job_file.specs.Read.{job_read}
use Rattle.endings.specs.declared.status.Status.{Status}
use Rattle.endings.specs.declared.status.Status.TheVariants.{Done, Usage, Job as RefusedJob, Gerber, Drill, Outline, TooLong, Limit, ReadFault, WriteFault, Ngc, Watch, Cell, Memory}
use Rattle.endings.specs.Reads.{Reading, held_in, MayRead, without, input}
use Rattle.endings.specs.Answers.{usage, ToldAnd, MakesOf}
use Rattle.endings.specs.Works.{Refuses, Gives, status_of}
use Rattle.mill_inputs.specs.declared.acceptance.Accepted.{Accepted as AcceptedStruct}
use Rattle.endings.specs.Words.{IsExactUsage}
use Rattle.mill_inputs.specs.Words.{words_of}
use Rattle.mill_inputs.specs.Accepted.{Accepts, accepts_of, IsNamed, IsDrillOf, job_bytes, job_refused, job_or_refused, job_in, input_if, Inputs, inputs_of, contents_of, accepted}
use Rattle.mill_inputs.proofs.StepLaws.{carries_all, refuses_onto, joins, carries_second, from_earlier, IsOfBytes, err_is, made_refuses}
use Rattle.endings.proofs.ReadingLaws.{some_reading, still}
use Rattle.mill_inputs.proofs.ReadLaws.{IsReadOf, job_text_refused}
use Rattle.mill_inputs.proofs.InputLaws.{IsOfFiles, inputs_refused, is_job, job_apart}
use Rattle.job_file.proofs.FitLaws.{step}
use Rattle.mill_inputs.proofs.ContentLaws.{ok_is, contents_refused, AreOf, contents_there}

-- ---- the first refusal is that of all

-- a refusal of the words
pub words_refused : (words : List (List ℕ)) (given : Reading) (word : ℕ) → words_of words ≡ Err word → accepted words given ≡ Err (Usage word)
unfolding accepted
words_refused words given word e = rw e refl

-- a refusal of the job's file
text_refused : (words : List (List ℕ)) (place : Option (List ℕ)) → words_of words ≡ Ok place → (given : Reading) (s : Status) → job_bytes place given ≡ Err s → accepted words given ≡ Err s
unfolding accepted
text_refused words place e given s f = rw (e, f) refl

-- a refusal of the job
job_fails : (words : List (List ℕ)) (place : Option (List ℕ)) (text : List ℕ) (given : Reading) → words_of words ≡ Ok place → job_bytes place given ≡ Ok text
    → (s : Status) → job_in text words ≡ Err s → accepted words given ≡ Err s
unfolding accepted
job_fails words place text given e f s bad = rw (e, f, bad) refl

-- a refusal of a file that the job names
inputs_fail : (words : List (List ℕ)) (place : Option (List ℕ)) (text : List ℕ) (job : Job) → words_of words ≡ Ok place → job_in text words ≡ Ok job
    → (given : Reading) (s : Status) → job_bytes place given ≡ Ok text → inputs_of job given ≡ Err s → accepted words given ≡ Err s
unfolding accepted
inputs_fail words place text job e good given s f bad = rw (e, f, good, bad) refl

-- all but what the files stand for
all_read : (words : List (List ℕ)) (place : Option (List ℕ)) (text : List ℕ) (job : Job) (raw : Inputs) (given : Reading) → words_of words ≡ Ok place → job_in text words ≡ Ok job
    → job_bytes place given ≡ Ok text → inputs_of job given ≡ Ok raw → accepted words given ≡ contents_of job raw
unfolding accepted
all_read words place text job raw given e good f g = rw (e, f, good, g) refl

-- ---- the ways out

-- the words are refused
pub refuses_words : (words : List (List ℕ)) (word : ℕ) (status : Status) (before now : ShelfState) → words_of words ≡ Err word → (status ≡ Usage word) ⊎ (status ≡ Memory) → Refuses (λ given s. accepted words given ≡ Err s) status before now
refuses_words words word status before now e (inl is) =
    subst (λ s. Refuses (λ given s. accepted words given ≡ Err s) s before now) (sym is) ((some_reading before.files).0, (some_reading before.files).1, words_refused words (some_reading before.files).0 word e)
refuses_words words word status before now e (inr is) = subst (λ s. Refuses (λ given s. accepted words given ≡ Err s) s before now) (sym is) tt

-- the job's file is refused
pub refuses_text : (words : List (List ℕ)) (place : Option (List ℕ)) (status : Status) (before now : ShelfState) → words_of words ≡ Ok place
    → Refuses (λ given s. job_bytes place given ≡ Err s) status before now → Refuses (λ given s. accepted words given ≡ Err s) status before now
refuses_text words place status before now e r =
    refuses_onto (λ given s. job_bytes place given ≡ Err s) (λ given s. accepted words given ≡ Err s) status before before now (still before)
    (carries_all before.files (λ given s. job_bytes place given ≡ Err s) (λ given s. accepted words given ≡ Err s) (text_refused words place e)) r

job_refusals : (kind : JobKind) (error : JobError) → IsOfBytes (job_refused kind error)
job_refusals jobs.UnknownKey error = tt
job_refusals jobs.TwiceGiven error = tt
job_refusals jobs.BadValue error = tt
job_refusals jobs.Missing error = tt
job_refusals jobs.OutOfRange error = tt
job_refusals jobs.TolerancePastCutter error = tt
job_refusals jobs.PitchTooCoarse error = tt
job_refusals jobs.Memory error = tt

pub job_refusal : (r : Result Job JobError) → IfErr (job_or_refused r) IsOfBytes
job_refusal (Ok job) = tt
job_refusal (Err error) = job_refusals error.kind error

-- the job is refused
pub refuses_job : {X : Type 0} (view : X → Job) (words : List (List ℕ)) (place : Option (List ℕ)) (text : List ℕ) (status : Status) (before now : ShelfState) → words_of words ≡ Ok place
    → (given : Reading) × MayRead before.files given × (job_bytes place given ≡ Ok text) → MakesOf view (job_in text words) (Err status) → Refuses (λ given s. accepted words given ≡ Err s) status before now
refuses_job view words place text status before now e given bad =
    made_refuses view (job_in text words) status before now (λ given s. accepted words given ≡ Err s) (job_refusal (job_read text words None)) given.0 given.1 (job_fails words place text given.0 e given.2) bad

-- a file that the job names is refused
pub refuses_inputs : (words : List (List ℕ)) (place : Option (List ℕ)) (text : List ℕ) (job : Job) (status : Status) (before between now : ShelfState) → OnlyReads before between → words_of words ≡ Ok place
    → (given : Reading) × MayRead before.files given × (job_bytes place given ≡ Ok text) → job_in text words ≡ Ok job
    → Refuses (λ given s. inputs_of job given ≡ Err s) status between now → Refuses (λ given s. accepted words given ≡ Err s) status before now
refuses_inputs words place text job status before between now keeps e given good r =
    refuses_onto (λ given s. inputs_of job given ≡ Err s) (λ given s. accepted words given ≡ Err s) status before between now keeps
    (carries_second before.files is_job (job_bytes place) text (inputs_of job) (job_apart place job) given (λ given s. accepted words given ≡ Err s) (inputs_fail words place text job e good)) r

-- what the files stand for is made, or one of them is refused
pub gives_contents : (words : List (List ℕ)) (place : Option (List ℕ)) (text : List ℕ) (job : Job) (raw : Inputs) (before between now : ShelfState) (result : Result AcceptedStruct Status) → OnlyReads before between
    → words_of words ≡ Ok place → (given : Reading) × MayRead before.files given × (job_bytes place given ≡ Ok text) → job_in text words ≡ Ok job
    → (given : Reading) × MayRead between.files given × (inputs_of job given ≡ Ok raw) → MakesOf accepts_of (contents_of job raw) result → Gives accepts_of before now (accepted words) result
gives_contents words place text job raw before between now result keeps e first good second made = by_result result made
  where
    later : (given : Reading) × MayRead before.files given × (inputs_of job given ≡ Ok raw)
    later = from_earlier before between (λ given. inputs_of job given ≡ Ok raw) keeps second

    reading : (given : Reading) × MayRead before.files given × (accepted words given ≡ contents_of job raw)
    reading =
        let j = joins before.files is_job (job_bytes place) text (inputs_of job) (job_apart place job) first.0 first.1 first.2 later.0 later.1 in
        (j.given, j.may, all_read words place text job raw j.given e good j.gives (j.same ∙ later.2))

    by_result : (r : Result AcceptedStruct Status) → MakesOf accepts_of (contents_of job raw) r → Gives accepts_of before now (accepted words) r
    by_result (Ok x) made = (reading.0, reading.1, reading.2 ∙ made)
    by_result (Err status) made =
        made_refuses accepts_of (contents_of job raw) status before now (λ given s. accepted words given ≡ Err s) (contents_refused job raw) reading.0 reading.1 (λ s bad. reading.2 ∙ bad) made

-- ---- exactly the words that are wrong are a usage

pub same_err : (B : Type 0) (a b : Status) → ◌≡◌ {A = Result B Status} (Err a) (Err b) → a ≡ b
same_err B a b e = cc

pub not_both : {A B : Type 0} (r : Result A Status) (f : A → Result B Status) (s : Status) → (r ≡ Err s → ⊥) → ((x : A) → f x ≡ Err s → ⊥) → (r >>= f) ≡ Err s → ⊥
not_both (Ok x) f s first next e = next x e
not_both {B = B} (Err status) f s first next e = first (ap Err (same_err B status s e))

not_files : (word : ℕ) → IsOfFiles (Usage word) → ⊥
not_files word (inl (inl front)) = absurd front
not_files word (inl (inr back)) = absurd back
not_files word (inr (inl drill)) = absurd drill
not_files word (inr (inr outline)) = absurd outline

pub usage_only : {X Y : Type 0} (r : Result X ℕ) (f : X → Result Y Status) (word : ℕ) → ((x : X) → f x ≡ Err (Usage word) → ⊥) → (usage r >>= f) ≡ Err (Usage word) → r ≡ Err word
usage_only (Ok x) f word next e = absurd (next x e)
usage_only (Err number) f word next e = cc

only_words : (words : List (List ℕ)) (given : Reading) (word : ℕ) → accepted words given ≡ Err (Usage word) → words_of words ≡ Err word
unfolding accepted
only_words words given word e =
    usage_only (words_of words) _ word (λ place.
    not_both (job_bytes place given) _ (Usage word) (λ bad. err_is (IsReadOf roles.Job) (job_bytes place given) (Usage word) (job_text_refused place given) bad) (λ text.
    not_both (job_in text words) _ (Usage word) (λ bad. err_is IsOfBytes (job_in text words) (Usage word) (job_refusal (job_read text words None)) bad) (λ job.
    not_both (inputs_of job given) _ (Usage word) (λ bad. not_files word (err_is IsOfFiles (inputs_of job given) (Usage word) (inputs_refused job given) bad)) (λ raw bad.
    err_is IsOfBytes (contents_of job raw) (Usage word) (contents_refused job raw) bad)))) e

not_ok : {A : Type 0} (x : A) (s : Status) (r : Result A Status) → r ≡ Ok x → r ≡ Err s → ⊥
not_ok x s r e f = cc

refused_as_words : (words : List (List ℕ)) (word : ℕ) (status : Status) (before now : ShelfState) → words_of words ≡ Err word → Refuses (λ given s. accepted words given ≡ Err s) status before now → (status ≡ Usage word) ⊎ (status ≡ Memory)
refused_as_words words word status before now e = by_status status
  where
    is : (given : Reading) (s : Status) → accepted words given ≡ Err s → s ≡ Usage word
    is given s bad = same_err Accepts s (Usage word) (sym bad ∙ words_refused words given word e)

    told : (o : Option Files) (s : Status) → ToldAnd o (λ files. accepted words (held_in files) ≡ Err s) → s ≡ Usage word
    told None s t = absurd t
    told (Some files) s t = is (held_in files) s t

    by_status : (s : Status) → Refuses (λ given s. accepted words given ≡ Err s) s before now → (s ≡ Usage word) ⊎ (s ≡ Memory)
    by_status Done r = absurd r
    by_status (WriteFault role) r = absurd r
    by_status Memory r = inr refl
    by_status (Usage number) r = inl (is r.0 (Usage number) r.2)
    by_status (RefusedJob error) r = inl (is r.0 (RefusedJob error) r.2)
    by_status (Gerber role error) r = inl (is r.0 (Gerber role error) r.2)
    by_status (Drill error) r = inl (is r.0 (Drill error) r.2)
    by_status (Outline error) r = inl (is r.0 (Outline error) r.2)
    by_status (Ngc role fault line) r = inl (is r.0 (Ngc role fault line) r.2)
    by_status (Watch watcher at) r = inl (is r.0 (Watch watcher at) r.2)
    by_status (Cell i j line) r = inl (is r.0 (Cell i j line) r.2)
    by_status (Limit hit) r = inl (is r.0 (Limit hit) r.2)
    by_status (TooLong role) r = inl (is (r.0).0 (TooLong role) (r.0).2)
    by_status (ReadFault role) (inl r) = inl (is (without role r.1) (ReadFault role) r.3)
    by_status (ReadFault role) (inr t) = inl (told before.files (ReadFault role) t)

pub exact_usage : (words : List (List ℕ)) (before now : ShelfState) (result : Result AcceptedStruct Status) → Gives accepts_of before now (accepted words) result → IsExactUsage (words_of words) (status_of result)
exact_usage words before now (Ok x) r = record {
  only = λ word is. absurd (cc);
  comes = λ word e. absurd (not_ok (accepts_of x) (Usage word) (accepted words r.0) r.2 (words_refused words r.0 word e));
}
exact_usage words before now (Err status) r = record {
  only = λ word is. only_word word (subst (λ s. Refuses (λ given s. accepted words given ≡ Err s) s before now) is r);
  comes = λ word e. refused_as_words words word status before now e r;
}
  where
    only_word : (word : ℕ) → Refuses (λ given s. accepted words given ≡ Err s) (Usage word) before now → words_of words ≡ Err word
    only_word word r = only_words words r.0 word r.2

-- ---- what a file stands for is there exactly where the job names it

read_there : (role : Role) (name bytes : Option (List ℕ)) (given : Reading) → input_if role name given ≡ Ok bytes → is_some bytes ≡ is_some name
read_there role None bytes given e = ap is_some (sym (ok_is None bytes e))
read_there role (Some name) bytes given e = let s = step (input role name given) (λ bytes. Ok (Some bytes)) bytes e in ap is_some (sym (ok_is (Some s.0) bytes s.2))

-- bytes are there exactly where the job names a file
record AreNamed (job : Job) (raw : Inputs) : Type 0 where
  pub front : is_some raw.front ≡ is_some job.front
  pub back : is_some raw.back ≡ is_some job.back
  pub drill : is_some raw.drill ≡ is_some job.drill
  pub outline : is_some raw.outline ≡ is_some job.outline

inputs_there : (job : Job) (given : Reading) (raw : Inputs) → inputs_of job given ≡ Ok raw → AreNamed job raw
unfolding inputs_of
inputs_there job given raw e =
    let f = step (input_if roles.Front job.front given) _ raw e in
    let b = step (input_if roles.Back job.back given) _ raw f.2 in
    let d = step (input_if roles.Drill job.drill given) _ raw b.2 in
    let o = step (input_if roles.Outline job.outline given) _ raw d.2 in
    let is = ok_is (record { front = f.0; back = b.0; drill = d.0; outline = o.0 }) raw o.2 in
    record {
      front = ap (λ r. is_some r.front) (sym is) ∙ read_there roles.Front job.front f.0 given f.1;
      back = ap (λ r. is_some r.back) (sym is) ∙ read_there roles.Back job.back b.0 given b.1;
      drill = ap (λ r. is_some r.drill) (sym is) ∙ read_there roles.Drill job.drill d.0 given d.1;
      outline = ap (λ r. is_some r.outline) (sym is) ∙ read_there roles.Outline job.outline o.0 given o.1;
    }

-- what is accepted, of the files that the job names
pub record IsWhole (x : Accepts) : Type 0 where
  pub named : IsNamed x
  pub stands : IsDrillOf x.drill

pub whole_as : (words : List (List ℕ)) (given : Reading) (x : Accepts) → accepted words given ≡ Ok x → IsWhole x
unfolding accepted
whole_as words given x e =
    let p = step (usage (words_of words)) _ x e in
    let t = step (job_bytes p.0 given) _ x p.2 in
    let j = step (job_in t.0 words) _ x t.2 in
    let r = step (inputs_of j.0 given) _ x j.2 in
    let there = inputs_there j.0 given r.0 r.1 in
    let made : AreOf j.0 r.0 x = contents_there j.0 r.0 x r.2 in
    record {
      named = record {
        front = made.front ∙ there.front ∙ ap (λ job. is_some job.front) (sym made.job_is);
        back = made.back ∙ there.back ∙ ap (λ job. is_some job.back) (sym made.job_is);
        drill = made.drill ∙ there.drill ∙ ap (λ job. is_some job.drill) (sym made.job_is);
        outline = made.outline ∙ there.outline ∙ ap (λ job. is_some job.outline) (sym made.job_is);
      };
      stands = made.stands;
    }

pub gives_named : (words : List (List ℕ)) (before now : ShelfState) (result : Result AcceptedStruct Status) → Gives accepts_of before now (accepted words) result → IfOk result (λ x. IsNamed (accepts_of x))
gives_named words before now (Ok x) r = (whole_as words r.0 (accepts_of x) r.2).named
gives_named words before now (Err status) r = tt

pub gives_drill : (words : List (List ℕ)) (before now : ShelfState) (result : Result AcceptedStruct Status) → Gives accepts_of before now (accepted words) result → IfOk result (λ x. IsDrillOf x.drill)
gives_drill words before now (Ok x) r = (whole_as words r.0 (accepts_of x) r.2).stands
gives_drill words before now (Err status) r = tt

-- ---- no refusal is Done

pub usage_not_done : {A : Type 0} (r : Result A ℕ) → usage r ≡ Err Done → ⊥
usage_not_done (Ok x) e = cc
usage_not_done (Err word) e = cc

files_not_done : IsOfFiles Done → ⊥
files_not_done (inl (inl front)) = front
files_not_done (inl (inr back)) = back
files_not_done (inr (inl drill)) = drill
files_not_done (inr (inr outline)) = outline

pub accepted_not_done : (words : List (List ℕ)) (given : Reading) → accepted words given ≡ Err Done → ⊥
unfolding accepted
accepted_not_done words given e =
    not_both (usage (words_of words)) _ Done (usage_not_done (words_of words)) (λ place.
    not_both (job_bytes place given) _ Done (err_is (IsReadOf roles.Job) (job_bytes place given) Done (job_text_refused place given)) (λ text.
    not_both (job_in text words) _ Done (err_is IsOfBytes (job_in text words) Done (job_refusal (job_read text words None))) (λ job.
    not_both (inputs_of job given) _ Done (λ bad. files_not_done (err_is IsOfFiles (inputs_of job given) Done (inputs_refused job given) bad)) (λ raw.
    err_is IsOfBytes (contents_of job raw) Done (contents_refused job raw))))) e
