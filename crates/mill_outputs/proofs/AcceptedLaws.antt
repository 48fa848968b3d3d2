-- What holds of what was accepted.
use Rattle.std.proofs.Common.{◌≡◌, ℕ, List, Option, Some, None, Result, Ok, Err, refl, sym, ap, ◌∙◌, subst}
use Rattle.std.specs.Prelude.{IfSome, is_some, ◌||◌, Bool, true, false}
use Rattle.board_base.specs.Binds.{◌>>=◌}
use Rattle.excellon.specs.Fits.{IsDrilled}
use Rattle.excellon.specs.declared.file.DrillFile.{DrillFile}
use Rattle.job_file.specs.declared.job.Job.{Job}
use Rattle.job_file.specs.declared.error.JobKind.{JobKind}
use Rattle.job_file.specs.declared.error.JobError.{JobError}
use Rattle.job_file.specs.declared.given.Sheets.{Sheets}
use Rattle.job_file.specs.Lines.{file_lines, word_lines}
use Rattle.job_file.specs.Values.{value_of, place_of}
use Rattle.job_file.specs.Reading.{lines_give}
use Rattle.job_file.specs.Job.{job_of}
use Rattle.job_file.specs.Checks.{fault_of}
use Rattle.job_file.specs.Read.{judged, job_given, job_read}
use Rattle.job_file.specs.Ranges.{IsInRanges}
use Rattle.job_file.specs.Together.{GoTogether}
use Rattle.job_file.proofs.FitLaws.{step}
use Rattle.job_file.proofs.RangeLaws.{lines_fit, reads_in_ranges}
use Rattle.job_file.proofs.TogetherLaws.{go_together}
use Rattle.endings.specs.declared.status.Status.{Status}
use Rattle.endings.specs.Answers.{usage}
use Rattle.endings.specs.Reads.{Reading}
use Rattle.mill_inputs.specs.Words.{words_of}
use Rattle.mill_inputs.specs.Accepted.{Accepts, IsNamed, IsDrillOf, job_bytes, job_or_refused, job_in, inputs_of, accepted, contents_of}
use Rattle.mill_inputs.proofs.ContentLaws.{AreOf, contents_there}
use Rattle.mill_inputs.proofs.AcceptLaws.{whole_as}
use Rattle.mill_plan.specs.Job.{IsSideJob}
use Rattle.outline_plan.specs.Job.{IsOutlineJob}
use Rattle.mill_outputs.proofs.DrilledLaws.{drilled_law}

-- ---- the job

judged_ok : (place : ℕ → ℕ) (made job : Job) (fault : Option (JobKind × ℕ)) → judged place made fault ≡ Ok job → (fault ≡ None) × (made ≡ job)
judged_ok place made job None e = (refl, cc)
judged_ok place made job (Some f) e = absurd cc

-- a job that lines and words give is in its ranges, and its values go together
job_stands : (bytes : List ℕ) (words : List (List ℕ)) (job : Job) → job_read bytes words None ≡ Ok job → IsInRanges job × GoTogether None job
unfolding job_read job_given
job_stands bytes words job e =
    let file = step (lines_give (file_lines bytes)) _ job e in
    let given = step (lines_give (word_lines words)) _ job file.2 in
    let sheets : Sheets = record { words = given.0; file = file.0 } in
    let made = judged_ok (place_of sheets) (job_of (value_of sheets)) job (fault_of None (job_of (value_of sheets))) given.2 in (
      reads_in_ranges sheets job (record { words_fit = lines_fit (word_lines words) given.0 given.1; file_fits = lines_fit (file_lines bytes) file.0 file.1 }) (sym made.1),
      go_together None job (subst (λ j. fault_of None j ≡ None) made.1 made.0),
    )

job_in_ok : (r : Result Job JobError) (job : Job) → job_or_refused r ≡ Ok job → r ≡ Ok job
job_in_ok (Ok j) job e = let same : j ≡ job = cc in ap Ok same
job_in_ok (Err error) job e = absurd cc

-- ---- what is drilled

all_drilled : (drill : Option DrillFile) → IsDrillOf drill → IfSome drill IsDrilled
all_drilled None stands = tt
all_drilled (Some file) stands = drilled_law stands.0 file stands.1

-- ---- all of it

-- the job is in its ranges, its values go together, and what is drilled stands in some bytes and on the board
pub record IsAccepted (x : Accepts) : Type 0 where
  pub ranges : IsInRanges x.job
  pub together : GoTogether None x.job
  pub drilled : IfSome x.drill IsDrilled
  pub stands : IsDrillOf x.drill
  pub named : IsNamed x

pub accepted_stands : (words : List (List ℕ)) (given : Reading) (x : Accepts) → accepted words given ≡ Ok x → IsAccepted x
unfolding accepted
accepted_stands words given x e =
    let behind_job : Job → Result Accepts Status = λ job. inputs_of job given >>= (λ raw. contents_of job raw) in
    let behind_text : List ℕ → Result Accepts Status = λ text. job_in text words >>= behind_job in
    let place = step (usage (words_of words)) (λ place. job_bytes place given >>= behind_text) x e in
    let text = step (job_bytes place.0 given) behind_text x place.2 in
    let job = step (job_in text.0 words) behind_job x text.2 in
    let raw = step (inputs_of job.0 given) (λ raw. contents_of job.0 raw) x job.2 in
    let contents : AreOf job.0 raw.0 x = contents_there job.0 raw.0 x raw.2 in
    let its_job : job.0 ≡ x.job = sym contents.job_is in
    let good = job_stands text.0 words job.0 (job_in_ok _ job.0 job.1) in
    record {
      ranges = subst IsInRanges its_job good.0;
      together = subst (GoTogether None) its_job good.1;
      drilled = all_drilled x.drill contents.stands;
      stands = contents.stands;
      named = (whole_as words given x e).named;
    }

-- ---- jobs of sides and of outlines

front_named : (front back : Bool) → front ≡ true → (front || back) ≡ true
front_named front back e = rw e refl

back_named : (front back : Bool) → back ≡ true → (front || back) ≡ true
back_named true back e = refl
back_named false back e = e

-- where there is an image, the job is one of sides
pub side_job : (x : Accepts) → IsAccepted x → (is_some x.front ≡ true → IsSideJob x.job) × (is_some x.back ≡ true → IsSideJob x.job)
side_job x ok = (
  λ there. record { ranges = ok.ranges; checked = None; together = ok.together; side = front_named (is_some (x.job).front) (is_some (x.job).back) (sym (ok.named).front ∙ there) },
  λ there. record { ranges = ok.ranges; checked = None; together = ok.together; side = back_named (is_some (x.job).front) (is_some (x.job).back) (sym (ok.named).back ∙ there) },
)

-- and where there is an outline, one of outlines
pub outline_job : (x : Accepts) → IsAccepted x → is_some x.outline ≡ true → IsOutlineJob x.job
outline_job x ok there = record { ranges = ok.ranges; checked = None; together = ok.together; outline = sym (ok.named).outline ∙ there }
