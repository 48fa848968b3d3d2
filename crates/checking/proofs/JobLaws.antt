-- The job that is read for a side.
use Rattle.std.proofs.Common.{◌≡◌, ℕ, List, true, Option, Some, None, Result, Ok, Err, ap, refl, subst}
use Rattle.std.specs.Prelude.{is_some, ◌||◌}
use Rattle.std.proofs.lemmas.Bool.{or_right}
use Rattle.board_base.specs.declared.places.Side.{Side}
use Rattle.board_base.specs.declared.places.Side.TheVariants.{Front, Back}
use Rattle.board_base.specs.Binds.{◌>>=◌}
use Rattle.job_file.specs.declared.error.JobKind.{JobKind}
use Rattle.job_file.specs.declared.error.JobError.{JobError}
use Rattle.job_file.specs.declared.given.Sheets.{Sheets}
use Rattle.job_file.specs.declared.job.Job.{Job}
use Rattle.job_file.specs.Checks.{names_side, fault_of}
use Rattle.job_file.specs.Fits.{GivesFit}
use Rattle.job_file.specs.Job.{job_of}
use Rattle.job_file.specs.Lines.{file_lines, word_lines}
use Rattle.job_file.specs.Ranges.{IsInRanges}
use Rattle.job_file.specs.Read.{judged, job_given, job_read}
use Rattle.job_file.specs.Reading.{lines_give}
use Rattle.job_file.specs.Together.{GoTogether}
use Rattle.job_file.specs.Values.{value_of, place_of}
use Rattle.job_file.proofs.FitLaws.{step}
use Rattle.job_file.proofs.RangeLaws.{lines_fit, in_ranges}
use Rattle.job_file.proofs.TogetherLaws.{go_together}
use Rattle.mill_plan.specs.Job.{IsSideJob}
use Rattle.mill_inputs.specs.Accepted.{job_or_refused}
use Rattle.mill_inputs.proofs.ContentLaws.{ok_is}
use Rattle.checking.specs.Accepted.{side_job_in}

-- the side that is checked is named
pub side_named : (side : Side) (job : Job) → GoTogether (Some side) job → names_side job ≡ true
side_named Front job ok = ap (λ b. b || is_some job.back) ok.named
side_named Back job ok = or_right (is_some job.front) (is_some job.back) ok.named

-- a job that is read for a side mills it
pub side_job : (side : Side) (job : Job) → IsInRanges job → GoTogether (Some side) job → IsSideJob job
side_job side job ranges together = record { ranges = ranges; checked = Some side; together = together; side = side_named side job together }

abbrev one : Job → Result Job JobError
one job = Ok job

unjudged : (place : ℕ → ℕ) (made job : Job) (fault : Option (JobKind × ℕ)) → judged place made fault ≡ one job → (made ≡ job) × (fault ≡ None)
unjudged place made job None e = (cc, refl)
unjudged place made job (Some fault) e = absurd (cc)

given_fits : (side : Side) (sheets : Sheets) (job : Job) → GivesFit sheets → job_given (Some side) sheets ≡ one job → IsSideJob job
unfolding job_given
given_fits side sheets job fit e =
    let made = job_of (value_of sheets) in
    let u = unjudged (place_of sheets) made job (fault_of (Some side) made) e in
    subst IsSideJob u.0 (side_job side made (in_ranges sheets fit) (go_together (Some side) made u.1))

read_fits : (side : Side) (bytes : List ℕ) (words : List (List ℕ)) (job : Job) → job_read bytes words (Some side) ≡ one job → IsSideJob job
unfolding job_read
read_fits side bytes words job e =
    let f = step (lines_give (file_lines bytes)) (λ file. lines_give (word_lines words) >>= (λ given. job_given (Some side) (record { words = given; file = file }))) job e in
    let w = step (lines_give (word_lines words)) (λ given. job_given (Some side) (record { words = given; file = f.0 })) job f.2 in
    let fit : GivesFit (record { words = w.0; file = f.0 }) = record { words_fit = lines_fit (word_lines words) w.0 w.1; file_fits = lines_fit (file_lines bytes) f.0 f.1 } in
    given_fits side (record { words = w.0; file = f.0 }) job fit w.2

-- the job of what is accepted is one
pub side_job_fits : (side : Side) (bytes : List ℕ) (words : List (List ℕ)) (job : Job) → side_job_in side bytes words ≡ Ok job → IsSideJob job
side_job_fits side bytes words job e = by_result (job_read bytes words (Some side)) refl e
  where
    by_result : (r : Result Job JobError) → job_read bytes words (Some side) ≡ r → job_or_refused r ≡ Ok job → IsSideJob job
    by_result (Ok made) is e = subst IsSideJob (ok_is made job e) (read_fits side bytes words made is)
    by_result (Err error) is e = absurd (cc)
