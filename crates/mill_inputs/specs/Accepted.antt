-- What `mill` accepts, and in which order its steps refuse.
use Rattle.std.specs.Prelude.{◌≡◌, ℕ, List, [], map, Option, Some, None, IfSome, is_some, Result, Ok, Err}
use Rattle.std.specs.Option.{option_map}
use Rattle.board_base.specs.declared.places.Role.{Role}
use Rattle.board_base.specs.declared.places.Role.TheVariants as roles
use Rattle.board_base.specs.Binds.{◌>>=◌}
use Rattle.shape_parts.specs.declared.shape.Painted.{Painted}
use Rattle.shape_parts.specs.Mirror.{mirrored_object}
use Rattle.gerber_image.specs.declared.refusal.GerberKind.{GerberKind}
use Rattle.gerber_image.specs.declared.refusal.GerberKind.TheVariants as kinds
use Rattle.gerber_image.specs.Gerber.{Outcome}
use Rattle.gerber_image.specs.Outcome.{outcome_of}
use Rattle.excellon.specs.declared.file.DrillFile.{DrillFile}
use Rattle.excellon.specs.declared.file.DrillKind.{DrillKind}
use Rattle.excellon.specs.declared.file.DrillKind.TheVariants as drills
use Rattle.excellon.specs.declared.file.DrillError.{DrillError}
use Rattle.excellon.specs.Drill.{drill_of}
use Rattle.job_file.specs.declared.job.Job.{Job}
use Rattle.job_file.specs.declared.error.JobKind.{JobKind}
use Rattle.job_file.specs.declared.error.JobKind.TheVariants as jobs
use Rattle.job_file.specs.declared.error.JobError.{JobError}
use Rattle.job_file.specs.Read.{job_read}
use Rattle.mill_plan.specs.declared.limits.LimitHit.TheVariants.{Objects, Vertices, Holes}
use Rattle.endings.specs.declared.status.Status.{Status}
use Rattle.endings.specs.declared.status.Status.TheVariants.{Job as RefusedJob, Gerber, Drill as RefusedDrill, Limit, Memory}
use Rattle.endings.specs.Reads.{Reading, input}
use Rattle.endings.specs.Answers.{usage}
use Rattle.mill_inputs.specs.declared.acceptance.Accepted.{Accepted as AcceptedStruct}
use Rattle.mill_inputs.specs.declared.inputs.Inputs.{Inputs as InputsStruct}
use Rattle.mill_inputs.specs.Words.{words_of}

-- what the words and the files give, where no step refuses: the job, the images of the sides that it names, of which the
-- back is seen from above, as it is milled, what its drill file drills, and the image of its outline
pub record Accepts : Type 0 where
  pub job : Job
  pub front : Option (List Painted)
  pub back : Option (List Painted)
  pub drill : Option DrillFile
  pub outline : Option (List Painted)

-- what the code holds of it
abbrev pub accepts_of : AcceptedStruct → Accepts
accepts_of a = record {
  job = a.job;
  front = option_map (λ v. v.items) a.front;
  back = option_map (λ v. v.items) a.back;
  drill = a.drill;
  outline = option_map (λ v. v.items) a.outline;
}

-- what a file stands for is there exactly where the job names it
pub record IsNamed (x : Accepts) : Type 0 where
  pub front : is_some x.front ≡ is_some x.job.front
  pub back : is_some x.back ≡ is_some x.job.back
  pub drill : is_some x.drill ≡ is_some x.job.drill
  pub outline : is_some x.outline ≡ is_some x.job.outline

-- what is drilled stands in some bytes
abbrev pub IsDrillOf : Option DrillFile → Type 0
IsDrillOf drill = IfSome drill (λ file. (bytes : List ℕ) × (drill_of bytes ≡ Ok file))

-- ---- the job

-- the bytes of the job's file, or none where there is no file
abbrev pub job_bytes : Option (List ℕ) → Reading → Result (List ℕ) Status
job_bytes None given = Ok []
job_bytes (Some name) given = input roles.Job name given

-- what a refusal of a job is to the command
abbrev pub job_refused : JobKind → JobError → Status
job_refused jobs.Memory error = Memory
job_refused kind error = RefusedJob error

abbrev pub job_or_refused : Result Job JobError → Result Job Status
job_or_refused (Ok job) = Ok job
job_or_refused (Err error) = Err (job_refused error.kind error)

-- the job that these bytes and the words give
abbrev pub job_in : List ℕ → List (List ℕ) → Result Job Status
job_in bytes words = job_or_refused (job_read bytes words None)

-- ---- the files that the job names

-- the bytes of the input of this role, where it has a name
abbrev pub input_if : Role → Option (List ℕ) → Reading → Result (Option (List ℕ)) Status
input_if role None given = Ok None
input_if role (Some name) given = input role name given >>= (λ bytes. Ok (Some bytes))

-- the bytes of each of them
pub record Inputs : Type 0 where
  pub front : Option (List ℕ)
  pub back : Option (List ℕ)
  pub drill : Option (List ℕ)
  pub outline : Option (List ℕ)

-- what the code holds of them
abbrev pub inputs_held : InputsStruct → Inputs
inputs_held raw = record {
  front = option_map (λ v. v.items) raw.front;
  back = option_map (λ v. v.items) raw.back;
  drill = option_map (λ v. v.items) raw.drill;
  outline = option_map (λ v. v.items) raw.outline;
}

unfoldable pub inputs_of : Job → Reading → Result Inputs Status
inputs_of job given = do
  front ← input_if roles.Front job.front given
  back ← input_if roles.Back job.back given
  drill ← input_if roles.Drill job.drill given
  outline ← input_if roles.Outline job.outline given
  Ok (record { front = front; back = back; drill = drill; outline = outline })

-- ---- what they stand for

-- what a refusal of a Gerber file is to the command: too many objects or vertices are a limit
abbrev pub refused_as : Role → GerberKind → ℕ → Status
refused_as role kinds.TooManyObjects at = Limit Objects
refused_as role kinds.TooManyVertices at = Limit Vertices
refused_as role kinds.Memory at = Memory
refused_as role kind at = Gerber role (record { kind = kind; at = at })

-- what a file stands for, or its refusal
abbrev pub painted_or_refused : Role → Outcome → Result (List Painted) Status
painted_or_refused role (Ok painted) = Ok painted
painted_or_refused role (Err refusal) = Err (refused_as role refusal.0 refusal.1)

-- the image that these bytes stand for
abbrev pub image : Role → List ℕ → Result (List Painted) Status
image role bytes = painted_or_refused role (outcome_of bytes)

-- the same, where there are bytes
abbrev pub image_if : Role → Option (List ℕ) → Result (Option (List Painted)) Status
image_if role None = Ok None
image_if role (Some bytes) = image role bytes >>= (λ painted. Ok (Some painted))

-- the image on the other side of the board: x becomes -x
abbrev pub mirrored : List Painted → List Painted
mirrored painted = map mirrored_object painted

-- what a refusal of a drill file is to the command: too many holes are a limit
abbrev pub drill_refused : DrillKind → ℕ → Status
drill_refused drills.TooMany at = Limit Holes
drill_refused drills.Memory at = Memory
drill_refused kind at = RefusedDrill (record { kind = kind; at = at })

abbrev pub drilled_or_refused : Result DrillFile DrillError → Result DrillFile Status
drilled_or_refused (Ok file) = Ok file
drilled_or_refused (Err error) = Err (drill_refused error.kind error.at)

-- what these bytes drill
abbrev pub drilled : List ℕ → Result DrillFile Status
drilled bytes = drilled_or_refused (drill_of bytes)

-- the same, where there are bytes
abbrev pub drilled_if : Option (List ℕ) → Result (Option DrillFile) Status
drilled_if None = Ok None
drilled_if (Some bytes) = drilled bytes >>= (λ file. Ok (Some file))

-- what the files stand for
unfoldable pub contents_of : Job → Inputs → Result Accepts Status
contents_of job raw = do
  front ← image_if roles.Front raw.front
  back ← image_if roles.Back raw.back
  drill ← drilled_if raw.drill
  outline ← image_if roles.Outline raw.outline
  Ok (record { job = job; front = front; back = option_map mirrored back; drill = drill; outline = outline })

-- ---- all of it

-- what is accepted, or the first refusal: words, the job's file, the job, the files that it names, what they stand for
unfoldable pub accepted : List (List ℕ) → Reading → Result Accepts Status
accepted words given = do
  place ← usage (words_of words)
  text ← job_bytes place given
  job ← job_in text words
  raw ← inputs_of job given
  contents_of job raw
