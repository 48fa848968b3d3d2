-- What `check` accepts, and in which order its steps refuse.
use Rattle.std.specs.Prelude.{ℕ, ℤ, List, [], Option, Some, unwrap_or, Result, Ok}
use Rattle.board_base.specs.declared.places.Side.{Side}
use Rattle.board_base.specs.declared.places.Side.TheVariants.{Front, Back}
use Rattle.board_base.specs.declared.places.Role.{Role}
use Rattle.board_base.specs.declared.places.Role.TheVariants as roles
use Rattle.board_base.specs.Binds.{◌>>=◌}
use Rattle.shape_parts.specs.declared.shape.Painted.{Painted}
use Rattle.rs274_sim.specs.declared.line.Line.{Line}
use Rattle.rs274_sim.specs.Reading.{program_of}
use Rattle.job_file.specs.declared.job.Job.{Job}
use Rattle.job_file.specs.Read.{job_read}
use Rattle.endings.specs.declared.status.Status.{Status}
use Rattle.endings.specs.Reads.{Reading, input}
use Rattle.endings.specs.Answers.{usage}
use Rattle.mill_inputs.specs.Accepted.{job_bytes, job_or_refused, image, mirrored}
use Rattle.simulation.specs.Answers.{answers_of}
use Rattle.simulation.specs.Simulated.{Sources, sources_of, sources_in, read_as}
use Rattle.checking.specs.declared.inputs.Inputs.{Inputs as InputsStruct}
use Rattle.checking.specs.declared.acceptance.Accepted.{Accepted as AcceptedStruct}
use Rattle.checking.specs.Words.{CheckWords, words_of}

-- what is accepted: the job, the side and its image as it is milled, the bytes of the program and the lines for which they
-- stand, and the probe's answers
pub record Accepts : Type 0 where
  pub job : Job
  pub side : Side
  pub painted : List Painted
  pub program : List ℕ
  pub lines : List Line
  pub answers : List ℤ

-- what the code holds of it
abbrev pub accepts_of : AcceptedStruct → Accepts
accepts_of x = record {
  job = x.job;
  side = x.side;
  painted = x.painted.items;
  program = x.program.items;
  lines = x.lines.items;
  answers = x.answers.items;
}

-- ---- the job

-- the job that these bytes and the words give, in which the side that is checked has to be named
abbrev pub side_job_in : Side → List ℕ → List (List ℕ) → Result Job Status
side_job_in side bytes words = job_or_refused (job_read bytes words (Some side))

-- ---- the files

-- the role of a side's layer
abbrev pub layer_role : Side → Role
layer_role Front = roles.Front
layer_role Back = roles.Back

-- the name that a job gives a side's layer
abbrev pub layer_if : Side → Job → Option (List ℕ)
layer_if Front job = job.front
layer_if Back job = job.back

-- the same; a job that is read for the side gives it one
abbrev pub layer_of : Side → Job → List ℕ
layer_of side job = unwrap_or (layer_if side job) []

-- the bytes of the layer, and those of the program and of the probe's answers
pub record Inputs : Type 0 where
  pub layer : List ℕ
  pub sources : Sources

-- what the code holds of them
abbrev pub inputs_held : InputsStruct → Inputs
inputs_held raw = record { layer = raw.layer.items; sources = sources_of raw.sources }

-- the layer is read first, then the program, then the answers
unfoldable pub inputs_of : CheckWords → Job → Reading → Result Inputs Status
inputs_of w job given = do
  layer ← input (layer_role w.side) (layer_of w.side job) given
  sources ← sources_in w.files given
  Ok (record { layer = layer; sources = sources })

-- ---- what they stand for

-- the image of a side as it is milled: the back's is seen from above, where x becomes -x
abbrev pub as_milled : Side → List Painted → List Painted
as_milled Front painted = painted
as_milled Back painted = mirrored painted

-- what the files stand for: the layer, then the program, then the answers
unfoldable pub contents_of : Side → Job → Inputs → Result Accepts Status
contents_of side job raw = do
  painted ← image (layer_role side) raw.layer
  lines ← read_as roles.Ngc (program_of raw.sources.program)
  answers ← read_as roles.Probes (answers_of raw.sources.probes)
  Ok (record { job = job; side = side; painted = as_milled side painted; program = raw.sources.program; lines = lines; answers = answers })

-- ---- all of it

-- what is accepted, or the first refusal: words, the job's file, the job, the three files, what they stand for
unfoldable pub accepted : List (List ℕ) → Reading → Result Accepts Status
accepted words given = do
  w ← usage (words_of words)
  text ← job_bytes w.job given
  job ← side_job_in w.side text words
  raw ← inputs_of w job given
  contents_of w.side job raw
