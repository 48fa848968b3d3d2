-- The job that the words for a sample board give.
use Rattle.std.proofs.Common.{◌≡◌, refl, ℕ, List, [], ◌∷◌, Option, Some, None, Result, Ok, Err}
use Rattle.std.specs.Prelude.{codes}
use Rattle.job_file.specs.declared.job.Job.{Job}
use Rattle.endings.specs.declared.status.Status.{Status}
use Rattle.mill_inputs.specs.Words.{words_of}
use Rattle.mill_inputs.specs.Accepted.{job_in}
use Rattle.sampling.specs.Sampled.{mill_words}

-- the words are in the grammar, and there is no file for the job
pub words_are : words_of mill_words ≡ Ok None
unfolding words_of Rattle.text_cut.specs.Split.halves
words_are = refl

-- the names of a job's files
abbrev pub names_in : Result Job Status → List (Option (List ℕ))
names_in (Ok job) = job.front ∷ job.back ∷ job.drill ∷ job.outline ∷ []
names_in (Err status) = []

abbrev pub names : List (Option (List ℕ))
names = Some (codes "front.gbr") ∷ None ∷ Some (codes "drill.drl") ∷ Some (codes "outline.gbr") ∷ []

-- the job is refused for nothing, and names the three files
pub names_are : names_in (job_in [] mill_words) ≡ names
unfolding Rattle.job_file.specs.Read.job_read Rattle.job_file.specs.Read.job_given Rattle.job_file.specs.Reading.lines_give Rattle.job_file.specs.Reading.refused_behind Rattle.job_file.specs.Reading.given_in Rattle.job_file.specs.Lines.said Rattle.text_cut.specs.Spaces.trimmed Rattle.text_cut.specs.Split.halves Rattle.job_file.specs.Keys.number_of Rattle.job_file.specs.Keys.keys Rattle.job_file.specs.Keys.kind_of Rattle.job_file.specs.Reads.value_read Rattle.job_file.specs.Reads.read_of Rattle.job_file.specs.Values.value_of Rattle.job_file.specs.Job.job_of Rattle.job_file.specs.Checks.fault_of Rattle.job_file.specs.Checks.missing_of Rattle.job_file.specs.Checks.radius_of Rattle.job_file.specs.Checks.changes_low Rattle.job_file.specs.Checks.probes_high Rattle.job_file.specs.Checks.cuts_bridges Rattle.job_file.specs.Checks.tiles_wrongly Rattle.job_file.specs.Checks.reaches_past Rattle.job_file.specs.Checks.is_thin Rattle.job_file.specs.Checks.is_coarse Rattle.board_base.specs.Lattice.half_diagonal_of Rattle.board_base.specs.Lattice.least_diagonal
names_are = refl
