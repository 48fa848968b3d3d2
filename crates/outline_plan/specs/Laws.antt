-- That an outline has one answer, and what its levels are.
use Rattle.std.specs.Prelude.{◌≡◌, ◌≢◌, ℕ, ◌+◌, ◌<◌, pos, neg_ℤ, ◌*ℤ◌, List, Result, Ok, Err}
use Rattle.shape_parts.specs.declared.shape.Painted.{Painted}
use Rattle.job_file.specs.declared.job.Job.{Job}
use Rattle.outline_plan.specs.declared.plan.OutlineCut.{OutlineCut}
use Rattle.outline_plan.specs.declared.errors.OutlinePlanError.{OutlinePlanError}
use Rattle.outline_plan.specs.declared.errors.OutlinePlanError.TheVariants.{Memory}
use Rattle.outline_plan.specs.Job.{IsOutlineJob, levels_count, level_at}
use Rattle.outline_plan.specs.Answers.{Answers}

-- both are plans over one frame, or both are the same refusal
abbrev pub AreAlike : Result OutlineCut OutlinePlanError → Result OutlineCut OutlinePlanError → Type 0
AreAlike (Ok plan) (Ok other) = plan.frame ≡ other.frame
AreAlike (Ok plan) (Err error) = ⊥
AreAlike (Err error) (Ok plan) = ⊥
AreAlike (Err error) (Err other) = error ≡ other

-- but for want of memory, an outline has one answer
abbrev pub OneAnswer : Type 0
OneAnswer =
    (job : Job) (painted : List Painted) (r s : Result OutlineCut OutlinePlanError) → r ≢ Err Memory → s ≢ Err Memory → Answers job painted r → Answers job painted s → AreAlike r s

-- there is a level, each but the last is one infeed below the one before it, and the last is at the depth of the cut
pub record AreLevels (job : Job) : Type 0 where
  pub some : 0 < levels_count job
  pub each : (k : ℕ) → k + 1 < levels_count job → level_at job k ≡ neg_ℤ (pos (k + 1) *ℤ job.cut_infeed)
  pub last : (k : ℕ) → k + 1 ≡ levels_count job → level_at job k ≡ job.zcut

abbrev pub LevelsLaw : Type 0
LevelsLaw = (job : Job) → IsOutlineJob job → AreLevels job
