-- The cutting of a job may check a program.
use Rattle.job_file.specs.declared.job.Job.{Job}
use Rattle.mill_plan.specs.Cutting.{IsCutting, side_cutting}
use Rattle.mill_plan.specs.Job.{IsSideJob}
use Rattle.mill_plan.proofs.JobLaws.{side_is}
use Rattle.program_check.specs.Cutters.{IsCutter}
use Rattle.program_check.proofs.SoundLaws.{cutter_of}
use Rattle.side_runs.proofs.DiagonalLaws.{half_diagonal_is}

pub job_cutter : (job : Job) → IsSideJob job → IsCutter (side_cutting job)
job_cutter job ok =
    let cutting : IsCutting (side_cutting job) = side_is job ok in
    cutter_of (side_cutting job) cutting (half_diagonal_is (side_cutting job).pitch cutting.pitch)
