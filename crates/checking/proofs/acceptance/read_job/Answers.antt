use Rattle.checking.proofs.JobLaws.{side_job}
use Rattle.checking.proofs.acceptance.read_job.Goals as goal

pub returns-in-Ok-clause-job : goal.returns-in-Ok-clause-job
returns-in-Ok-clause-job c = side_job c.args.side c.in-Ok.job c.in-Ok.ensures.ranges c.in-Ok.ensures.together
