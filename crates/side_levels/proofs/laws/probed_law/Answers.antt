use Rattle.side_levels.proofs.ProbedLaws.{probed_holds}
use Rattle.side_levels.proofs.laws.probed_law.Goals as goal

pub returns : goal.returns
returns c = probed_holds
