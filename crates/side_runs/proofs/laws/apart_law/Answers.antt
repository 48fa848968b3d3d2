use Rattle.side_runs.proofs.ApartLaws.{apart_holds}
use Rattle.side_runs.proofs.laws.apart_law.Goals as goal

pub returns : goal.returns
returns c = apart_holds
