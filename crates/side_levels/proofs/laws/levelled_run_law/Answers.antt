use Rattle.side_levels.proofs.LevelledLaws.{levelled_run_holds}
use Rattle.side_levels.proofs.laws.levelled_run_law.Goals as goal

pub returns : goal.returns
returns c = levelled_run_holds c.grid_run_law.ensures
