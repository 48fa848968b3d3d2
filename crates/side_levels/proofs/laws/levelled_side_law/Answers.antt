use Rattle.side_levels.proofs.LevelledLaws.{levelled_side_holds}
use Rattle.side_levels.proofs.laws.levelled_side_law.Goals as goal

pub returns : goal.returns
returns c = levelled_side_holds
