use Rattle.outline_plan.proofs.LevelLaws.{levels}
use Rattle.outline_plan.proofs.plan.levels_law.Goals as goal

pub returns : goal.returns
returns c = levels
