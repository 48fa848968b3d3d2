use Rattle.fixed_num.proofs.TurnLaws.{turn_law}
use Rattle.fixed_num.proofs.turn_law.Goals as goal

pub returns : goal.returns
returns c = turn_law
