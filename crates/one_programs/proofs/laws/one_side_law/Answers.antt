use Rattle.one_programs.proofs.SideLaws.{one_side}
use Rattle.one_programs.proofs.laws.one_side_law.Goals as goal

pub returns : goal.returns
returns c = one_side
