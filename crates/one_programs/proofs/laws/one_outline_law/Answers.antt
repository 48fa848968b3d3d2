use Rattle.one_programs.proofs.OutlineLaws.{one_outline}
use Rattle.one_programs.proofs.laws.one_outline_law.Goals as goal

pub returns : goal.returns
returns c = one_outline
