use Rattle.fixed_num.proofs.UsedLaws.{used_law}
use Rattle.fixed_num.proofs.used_law.Goals as goal

pub returns : goal.returns
returns c = used_law
