use Rattle.program_check.proofs.HitLaws.{one_hit_holds}
use Rattle.program_check.proofs.laws.one_hit_law.Goals as goal

pub returns : goal.returns
returns c = one_hit_holds
