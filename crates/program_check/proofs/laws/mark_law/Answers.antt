use Rattle.program_check.proofs.SoundLaws.{mark_holds}
use Rattle.program_check.proofs.laws.mark_law.Goals as goal

pub returns : goal.returns
returns c = mark_holds
