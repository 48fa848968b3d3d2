use Rattle.program_check.proofs.SoundLaws.{clear_holds}
use Rattle.program_check.proofs.laws.clear_law.Goals as goal

pub returns : goal.returns
returns c = clear_holds
