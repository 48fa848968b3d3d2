use Rattle.program_check.proofs.SoundLaws.{parts_holds}
use Rattle.program_check.proofs.laws.parts_law.Goals as goal

pub returns : goal.returns
returns c = parts_holds
