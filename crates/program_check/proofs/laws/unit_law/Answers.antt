use Rattle.program_check.proofs.SoundLaws.{unit_holds}
use Rattle.program_check.proofs.laws.unit_law.Goals as goal

pub returns : goal.returns
returns c = unit_holds
