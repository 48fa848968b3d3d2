use Rattle.program_check.proofs.OwnLaws.{own_frame_holds}
use Rattle.program_check.proofs.laws.own_frame_law.Goals as goal

pub returns : goal.returns
returns c = own_frame_holds
