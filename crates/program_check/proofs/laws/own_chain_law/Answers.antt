use Rattle.program_check.proofs.OwnLaws.{own_chain_holds}
use Rattle.program_check.proofs.laws.own_chain_law.Goals as goal

pub returns : goal.returns
returns c = own_chain_holds
