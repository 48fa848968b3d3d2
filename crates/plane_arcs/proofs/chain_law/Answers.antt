use Rattle.plane_arcs.proofs.ChainLaws.{chain_law}
use Rattle.plane_arcs.proofs.chain_law.Goals as goal

pub returns : goal.returns
returns c = chain_law
