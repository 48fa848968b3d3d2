use Rattle.side_levels.proofs.LatticeLaws.{lattice_holds}
use Rattle.side_levels.proofs.laws.lattice_law.Goals as goal

pub returns : goal.returns
returns c = lattice_holds
