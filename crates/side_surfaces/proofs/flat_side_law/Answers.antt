use Rattle.side_surfaces.proofs.FlatLaws.{flat_side_holds}
use Rattle.side_surfaces.proofs.flat_side_law.Goals as goal

pub returns : goal.returns
returns c = flat_side_holds c.flat_law.ensures
