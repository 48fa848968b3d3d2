use Rattle.side_surfaces.proofs.LevelledLaws.{levelled_sides_holds}
use Rattle.side_surfaces.proofs.levelled_sides_law.Goals as goal

pub returns : goal.returns
returns c = levelled_sides_holds c.alone_law.ensures c.lattice_law.ensures c.probed_law.ensures c.levelled_run_law.ensures c.grid_stroke_law.ensures
