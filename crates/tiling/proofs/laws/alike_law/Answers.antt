use Rattle.tiling.proofs.AlikeLaws.{cuts_alike, low_alike}
use Rattle.tiling.proofs.laws.alike_law.Goals as goal

pub returns-clause-cuts : goal.returns-clause-cuts
returns-clause-cuts c = cuts_alike c.one_strokes_law.ensures

pub returns-clause-low : goal.returns-clause-low
returns-clause-low c = low_alike
