use Rattle.grid_runs.proofs.SurfaceLaws.{surface_within}
use Rattle.grid_runs.proofs.surface_range_law.Goals as goal

pub returns : goal.returns
returns c = surface_within
