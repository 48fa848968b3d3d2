use Rattle.grid_runs.proofs.DepthLaws.{exact_depths}
use Rattle.grid_runs.proofs.exact_depth_law.Goals as goal

pub returns : goal.returns
returns c = exact_depths
