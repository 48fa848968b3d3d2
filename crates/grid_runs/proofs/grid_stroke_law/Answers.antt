use Rattle.grid_runs.proofs.GridStrokeLaws.{grid_strokes}
use Rattle.grid_runs.proofs.grid_stroke_law.Goals as goal

pub returns : goal.returns
returns c = grid_strokes
