use Rattle.side_runs.proofs.ValueLaws.{tiled_value_holds}
use Rattle.side_runs.proofs.laws.tiled_value_law.Goals as goal

pub returns : goal.returns
returns c =
    tiled_value_holds c.tile_value_law.ensures c.shifts_law.ensures.cells c.shifts_law.ensures.some c.tiled_program_law.ensures c.apart_law.ensures c.tiled_side_law.ensures c.tiled_strokes_law.ensures c.tile_stretches_law.ensures
