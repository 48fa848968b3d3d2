use Rattle.mill_outputs.proofs.TileLaws.{TilingLaws}
use Rattle.checking.proofs.OwnLaws.{own_written, own_passes}
use Rattle.checking.proofs.laws.own_law.Goals as goal

pub returns-clause-written : goal.returns-clause-written
returns-clause-written c =
    let tiling : TilingLaws = record {
      value = c.tile_value_law.ensures;
      shifts = c.shifts_law.ensures.cells;
      some = c.shifts_law.ensures.some;
      program = c.tiled_program_law.ensures;
      apart = c.apart_law.ensures;
      one_shift = c.shifts_law.ensures.one;
      one_tile = c.one_tile_law.ensures;
      one = c.levelled_sides_law.ensures.tiles;
    } in
    own_written tiling

pub returns-clause-passes : goal.returns-clause-passes
returns-clause-passes c =
    own_passes c.one_count_law.ensures c.reading_law.ensures c.spelling_over_law.ensures c.levelled_sides_law.ensures c.own_clear_law.ensures c.own_side_law.ensures c.levelled_run_law.ensures c.own_moves_law.ensures c.check_law.ensures.exact
