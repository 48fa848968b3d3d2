use Rattle.mill_outputs.specs.Headline.{IsTextOf, NeverBites, PassesVisited, SweepsVisited, FollowsWalks, Clears, Counts, Separates, CutsBoardOut, LeavesBridges}
use Rattle.mill_outputs.proofs.HeadlineLaws.{sides_after_done, levels_after_done, holes_after_done, outline_after_done}
use Rattle.mill_outputs.proofs.TileLaws.{TilingLaws}
use Rattle.mill_outputs.proofs.HoleLaws.{HoleLaws}
use Rattle.mill_outputs.proofs.BoardLaws.{cuts_board_out, leaves_bridges}
use Rattle.mill_outputs.proofs.SideLaws.{SideRunLaws, side_text, side_never_bites, side_passes, side_sweeps, side_follows, side_clears, side_counts, side_separates}
use Rattle.mill_outputs.proofs.laws.headline_law.Goals as goal

pub returns-clause-words : goal.returns-clause-words
returns-clause-words c =
    let tiling : TilingLaws = record {
      value = c.tile_value_law.ensures;
      shifts = c.shifts_law.ensures.cells;
      some = c.shifts_law.ensures.some;
      program = c.tiled_program_law.ensures;
      apart = c.apart_law.ensures;
      one_shift = c.shifts_law.ensures.one;
      one_tile = c.one_tile_law.ensures;
      one = c.levelled_sides_law.ensures.tiles;
    } in
    let sides : SideRunLaws = record { spelled = c.spelling_over_law.ensures; side = c.tiled_side_law.ensures; strokes = c.tiled_strokes_law.ensures; flat = c.flat_side_law.ensures; levels = c.levelled_sides_law.ensures } in
    sides_after_done tiling IsTextOf (side_text sides)

pub returns-clause-levelled : goal.returns-clause-levelled
returns-clause-levelled c =
    let tiling : TilingLaws = record {
      value = c.tile_value_law.ensures;
      shifts = c.shifts_law.ensures.cells;
      some = c.shifts_law.ensures.some;
      program = c.tiled_program_law.ensures;
      apart = c.apart_law.ensures;
      one_shift = c.shifts_law.ensures.one;
      one_tile = c.one_tile_law.ensures;
      one = c.levelled_sides_law.ensures.tiles;
    } in
    let holes : HoleLaws = record { spelled = c.spelling_over_law.ensures; few = c.few_diameters_law.ensures; limits = c.limits_law.ensures; holes = c.tiled_holes_law.ensures.tiles } in
    levels_after_done tiling holes

pub returns-clause-no_bite : goal.returns-clause-no_bite
returns-clause-no_bite c =
    let tiling : TilingLaws = record {
      value = c.tile_value_law.ensures;
      shifts = c.shifts_law.ensures.cells;
      some = c.shifts_law.ensures.some;
      program = c.tiled_program_law.ensures;
      apart = c.apart_law.ensures;
      one_shift = c.shifts_law.ensures.one;
      one_tile = c.one_tile_law.ensures;
      one = c.levelled_sides_law.ensures.tiles;
    } in
    let sides : SideRunLaws = record { spelled = c.spelling_over_law.ensures; side = c.tiled_side_law.ensures; strokes = c.tiled_strokes_law.ensures; flat = c.flat_side_law.ensures; levels = c.levelled_sides_law.ensures } in
    sides_after_done tiling NeverBites (side_never_bites sides)

pub returns-clause-visited : goal.returns-clause-visited
returns-clause-visited c =
    let tiling : TilingLaws = record {
      value = c.tile_value_law.ensures;
      shifts = c.shifts_law.ensures.cells;
      some = c.shifts_law.ensures.some;
      program = c.tiled_program_law.ensures;
      apart = c.apart_law.ensures;
      one_shift = c.shifts_law.ensures.one;
      one_tile = c.one_tile_law.ensures;
      one = c.levelled_sides_law.ensures.tiles;
    } in
    let sides : SideRunLaws = record { spelled = c.spelling_over_law.ensures; side = c.tiled_side_law.ensures; strokes = c.tiled_strokes_law.ensures; flat = c.flat_side_law.ensures; levels = c.levelled_sides_law.ensures } in
    sides_after_done tiling PassesVisited (side_passes sides)

pub returns-clause-swept : goal.returns-clause-swept
returns-clause-swept c =
    let tiling : TilingLaws = record {
      value = c.tile_value_law.ensures;
      shifts = c.shifts_law.ensures.cells;
      some = c.shifts_law.ensures.some;
      program = c.tiled_program_law.ensures;
      apart = c.apart_law.ensures;
      one_shift = c.shifts_law.ensures.one;
      one_tile = c.one_tile_law.ensures;
      one = c.levelled_sides_law.ensures.tiles;
    } in
    let sides : SideRunLaws = record { spelled = c.spelling_over_law.ensures; side = c.tiled_side_law.ensures; strokes = c.tiled_strokes_law.ensures; flat = c.flat_side_law.ensures; levels = c.levelled_sides_law.ensures } in
    sides_after_done tiling SweepsVisited (side_sweeps sides)

pub returns-clause-walks : goal.returns-clause-walks
returns-clause-walks c =
    let tiling : TilingLaws = record {
      value = c.tile_value_law.ensures;
      shifts = c.shifts_law.ensures.cells;
      some = c.shifts_law.ensures.some;
      program = c.tiled_program_law.ensures;
      apart = c.apart_law.ensures;
      one_shift = c.shifts_law.ensures.one;
      one_tile = c.one_tile_law.ensures;
      one = c.levelled_sides_law.ensures.tiles;
    } in
    let sides : SideRunLaws = record { spelled = c.spelling_over_law.ensures; side = c.tiled_side_law.ensures; strokes = c.tiled_strokes_law.ensures; flat = c.flat_side_law.ensures; levels = c.levelled_sides_law.ensures } in
    sides_after_done tiling FollowsWalks (side_follows sides)

pub returns-clause-clearing : goal.returns-clause-clearing
returns-clause-clearing c =
    let tiling : TilingLaws = record {
      value = c.tile_value_law.ensures;
      shifts = c.shifts_law.ensures.cells;
      some = c.shifts_law.ensures.some;
      program = c.tiled_program_law.ensures;
      apart = c.apart_law.ensures;
      one_shift = c.shifts_law.ensures.one;
      one_tile = c.one_tile_law.ensures;
      one = c.levelled_sides_law.ensures.tiles;
    } in
    sides_after_done tiling Clears side_clears

pub returns-clause-counts : goal.returns-clause-counts
returns-clause-counts c =
    let tiling : TilingLaws = record {
      value = c.tile_value_law.ensures;
      shifts = c.shifts_law.ensures.cells;
      some = c.shifts_law.ensures.some;
      program = c.tiled_program_law.ensures;
      apart = c.apart_law.ensures;
      one_shift = c.shifts_law.ensures.one;
      one_tile = c.one_tile_law.ensures;
      one = c.levelled_sides_law.ensures.tiles;
    } in
    sides_after_done tiling Counts side_counts

pub returns-clause-separates : goal.returns-clause-separates
returns-clause-separates c =
    let tiling : TilingLaws = record {
      value = c.tile_value_law.ensures;
      shifts = c.shifts_law.ensures.cells;
      some = c.shifts_law.ensures.some;
      program = c.tiled_program_law.ensures;
      apart = c.apart_law.ensures;
      one_shift = c.shifts_law.ensures.one;
      one_tile = c.one_tile_law.ensures;
      one = c.levelled_sides_law.ensures.tiles;
    } in
    let sides : SideRunLaws = record { spelled = c.spelling_over_law.ensures; side = c.tiled_side_law.ensures; strokes = c.tiled_strokes_law.ensures; flat = c.flat_side_law.ensures; levels = c.levelled_sides_law.ensures } in
    sides_after_done tiling Separates (side_separates sides)

pub returns-clause-holes : goal.returns-clause-holes
returns-clause-holes c =
    let tiling : TilingLaws = record {
      value = c.tile_value_law.ensures;
      shifts = c.shifts_law.ensures.cells;
      some = c.shifts_law.ensures.some;
      program = c.tiled_program_law.ensures;
      apart = c.apart_law.ensures;
      one_shift = c.shifts_law.ensures.one;
      one_tile = c.one_tile_law.ensures;
      one = c.levelled_sides_law.ensures.tiles;
    } in
    let holes : HoleLaws = record { spelled = c.spelling_over_law.ensures; few = c.few_diameters_law.ensures; limits = c.limits_law.ensures; holes = c.tiled_holes_law.ensures.tiles } in
    holes_after_done tiling holes

pub returns-clause-outline : goal.returns-clause-outline
returns-clause-outline c =
    let tiling : TilingLaws = record {
      value = c.tile_value_law.ensures;
      shifts = c.shifts_law.ensures.cells;
      some = c.shifts_law.ensures.some;
      program = c.tiled_program_law.ensures;
      apart = c.apart_law.ensures;
      one_shift = c.shifts_law.ensures.one;
      one_tile = c.one_tile_law.ensures;
      one = c.levelled_sides_law.ensures.tiles;
    } in
    outline_after_done tiling CutsBoardOut (cuts_board_out c.spelling_over_law.ensures c.tiled_outline_law.ensures)

pub returns-clause-bridges : goal.returns-clause-bridges
returns-clause-bridges c =
    let tiling : TilingLaws = record {
      value = c.tile_value_law.ensures;
      shifts = c.shifts_law.ensures.cells;
      some = c.shifts_law.ensures.some;
      program = c.tiled_program_law.ensures;
      apart = c.apart_law.ensures;
      one_shift = c.shifts_law.ensures.one;
      one_tile = c.one_tile_law.ensures;
      one = c.levelled_sides_law.ensures.tiles;
    } in
    outline_after_done tiling LeavesBridges (leaves_bridges c.spelling_over_law.ensures c.tiled_outline_law.ensures)
