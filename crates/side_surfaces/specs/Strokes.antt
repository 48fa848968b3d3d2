-- The strokes of a side's program in tiles, over a surface or over none.
use Rattle.std.specs.Prelude.{ℤ, List, map, Option, Some, None}
use Rattle.std.specs.List.{flat_map}
use Rattle.board_base.specs.declared.places.Cell.{Cell}
use Rattle.board_base.specs.declared.places.Pos.{Pos}
use Rattle.mill_program.specs.declared.cuts.Corner.{Corner}
use Rattle.mill_program.specs.declared.probes.ProbeGrid.{ProbeGrid}
use Rattle.mill_program.specs.Moves.{place_of}
use Rattle.mill_program.specs.Strokes.{Wanted}
use Rattle.levelling.specs.Pieces.{piece_of, in_pieces}
use Rattle.grid_runs.specs.Moves.{place_on}
use Rattle.tiling.specs.Tiles.{cut_in}
use Rattle.tiling.specs.Copies.{Tile, shift_in}
use Rattle.job_file.specs.declared.job.Job.{Job}
use Rattle.mill_plan.specs.Cuts.{trace_of}

-- a cut as it stands, or over a grid with each of its moves in pieces
abbrev pub cut_over : Option ProbeGrid → ℤ → List Corner → List Corner
cut_over None pitch cut = cut
cut_over (Some g) pitch cut = in_pieces pitch (piece_of g pitch) cut

-- a corner as it stands, or at exactly its height above the surface there
abbrev pub place_by : Option ProbeGrid → List ℤ → Corner → Pos
place_by None answers c = place_of c
place_by (Some g) answers c = place_on g answers c

-- a walk in a tile, with tool 1, at the job's depth over the surface
abbrev pub wanted_by : Job → Option ProbeGrid → List ℤ → Tile → List Cell → Wanted
wanted_by job grid answers tile walk = record {
  tool = 1;
  places = map (place_by grid answers) (cut_in (shift_in job.pitch tile) (cut_over grid job.pitch (trace_of job walk)));
}

-- these walks in each tile, tile after tile
abbrev pub wants_by : Job → Option ProbeGrid → List ℤ → List Tile → List (List Cell) → List Wanted
wants_by job grid answers tiles walks = flat_map (λ tile. map (wanted_by job grid answers tile) walks) tiles
