-- Tiles, and the copies of a board that stand in them. Tiles are counted in cells, shifts in nanometres.
use Rattle.std.specs.Prelude.{ℕ, ◌*◌, ◌/◌, ◌%◌, ℤ, pos, neg_ℤ, ◌+ℤ◌, ◌*ℤ◌, List, map}
use Rattle.std.specs.List.{range_with_len}
use Rattle.board_base.specs.declared.places.Cell.{Cell}
use Rattle.board_base.specs.declared.places.Point.{Point}
use Rattle.board_base.specs.declared.places.Pos.{Pos}
use Rattle.board_base.specs.declared.places.Move.{Move}
use Rattle.rs274_sim.specs.Cutter.{nanometre}
use Rattle.mill_program.specs.declared.cuts.Program.{Program}
use Rattle.tiling.specs.Tiles.{tiled}

-- how many cells east and north of the first one a tile stands
pub record Tile : Type 0 where
  pub east : ℤ
  pub north : ℤ

-- the first tile
abbrev pub first_tile : Tile
first_tile = record { east = pos 0; north = pos 0 }

-- tile k of rows of so many, from step to step
abbrev pub tile_at : ℕ → Tile → ℕ → Tile
tile_at across step k = record { east = pos (k % across) *ℤ step.east; north = pos (k / across) *ℤ step.north }

-- all tiles, row after row
unfoldable pub tiles_of : ℕ → ℕ → Tile → List Tile
tiles_of across up step = map (tile_at across step) (range_with_len 0 (across * up))

-- how far a tile stands from the first one
abbrev pub shift_in : ℤ → Tile → Point
shift_in pitch tile = record { x = tile.east *ℤ pitch; y = tile.north *ℤ pitch }

-- the program with each tool run in every tile
abbrev pub tiled_in : ℤ → List Tile → Program → Program
tiled_in pitch tiles p = tiled (map (shift_in pitch) tiles) p

-- ---- copies

-- a cell's copy in a tile
abbrev pub cell_in : Tile → Cell → Cell
cell_in tile c = record { i = c.i +ℤ tile.east; j = c.j +ℤ tile.north }

-- a point's copy, so far away
abbrev pub point_in : Point → Point → Point
point_in by q = record { x = q.x +ℤ by.x; y = q.y +ℤ by.y }

-- a position's copy
abbrev pub pos_in : Point → Pos → Pos
pos_in by p = record { x = p.x +ℤ by.x *ℤ nanometre; y = p.y +ℤ by.y *ℤ nanometre; z = p.z }

-- a move's copy
abbrev pub move_in : Point → Move → Move
move_in by m = record {
  from = pos_in by m.from;
  to = pos_in by m.to;
  kind = m.kind;
  turning = m.turning;
  speed = m.speed;
  feed = m.feed;
  tool = m.tool;
  line = m.line;
}

-- the way back
abbrev pub back : Point → Point
back by = record { x = neg_ℤ by.x; y = neg_ℤ by.y }
