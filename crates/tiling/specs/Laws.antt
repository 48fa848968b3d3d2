-- What programs in tiles are.
use Rattle.std.specs.Prelude.{◌≡◌, ℕ, ◌<◌, ◌≤◌, ℤ, List, [], ◌∷◌, length, map, Ok, None}
use Rattle.std.specs.List.{flat_map}
use Rattle.board_base.specs.declared.places.Point.{Point}
use Rattle.mill_program.specs.declared.cuts.ToolRun.{ToolRun}
use Rattle.mill_program.specs.declared.cuts.Program.{Program}
use Rattle.mill_program.specs.Strokes.{Wanted, wanted_cut, wanted}
use Rattle.board_base.specs.Places.{origin}
use Rattle.tiling.specs.Tiles.{shifts_of, tiled, tile_of, first_past}
use Rattle.tiling.specs.Copies.{Tile, tiles_of, shift_in, pos_in}

-- in one tile a program is as it stands
abbrev pub OneTileLaw : Type 0
OneTileLaw = (p : Program) → tiled (origin ∷ []) p ≡ p

-- the shifts of tiles that are counted in cells
abbrev pub ShiftsLaw : Type 0
ShiftsLaw = (across up : ℕ) (pitch : ℤ) (step : Tile) → shifts_of across up (shift_in pitch step) ≡ map (shift_in pitch) (tiles_of across up step)

-- where there are tiles, there are shifts
abbrev pub SomeShiftsLaw : Type 0
SomeShiftsLaw = (across up : ℕ) (step : Point) → 1 ≤ across → 1 ≤ up → 0 < length (shifts_of across up step)

-- the only tile stands where the board does
abbrev pub OneShiftLaw : Type 0
OneShiftLaw = (step : Point) → shifts_of 1 1 step ≡ origin ∷ []

-- where the program in tiles is answered, no corner of it is past the range
abbrev pub TileValueLaw : Type 0
TileValueLaw =
    (across up : ℕ) (step : Point) (p q : Program) → tile_of across up step p ≡ Ok q → (q ≡ tiled (shifts_of across up step) p) × (first_past (tiled (shifts_of across up step) p).runs ≡ None)

-- ---- what is to be cut

-- the copy of what is to be cut
abbrev pub wanted_in : Point → Wanted → Wanted
wanted_in by want = record { tool = want.tool; places = map (pos_in by) want.places }

-- what the tool runs of a program have to cut in tiles: for each tool run, tile after tile, the copies of its cuts
abbrev pub wanted_in_tiles : List Point → List ToolRun → List Wanted
wanted_in_tiles shifts runs = flat_map (λ run. flat_map (λ by. map (wanted_in by) (map (wanted_cut run) run.cuts)) shifts) runs

-- so it is with the program in tiles
abbrev pub WantedLaw : Type 0
WantedLaw = (shifts : List Point) (p : Program) → wanted (tiled shifts p).runs ≡ wanted_in_tiles shifts p.runs
