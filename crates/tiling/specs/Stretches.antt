-- What the run of a program in tiles does: its low moves are copies of those of the program as it stands.
use Rattle.std.specs.Prelude.{◌≡◌, ℤ, ◌*ℤ◌, List, map, None}
use Rattle.std.specs.List.{AllZip, Contains, flat_map}
use Rattle.board_base.specs.declared.places.Point.{Point}
use Rattle.board_base.specs.declared.places.Move.{Move}
use Rattle.rs274_sim.specs.Cutter.{IsLow, nanometre}
use Rattle.mill_program.specs.declared.cuts.Program.{Program}
use Rattle.mill_program.specs.Conditions.{IsProgram, IsRunnable}
use Rattle.mill_program.specs.Moves.{moves_of, unnumbered}
use Rattle.tiling.specs.Tiles.{tiled, first_past}
use Rattle.tiling.specs.Copies.{move_in, back}

-- but for the numbers of lines, the low moves are the copies of those of the plain run in every tile, and no others
pub record AreLowCopies (height : ℤ) (shifts : List Point) (plain moves : List Move) : Type 0 where
  pub each : (m : Move) → Contains moves m → IsLow height m
      → (by : Point) × (n : Move) × Contains shifts by × Contains plain n × (unnumbered m ≡ unnumbered (move_in by n))
  pub all : (by : Point) (n : Move) → Contains shifts by → Contains plain n → IsLow height n
      → (m : Move) × Contains moves m × (unnumbered m ≡ unnumbered (move_in by n))

-- so it is with a program's run and that of the program in tiles
abbrev pub CopiesLaw : Type 0
CopiesLaw =
    (shifts : List Point) (p : Program) (plain moves : List Move) → IsRunnable p → map unnumbered plain ≡ moves_of p
    → map unnumbered moves ≡ moves_of (tiled shifts p) → AreLowCopies (p.safe *ℤ nanometre) shifts plain moves

-- the moves are a stretch for each tile, one behind another, each of which has P when it is moved back to the first tile
abbrev pub InTiles : List Point → (List Move → Type 0) → List Move → Type 0
InTiles shifts P moves =
    (stretches : List (List Move)) × (moves ≡ flat_map (λ stretch. stretch) stretches)
    × AllZip (λ by stretch. P (map (move_in (back by)) stretch)) shifts stretches

-- a program in tiles, no corner of which is past the range, is a program that can run
abbrev pub TiledProgramLaw : Type 0
TiledProgramLaw =
    (shifts : List Point) (p : Program) → IsProgram p → IsRunnable p → first_past (tiled shifts p).runs ≡ None
    → IsProgram (tiled shifts p) × IsRunnable (tiled shifts p)
