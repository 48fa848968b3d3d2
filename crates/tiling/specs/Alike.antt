-- Moves that cut the same, and the stretches of the run of a program in tiles.
use Rattle.std.specs.Prelude.{◌≡◌, ◌<◌, ℤ, ◌*ℤ◌, List, length, map}
use Rattle.std.specs.List.{Contains}
use Rattle.board_base.specs.declared.places.Point.{Point}
use Rattle.board_base.specs.declared.places.Move.{Move}
use Rattle.rs274_sim.specs.Cutter.{IsLow, nanometre}
use Rattle.rs274_sim.specs.Runs.{RunsTo}
use Rattle.mill_program.specs.declared.cuts.Program.{Program}
use Rattle.mill_program.specs.Conditions.{IsProgram, IsRunnable}
use Rattle.mill_program.specs.Lines.{lines_of}
use Rattle.mill_program.specs.Moves.{moves_of, unnumbered}
use Rattle.mill_program.specs.Strokes.{AreStrokes, Wanted, CutsExactly, wanted}
use Rattle.tiling.specs.Tiles.{tiled}
use Rattle.tiling.specs.Stretches.{InTiles}

-- but for the numbers of lines, both have these strokes, and nothing else of either is low
pub record CutAlike (height : ℤ) (plain moves : List Move) : Type 0 where
  pub strokes : List (List Move)
  pub of_plain : AreStrokes height strokes (map unnumbered plain)
  pub of_moves : AreStrokes height strokes (map unnumbered moves)

-- the run of a program of one tool run in tiles has a stretch for each tile, which cuts the plain program's strokes there
abbrev pub StretchLaw : Type 0
StretchLaw =
    (shifts : List Point) (p : Program) (plain moves : List Move) → 0 < length shifts → length p.runs ≡ 1 → IsRunnable p → map unnumbered plain ≡ moves_of p
    → map unnumbered moves ≡ moves_of (tiled shifts p) → InTiles shifts (CutAlike (p.safe *ℤ nanometre) plain) moves

-- in each tile that run cuts what the tool run says, stroke by stroke, and nothing else
abbrev pub TileStrokesLaw : Type 0
TileStrokesLaw =
    (shifts : List Point) (p : Program) → 0 < length shifts → length p.runs ≡ 1 → IsProgram p → IsRunnable p → IsProgram (tiled shifts p)
    → RunsTo (lines_of (tiled shifts p)) (InTiles shifts (CutsExactly p.safe (wanted p.runs)))

-- ---- what moves that cut alike share

-- what the one cut exactly the others cut exactly
abbrev pub CutsAlikeLaw : Type 0
CutsAlikeLaw = (safe : ℤ) (wants : List Wanted) (plain moves : List Move) → CutAlike (safe *ℤ nanometre) plain moves → CutsExactly safe wants plain → CutsExactly safe wants moves

-- but for the numbers of lines, each low move of the one is among the others
abbrev pub HaveLowOf : ℤ → List Move → List Move → Type 0
HaveLowOf height moves plain = (m : Move) → Contains moves m → IsLow height m → (n : Move) × Contains plain n × (unnumbered m ≡ unnumbered n)

-- so it is both ways
abbrev pub LowAlikeLaw : Type 0
LowAlikeLaw = (height : ℤ) (plain moves : List Move) → CutAlike height plain moves → HaveLowOf height moves plain × HaveLowOf height plain moves
