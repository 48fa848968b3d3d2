-- Moves at the depth of work, over the surface of the board.
use Rattle.std.specs.Prelude.{◌≡◌, ℤ, ◌+ℤ◌, ◌*ℤ◌, ◌≤ℤ◌, true}
use Rattle.std.specs.Int.{int_div_euclid}
use Rattle.board_base.specs.declared.places.Point.{Point}
use Rattle.board_base.specs.declared.places.Pos.{Pos}
use Rattle.board_base.specs.declared.places.Move.{Move}
use Rattle.rs274_sim.specs.Cutter.{nanometre}

-- the height of the board at a point, in 10^-12 mm
abbrev pub Surface : Type 0
Surface = Point → ℤ

-- the point under a position; X and Y of a machine are whole nanometres
abbrev pub point_under : Pos → Point
point_under p = record { x = int_div_euclid p.x nanometre; y = int_div_euclid p.y nanometre }

-- the position is at the depth of work over the surface, or below
abbrev pub IsDeepAt : Surface → ℤ → Pos → Type 0
IsDeepAt surface work p = p.z ≤ℤ (work *ℤ nanometre +ℤ surface (point_under p))

-- the spindle turns and both ends are at the depth of work over the surface, or below
abbrev pub IsDeepOver : Surface → ℤ → Move → Type 0
IsDeepOver surface work move = (move.turning ≡ true) × IsDeepAt surface work move.from × IsDeepAt surface work move.to
