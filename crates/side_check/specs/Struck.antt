-- Cells of a grid that moves strike, and those that they mark, in nanometres.
use Rattle.std.specs.Prelude.{◌≡◌, ◌⊎◌, ℕ, ℤ, ◌*ℤ◌, ◌<ℤ◌, Bool, true, ◌&&◌, List, ◌∷◌, ◌++◌}
use Rattle.std.specs.List.{Contains}
use Rattle.board_base.specs.declared.places.Cell.{Cell}
use Rattle.board_base.specs.declared.places.Point.{Point}
use Rattle.board_base.specs.declared.places.Move.{Move}
use Rattle.board_base.specs.Lattice.{centre_of}
use Rattle.board_base.specs.Near.{near_of}
use Rattle.cell_sets.specs.Chains.{IsBefore}
use Rattle.cell_grid.specs.Grid.{Grid}
use Rattle.cell_grid.specs.Place.{InFrame}
use Rattle.cell_grid.specs.Cells.{in_plane}
use Rattle.rs274_sim.specs.Cutter.{nanometre, IsLow}
use Rattle.program_check.specs.Deep.{Surface, IsDeepOver, point_under}

-- ---- the first cell

-- of the cells that pass the test this is the first in the order of rows
pub record IsFirstCell (test : Cell → Bool) (c : Cell) : Type 0 where
  pub passes : test c ≡ true
  pub first : (e : Cell) → test e ≡ true → IsBefore e c → ⊥

-- of those of its row
pub record IsFirstOfRow (test : Cell → Bool) (c : Cell) : Type 0 where
  pub passes : test c ≡ true
  pub first : (e : Cell) → e.j ≡ c.j → test e ≡ true → e.i <ℤ c.i → ⊥

-- ---- cells that are struck

-- the cell is kept, and twice its centre's distance from the segment is at most d
abbrev pub is_struck : Grid → Point → Point → ℤ → Cell → Bool
is_struck g a b d c = in_plane g.frame g.kept c && near_of (centre_of g.frame.pitch c) a b d

-- the same of a move
abbrev pub is_struck_by : Grid → ℤ → Move → Cell → Bool
is_struck_by g d m c = is_struck g (point_under m.from) (point_under m.to) d c

-- no low move of these strikes a cell
abbrev pub AreHarmless : Grid → ℤ → ℤ → List Move → Type 0
AreHarmless g d safe moves = (m : Move) (c : Cell) → Contains moves m → IsLow (safe *ℤ nanometre) m → is_struck_by g d m c ≡ true → ⊥

-- the first low move of these that strikes a cell, and the first cell that it strikes
pub record IsFirstStrike (g : Grid) (d safe : ℤ) (moves : List Move) (c : Cell) (line : ℕ) : Type 0 where
  pub before : List Move
  pub move : Move
  pub rest : List Move
  pub moves_are : moves ≡ before ++ move ∷ rest
  pub harmless : AreHarmless g d safe before
  pub low : IsLow (safe *ℤ nanometre) move
  pub first : IsFirstCell (is_struck_by g d move) c
  pub of_line : line ≡ move.line

-- ---- cells that are marked

-- twice the distance of the cell's centre from some deep move of these is at most d
abbrev pub IsPassedOver : Surface → ℤ → ℤ → ℤ → List Move → Cell → Type 0
IsPassedOver over work pitch d moves c =
    (m : Move) × Contains moves m × IsDeepOver over work m × (near_of (centre_of pitch c) (point_under m.from) (point_under m.to) d ≡ true)

-- of the frame's cells those are swept that were, and those that deep moves pass; nothing else has changed
pub record MarksDeep (over : Surface) (work d : ℤ) (moves : List Move) (old new : Grid) : Type 0 where
  pub rest : new ≡ record old { swept = new.swept }
  pub sound : (c : Cell) → InFrame old.frame c → in_plane old.frame new.swept c ≡ true → (in_plane old.frame old.swept c ≡ true) ⊎ IsPassedOver over work old.frame.pitch d moves c
  pub stays : (c : Cell) → InFrame old.frame c → in_plane old.frame old.swept c ≡ true → in_plane old.frame new.swept c ≡ true
  pub done : (c : Cell) → InFrame old.frame c → IsPassedOver over work old.frame.pitch d moves c → in_plane old.frame new.swept c ≡ true
