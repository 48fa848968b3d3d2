-- Where the moves of a run begin and end.
use Rattle.std.specs.Prelude.{◌≡◌, ℤ, true, List, [], ◌∷◌, Ok}
use Rattle.board_base.specs.declared.places.Pos.{Pos}
use Rattle.board_base.specs.declared.places.Move.{Move}
use Rattle.rs274_sim.specs.declared.line.Line.{Line}
use Rattle.rs274_sim.specs.Evaluation.{is_whole}
use Rattle.rs274_sim.specs.Machine.{run_of}

-- X and Y are whole nanometres
pub record IsWholePlace (p : Pos) : Type 0 where
  pub x : is_whole 1000000 p.x ≡ true
  pub y : is_whole 1000000 p.y ≡ true

-- so are those of both ends of each move
abbrev pub HaveWholeEnds : List Move → Type 0
HaveWholeEnds [] = Unit {0}
HaveWholeEnds (m ∷ moves) = IsWholePlace m.from × IsWholePlace m.to × HaveWholeEnds moves

-- the check may take points of nanometres for the ends of a run's moves
abbrev pub WholeLaw : Type 0
WholeLaw = (answers : List ℤ) (lines : List Line) (moves : List Move) → run_of answers lines ≡ Ok moves → HaveWholeEnds moves
