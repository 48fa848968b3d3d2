-- The corners of a walk.
use Rattle.std.specs.Prelude.{ℕ, ◌<◌, ℤ, ◌-ℤ◌, Bool, cond, ◌&&◌, List, [], ◌∷◌, length}
use Rattle.std.specs.Ordering.{int_eq}
use Rattle.board_base.specs.declared.places.Cell.{Cell}
use Rattle.board_base.specs.Lattice.{centre_of}
use Rattle.board_base.specs.Places.{IsPlace}
use Rattle.chain_walk.specs.Walk.{entry, IsConnected}

-- the step from b to c has the direction of the step from a to b
unfoldable pub goes_straight : Cell → Cell → Cell → Bool
goes_straight a b c = int_eq (b.i -ℤ a.i) (c.i -ℤ b.i) && int_eq (b.j -ℤ a.j) (c.j -ℤ b.j)

-- after the entries a and b: b where the direction changes there, and so on, and the last entry
abbrev pub turns_of : Cell → Cell → List Cell → List Cell
turns_of a b [] = b ∷ []
turns_of a b (c ∷ cells) = cond (goes_straight a b c) (turns_of b c cells) (b ∷ turns_of b c cells)

-- the first entry, each entry where the direction changes, and the last; one entry stands twice
abbrev pub corners_of : List Cell → List Cell
corners_of [] = []
corners_of (a ∷ []) = a ∷ a ∷ []
corners_of (a ∷ b ∷ cells) = a ∷ turns_of a b cells

-- a connected list of cells whose centres are all on the board
pub record IsTrace (p : ℤ) (cells : List Cell) : Type 0 where
  pub connected : IsConnected cells
  pub places : (k : ℕ) → k < length cells → IsPlace (centre_of p (entry cells k))
