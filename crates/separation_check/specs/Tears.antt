-- Labels that tell classes apart, and where they don't.
use Rattle.std.specs.Prelude.{◌≡◌, ◌≢◌, ℕ, Bool, true}
use Rattle.board_base.specs.declared.places.Cell.{Cell}
use Rattle.board_base.specs.Lattice.{IsBeside}

-- two neighbouring free cells of different labels
pub record IsFault (free : Cell → Bool) (class : Cell → ℕ) (c d : Cell) : Type 0 where
  pub free_cell : free c ≡ true
  pub free_neighbour : free d ≡ true
  pub beside : IsBeside c d
  pub differ : class c ≢ class d

-- there are none
abbrev pub AreWhole : (Cell → Bool) → (Cell → ℕ) → Type 0
AreWhole free class = (a b : Cell) → free a ≡ true → free b ≡ true → IsBeside a b → class a ≡ class b
