-- Islands: the classes of kept cells under chains of neighbouring kept cells.
use Rattle.std.specs.Prelude.{◌≡◌, ℕ, ◌<◌, ◌≤◌, Bool, true, false}
use Rattle.board_base.specs.declared.places.Cell.{Cell}
use Rattle.cell_sets.specs.Chains.{IsBefore, IsLinked}

-- the kept cells have the numbers 1 to count, equal exactly where a chain of kept cells links them, in the order of their first cells
pub record AreIslands (kept : Cell → Bool) (number : Cell → ℕ) (count : ℕ) : Type 0 where
  pub clear : (c : Cell) → kept c ≡ false → number c ≡ 0
  pub some : (c : Cell) → kept c ≡ true → 0 < number c
  pub few : (c : Cell) → number c ≤ count
  pub same : (a b : Cell) → 0 < number a → number a ≡ number b → IsLinked kept a b
  pub whole : (a b : Cell) → IsLinked kept a b → number a ≡ number b
  pub order : (a : Cell) (u : ℕ) → 0 < u → u < number a → (b : Cell) × (IsBefore b a × (number b ≡ u))
  pub present : (u : ℕ) → 0 < u → u ≤ count → (b : Cell) × (number b ≡ u)

-- there are more islands than the limit
pub record AreMoreIslands (limit : ℕ) (kept : Cell → Bool) : Type 0 where
  pub number : Cell → ℕ
  pub count : ℕ
  pub islands : AreIslands kept number count
  pub more : limit < count

-- two numberings of the islands have one count
abbrev pub OneCount : Type 0
OneCount =
    (kept : Cell → Bool) (number number' : Cell → ℕ) (count count' : ℕ) → AreIslands kept number count → AreIslands kept number' count' → count ≡ count'
