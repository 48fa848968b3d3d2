-- The least squared distance at each place of a row, by the columns that are the nearest somewhere.
use Rattle.std.specs.Prelude.{◌≡◌, ℕ, suc, ◌+◌, ◌-◌, ◌*◌, ◌/◌, ◌<◌, ◌≤◌, ◌⊎◌, ◌==◌, Bool, true, not, nat_le, nat_lt, ◌&&◌, cond, List, slice_index, slice_set}
use Rattle.cell_grid.specs.Grid.{Grid}
use Rattle.centre_field.specs.Distances.{none, square_gap, IsLeast}
use Rattle.centre_field.specs.Columns.{number_at}

-- the squared distance from column x to the nearest kept cell of column a, whose squared distance along the column is known
unfoldable pub value_at : (ℕ → ℕ) → ℕ → ℕ → ℕ
value_at squares x a = square_gap x a + squares a

-- from where on column b with its square is nearer than column a with its own, for a < b
unfoldable pub start_from : ℕ → ℕ → ℕ → ℕ → ℕ
start_from a square_a b square_b = cond (nat_lt (b * b + square_b) (a * a + square_a)) 0 (((b * b + square_b) - (a * a + square_a)) / (2 * (b - a)) + 1)

-- the listed columns and their starts: at each x the least value over the columns before b is that of the last column listed that starts at or before x
pub record IsEnvelope (part : ℕ → Bool) (squares : ℕ → ℕ) (width : ℕ) (columns starts : ℕ → ℕ) (n b : ℕ) : Type 0 where
  pub few : n ≤ b
  pub listed : (j : ℕ) → j < n → columns j < b
  pub parts : (j : ℕ) → j < n → part (columns j) ≡ true
  pub rising : (j : ℕ) → suc j < n → starts j < starts (suc j)
  pub first : 0 < n → starts 0 ≡ 0
  pub some : (e : ℕ) → e < b → part e ≡ true → 0 < n
  pub best : (x j e : ℕ) → x < width → j < n → starts j ≤ x → (suc j < n → x < starts (suc j)) → e < b → part e ≡ true
      → value_at squares x (columns j) ≤ value_at squares x e

-- the column listed at j: the first of its three scratch numbers
abbrev pub column_at : List ℕ → ℕ → ℕ
column_at scratch j = slice_index scratch (3 * j)

-- where the column listed at j starts
abbrev pub start_at : List ℕ → ℕ → ℕ
start_at scratch j = slice_index scratch (3 * j + 1)

-- the square of the column listed at j
abbrev pub square_at : List ℕ → ℕ → ℕ
square_at scratch j = slice_index scratch (3 * j + 2)

-- the scratch numbers after a column is listed at j
unfoldable pub listed_at : List ℕ → ℕ → ℕ → ℕ → ℕ → List ℕ
listed_at scratch j column start square = slice_set (slice_set (slice_set scratch (3 * j) column) (3 * j + 1) start) (3 * j + 2) square

-- a listed column is a column of the row, as is its start, and its square is that of a distance
pub record IsShort (width : ℕ) (scratch : List ℕ) (j : ℕ) : Type 0 where
  pub column : column_at scratch j < width
  pub start : start_at scratch j < width
  pub square : square_at scratch j ≤ 1073676289

-- whether column a has a kept cell, by its distance in row y
abbrev pub has_distance : Grid → ℕ → ℕ → Bool
has_distance g y a = not (number_at g a y == none)

-- whether column a is no earlier than `from` and has a kept cell
abbrev pub has_distance_from : Grid → ℕ → ℕ → ℕ → Bool
has_distance_from g y from a = nat_le from a && has_distance g y a

-- the square of the distance in column a and row y
abbrev pub square_in : Grid → ℕ → ℕ → ℕ
square_in g y a = number_at g a y * number_at g a y

-- each number of row y is a distance below 32,768 or `none`
abbrev pub AreDistances : Grid → ℕ → Type 0
AreDistances g y = (a : ℕ) → a < g.frame.width → (number_at g a y ≡ none) ⊎ (number_at g a y < 32768)

-- so is each from one column on
abbrev pub AreDistancesFrom : Grid → ℕ → ℕ → Type 0
AreDistancesFrom g y from = (a : ℕ) → from ≤ a → a < g.frame.width → (number_at g a y ≡ none) ⊎ (number_at g a y < 32768)

-- the scratch numbers list the columns before b, with the squares of those
pub record ListsColumns (part : ℕ → Bool) (squares : ℕ → ℕ) (width : ℕ) (scratch : List ℕ) (n b : ℕ) : Type 0 where
  pub envelope : IsEnvelope part squares width (column_at scratch) (start_at scratch) n b
  pub squares_listed : (j : ℕ) → j < n → square_at scratch j ≡ squares (column_at scratch j)
  pub short : (j : ℕ) → j < n → IsShort width scratch j

-- they list the columns of row y from one on and before b
abbrev pub IsListing : Grid → ℕ → ℕ → List ℕ → ℕ → ℕ → Type 0
IsListing g y from scratch n b = ListsColumns (has_distance_from g y from) (square_in g y) g.frame.width scratch n b

-- v is the least value at column x over the columns of row y that have a kept cell
abbrev pub IsLeastInRow : Grid → ℕ → ℕ → ℕ → Type 0
IsLeastInRow g y x v = IsLeast (has_distance g y) (value_at (square_in g y) x) g.frame.width v

-- v is the least value at column x over those of the columns from `from` up to `to` that have a kept cell
abbrev pub IsLeastInSpan : Grid → ℕ → ℕ → ℕ → ℕ → ℕ → Type 0
IsLeastInSpan g y from to x v = IsLeast (has_distance_from g y from) (value_at (square_in g y) x) to v

-- the columns from `from` up to `to` of row y got numbers of which the fact holds, and no other number changed
pub record WritesSpan (Fact : ℕ → ℕ → Type 0) (old new : Grid) (y from to : ℕ) : Type 0 where
  pub before : (k : ℕ) → k < y * old.frame.width → slice_index new.clearances k ≡ slice_index old.clearances k
  pub after : (k : ℕ) → y * old.frame.width + old.frame.width ≤ k → slice_index new.clearances k ≡ slice_index old.clearances k
  pub west : (x : ℕ) → x < from → number_at new x y ≡ number_at old x y
  pub east : (x : ℕ) → to ≤ x → x < old.frame.width → number_at new x y ≡ number_at old x y
  pub written : (x : ℕ) → from ≤ x → x < to → Fact x (number_at new x y)

-- row y got its least values, and nothing else changed but scratch numbers
pub record FinishesRow (old new : Grid) (y : ℕ) : Type 0 where
  pub rest : new ≡ record old { clearances = new.clearances; scratch = new.scratch }
  pub before : (k : ℕ) → k < y * old.frame.width → slice_index new.clearances k ≡ slice_index old.clearances k
  pub after : (k : ℕ) → y * old.frame.width + old.frame.width ≤ k → slice_index new.clearances k ≡ slice_index old.clearances k
  pub least : (x : ℕ) → x < old.frame.width → IsLeastInRow old y x (number_at new x y)

-- all rows got their least values
abbrev pub AreLeastInRows : Grid → Grid → Type 0
AreLeastInRows old new = (x y : ℕ) → x < old.frame.width → y < old.frame.height → IsLeastInRow old y x (number_at new x y)
