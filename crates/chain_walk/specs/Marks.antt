-- Which cells a walk may still go to: those of the frame whose working label isn't 0.
use Rattle.std.specs.Prelude.{◌≡◌, ◌⊎◌, ℕ, ◌<◌, nat_lt, Bool, true, List, length, count_by}
use Rattle.board_base.specs.declared.places.Cell.{Cell}
use Rattle.cell_grid.specs.declared.frames.Frame.{Frame}
use Rattle.cell_grid.specs.Place.{cells_of}
use Rattle.cell_grid.specs.Grid.{Grid}
use Rattle.cell_grid.specs.Cells.{in_frame, number_in}
use Rattle.cell_sets.specs.Chains.{IsLinked}
use Rattle.islands.specs.Ways.{neighbour_of}
use Rattle.chain_walk.specs.Walk.{IsFirst}

-- nothing but the working labels changed
abbrev pub ChangesWorks : Grid → Grid → Type 0
ChangesWorks old new = new ≡ record old { works = new.works }

-- b is the first neighbour of a cell that is open
pub record IsFirstOpen (f : Frame) (works : List ℕ) (at b : Cell) : Type 0 where
  pub way : ℕ
  pub way_in : way < 8
  pub is : b ≡ neighbour_of at way
  pub inside : in_frame f b ≡ true
  pub open_there : 0 < number_in f 0 works b
  pub first : (other : ℕ) → other < way → number_in f 0 works (neighbour_of at other) ≡ 0

-- no neighbour in a way before `turn` is open
abbrev pub AreClosed : Frame → List ℕ → Cell → ℕ → Type 0
AreClosed f works at turn = (way : ℕ) → way < turn → number_in f 0 works (neighbour_of at way) ≡ 0

-- the start is its component's first cell, the whole component is open, and every open cell is taken
pub record IsStartable (taken : Cell → Bool) (f : Frame) (works : List ℕ) (start : Cell) : Type 0 where
  pub len : length works ≡ cells_of f
  pub inside : in_frame f start ≡ true
  pub begins : IsFirst taken start
  pub opened : (c : Cell) → IsLinked taken start c → 0 < number_in f 0 works c
  pub open_taken : (c : Cell) → 0 < number_in f 0 works c → taken c ≡ true

-- exactly the component was closed
pub record IsWalked (taken : Cell → Bool) (f : Frame) (old new : List ℕ) (start : Cell) : Type 0 where
  pub len : length new ≡ cells_of f
  pub component : (c : Cell) → IsLinked taken start c → number_in f 0 new c ≡ 0
  pub others : (c : Cell) → number_in f 0 new c ≡ 0 → (number_in f 0 old c ≡ 0) ⊎ IsLinked taken start c
  pub stays : (c : Cell) → number_in f 0 old c ≡ 0 → number_in f 0 new c ≡ 0

-- how many cells are open
abbrev pub open_count : List ℕ → ℕ
open_count works = count_by (λ n. nat_lt 0 n) works
