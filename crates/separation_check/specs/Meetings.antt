-- Where islands meet classes of free cells.
use Rattle.std.specs.Prelude.{◌≡◌, ℕ, ◌<◌, ◌≤◌, Bool, true, List, length, map, slice_index}
use Rattle.std.specs.List.Sorted.{IsStrictlyIncreasing}
use Rattle.board_base.specs.declared.places.Cell.{Cell}
use Rattle.cell_grid.specs.declared.frames.Frame.{Frame}
use Rattle.cell_grid.specs.Place.{InFrame, place_of, cell_of_place}
use Rattle.cell_grid.specs.Cells.{in_frame}
use Rattle.separation_check.specs.declared.meetings.Meeting.{Meeting}

-- the islands of the meetings
abbrev pub islands_of : List Meeting → List ℕ
islands_of meetings = map (λ m. m.island) meetings

-- and their classes
abbrev pub classes_of : List Meeting → List ℕ
classes_of meetings = map (λ m. m.class) meetings

-- the cell at this place of the frame is free, of this island and of this class
pub record IsMet (f : Frame) (free : Cell → Bool) (number class : Cell → ℕ) (place island of_class : ℕ) : Type 0 where
  pub inside : in_frame f (cell_of_place f place) ≡ true
  pub place_is : place_of f (cell_of_place f place) ≡ place
  pub free_there : free (cell_of_place f place) ≡ true
  pub some : 0 < island
  pub number_is : number (cell_of_place f place) ≡ island
  pub class_is : class (cell_of_place f place) ≡ of_class

-- the cell's island has met its class there or at an earlier place
pub record IsNoted (f : Frame) (number class : Cell → ℕ) (places islands classes : List ℕ) (c : Cell) : Type 0 where
  pub at : ℕ
  pub at_in : at < length places
  pub early : slice_index places at ≤ place_of f c
  pub island : slice_index islands at ≡ number c
  pub of_class : slice_index classes at ≡ class c

-- each island meets each class that it has a free cell in, before place n: first at one of these rising places
pub record AreMeetings (f : Frame) (free : Cell → Bool) (number class : Cell → ℕ) (islands classes : List ℕ) (n : ℕ) : Type 0 where
  pub places : List ℕ
  pub same_islands : length islands ≡ length places
  pub same_classes : length classes ≡ length places
  pub ascending : IsStrictlyIncreasing places
  pub below : (a : ℕ) → a < length places → slice_index places a < n
  pub each : (a : ℕ) → a < length places → IsMet f free number class (slice_index places a) (slice_index islands a) (slice_index classes a)
  pub whole : (c : Cell) → InFrame f c → place_of f c < n → free c ≡ true → 0 < number c → IsNoted f number class places islands classes c
