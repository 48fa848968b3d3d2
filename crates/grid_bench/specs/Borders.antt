-- The clearances along a row or a column of a frame.
use Rattle.std.specs.Prelude.{◌≡◌, ◌<◌, ◌+◌, ◌*◌, ℕ, nat_lt, true, List, slice_index}
use Rattle.cell_grid.specs.declared.frames.Frame.{Frame}

-- each clearance in row y is above g
abbrev pub IsRowAbove : Frame → List ℕ → ℕ → ℕ → Type 0
IsRowAbove f clearances g y = (x : ℕ) → x < f.width → nat_lt g (slice_index clearances (y * f.width + x)) ≡ true

-- each clearance in column x is above g
abbrev pub IsColumnAbove : Frame → List ℕ → ℕ → ℕ → Type 0
IsColumnAbove f clearances g x = (y : ℕ) → y < f.height → nat_lt g (slice_index clearances (y * f.width + x)) ≡ true
