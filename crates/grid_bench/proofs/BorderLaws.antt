-- Rows and columns above a limit, and the border that they make.
use Rattle.std.proofs.Common.{◌≡◌, inl, inr, ℕ, ◌+◌, ◌-◌, ◌*◌, Bool, true, cond, nat_lt, List, slice_index, ap, ◌∙◌, arith}
use borrow.Author.Differences.{ints}
use Rattle.board_base.specs.declared.places.Cell.{Cell}
use Rattle.cell_grid.specs.declared.frames.Frame.{Frame}
use Rattle.cell_grid.specs.Place.{place_of, column_of, row_of}
use Rattle.cell_grid.specs.Cells.{in_frame, is_above, IsOnBorder}
use Rattle.cell_grid.proofs.CellsLaws.{in_frame_is}
use Rattle.grid_bench.specs.Borders.{IsRowAbove, IsColumnAbove}

-- the number at a place is above
at_place : (f : Frame) (clearances : List ℕ) (g : ℕ) (c : Cell) → in_frame f c ≡ true → nat_lt g (slice_index clearances (row_of f c * f.width + column_of f c)) ≡ true → is_above f clearances g c ≡ true
unfolding place_of
at_place f clearances g c inside above = ap (λ (b : Bool). cond b (nat_lt g (slice_index clearances (row_of f c * f.width + column_of f c))) true) inside ∙ above

in_row : (f : Frame) (clearances : List ℕ) (g : ℕ) (c : Cell) (y : ℕ) → in_frame f c ≡ true → row_of f c ≡ y → IsRowAbove f clearances g y → is_above f clearances g c ≡ true
in_row f clearances g c y inside e above =
    let h = in_frame_is f c inside in
    at_place f clearances g c inside (ap (λ (k : ℕ). nat_lt g (slice_index clearances (k * f.width + column_of f c))) e ∙ above (column_of f c) (omega (arith, ints, h.column.low, h.column.high)))

in_column : (f : Frame) (clearances : List ℕ) (g : ℕ) (c : Cell) (x : ℕ) → in_frame f c ≡ true → column_of f c ≡ x → IsColumnAbove f clearances g x → is_above f clearances g c ≡ true
in_column f clearances g c x inside e above =
    let h = in_frame_is f c inside in
    at_place f clearances g c inside (ap (λ (k : ℕ). nat_lt g (slice_index clearances (row_of f c * f.width + k))) e ∙ above (row_of f c) (omega (arith, ints, h.row.low, h.row.high)))

-- the two outer columns and the two outer rows are the border
pub border_above : (f : Frame) (clearances : List ℕ) (g : ℕ) → IsColumnAbove f clearances g 0 → IsColumnAbove f clearances g (f.width - 1) → IsRowAbove f clearances g 0 → IsRowAbove f clearances g (f.height - 1)
    → (c : Cell) → IsOnBorder f c → is_above f clearances g c ≡ true
border_above f clearances g west east south north c b =
    elim b.edge as (λ _. is_above f clearances g c ≡ true) [
      | inl e ↦ in_column f clearances g c 0 b.inside e west
      | inr rest ↦ elim rest as (λ _. is_above f clearances g c ≡ true) [
        | inl e ↦ in_column f clearances g c (f.width - 1) b.inside (last (column_of f c) f.width e) east
        | inr more ↦ elim more as (λ _. is_above f clearances g c ≡ true) [
          | inl e ↦ in_row f clearances g c 0 b.inside e south
          | inr e ↦ in_row f clearances g c (f.height - 1) b.inside (last (row_of f c) f.height e) north
        ]
      ]
    ]
  where
    last : (k n : ℕ) → k + 1 ≡ n → k ≡ n - 1
    last k n e = omega arith
