-- The cells on the border of a frame.
use Rattle.std.proofs.Common.{◌≡◌, ◌≢◌, ℕ, ◌+◌, ℤ, pos, ◌+ℤ◌, ◌-ℤ◌, ◌≤ℤ◌, ◌<ℤ◌, unsigned_abs, false, ◌⊎◌, inl, inr, sym, subst, ◌∙◌, arith}
use Rattle.std.proofs.lemmas.Bool.{false≢true, cases_eq}
use borrow.Author.Differences.{ints}
use Rattle.board_base.specs.declared.places.Cell.{Cell}
use Rattle.board_base.specs.Lattice.{IsBeside}
use Rattle.cell_grid.specs.declared.frames.Frame.{Frame}
use Rattle.cell_grid.specs.Place.{InFrame, IsBetween, column_of, row_of}
use Rattle.cell_grid.specs.Cells.{in_frame, IsOnBorder}
use Rattle.cell_grid.proofs.CellsLaws.{in_frame_true}
use Rattle.islands.specs.Classes.{IsEdge}

-- the border by columns and rows
pub column_is : (f : Frame) (c : Cell) (x : ℕ) → c.i ≡ f.i0 +ℤ pos x → column_of f c ≡ x
column_is f c x e = omega (arith, ints)

pub row_is : (f : Frame) (c : Cell) (y : ℕ) → c.j ≡ f.j0 +ℤ pos y → row_of f c ≡ y
row_is f c y e = omega (arith, ints)

pub border_edge : (f : Frame) (c : Cell) (x y : ℕ) → c.i ≡ f.i0 +ℤ pos x → c.j ≡ f.j0 +ℤ pos y → IsOnBorder f c → IsEdge f x y
border_edge f c x y i j b =
    subst (λ (n : ℕ). (n ≡ 0) ⊎ (n + 1 ≡ f.width) ⊎ (y ≡ 0) ⊎ (y + 1 ≡ f.height)) (column_is f c x i)
    (subst (λ (n : ℕ). (column_of f c ≡ 0) ⊎ (column_of f c + 1 ≡ f.width) ⊎ (n ≡ 0) ⊎ (n + 1 ≡ f.height)) (row_is f c y j) b.edge)

-- a cell of the frame with a neighbour outside stands on the border
pub border_of : (f : Frame) (c d : Cell) → InFrame f c → in_frame f d ≡ false → IsBeside c d → IsOnBorder f c
border_of f c d h out s = record {
  inside = in_frame_true f c h;
  edge =
      elim (cases_eq (column_of f c) 0) as (λ _. (column_of f c ≡ 0) ⊎ (column_of f c + 1 ≡ f.width) ⊎ (row_of f c ≡ 0) ⊎ (row_of f c + 1 ≡ f.height)) [
        | inl e ↦ inl e
        | inr n1 ↦ elim (cases_eq (column_of f c + 1) f.width) as (λ _. (column_of f c ≡ 0) ⊎ (column_of f c + 1 ≡ f.width) ⊎ (row_of f c ≡ 0) ⊎ (row_of f c + 1 ≡ f.height)) [
          | inl e ↦ inr (inl e)
          | inr n2 ↦ elim (cases_eq (row_of f c) 0) as (λ _. (column_of f c ≡ 0) ⊎ (column_of f c + 1 ≡ f.width) ⊎ (row_of f c ≡ 0) ⊎ (row_of f c + 1 ≡ f.height)) [
            | inl e ↦ inr (inr (inl e))
            | inr n3 ↦ elim (cases_eq (row_of f c + 1) f.height) as (λ _. (column_of f c ≡ 0) ⊎ (column_of f c + 1 ≡ f.width) ⊎ (row_of f c ≡ 0) ⊎ (row_of f c + 1 ≡ f.height)) [
              | inl e ↦ inr (inr (inr e))
              | inr n4 ↦ absurd (false≢true (sym out ∙ in_frame_true f d (record {
                column = inner c.i d.i f.i0 f.width h.column.low h.column.high n1 n2 s.west s.east;
                row = inner c.j d.j f.j0 f.height h.row.low h.row.high n3 n4 s.south s.north;
              })))
            ]
          ]
        ]
      ];
}
  where
    inner : (i i' i0 : ℤ) (w : ℕ) → i0 ≤ℤ i → i <ℤ (i0 +ℤ pos w) → unsigned_abs (i -ℤ i0) ≢ 0 → unsigned_abs (i -ℤ i0) + 1 ≢ w → (i -ℤ i') ≤ℤ pos 1 → (i' -ℤ i) ≤ℤ pos 1 → IsBetween i' i0 w
    inner i i' i0 w a b m n low high = record { low = omega (arith, ints); high = omega (arith, ints) }
