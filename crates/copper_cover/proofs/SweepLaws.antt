-- Rows of cells of a frame, and objects painted along them.
use Rattle.std.proofs.Common.{◌≡◌, ℕ, ◌<◌, ◌≤◌, ◌+◌, ℤ, pos, neg_ℤ, ◌+ℤ◌, ◌≤ℤ◌, ◌<ℤ◌, unsigned_abs, Bool, refl, sym, ap, subst, ◌∙◌, arith}
use borrow.Author.Differences.{ints}
use Rattle.board_base.specs.declared.places.Cell.{Cell}
use Rattle.board_base.specs.declared.places.Point.{Point}
use Rattle.board_base.specs.Places.{IsNearPlace}
use Rattle.board_base.specs.Lattice.{IsPitch, centre_of, middle}
use Rattle.cell_grid.specs.declared.frames.Frame.{Frame}
use Rattle.cell_grid.specs.Place.{IsFrame, InFrame}
use Rattle.shape_parts.specs.declared.shape.Painted.{Painted}
use Rattle.shape_parts.specs.Shapes.{shape_touches, shape_covers}
use Rattle.copper_cover.specs.declared.columns.Row.{Row}
use Rattle.cell_grid.specs.declared.windows.Window.{Window}
use Rattle.copper_cover.specs.Kept.{kept_after}
use Rattle.cell_grid.specs.Windows.{IsInWindow}
use Rattle.copper_cover.specs.Rows.{east_of, centre_in, IsRow, bit_after}

-- the row starts at column x and row y of the frame
pub record StartsAt (frame : Frame) (x y : ℕ) (h : ℤ) (row : Row) : Type 0 where
  pub column : row.first.i ≡ frame.i0 +ℤ pos x
  pub row_is : row.first.j ≡ frame.j0 +ℤ pos y
  pub height : row.y ≡ middle frame.pitch row.first.j
  pub pitch : row.pitch ≡ frame.pitch
  pub reach : row.h ≡ h

cell : ℤ → ℤ → Cell
cell i j = record { i = i; j = j }

-- cell k of the row is that of the frame's column x + k
east_is : (frame : Frame) (x y k n : ℕ) (h : ℤ) (row : Row) (d : Cell) → StartsAt frame x y h row → n ≡ x + k → d.i ≡ frame.i0 +ℤ pos n → d.j ≡ frame.j0 +ℤ pos y → east_of row.first k ≡ d
unfolding east_of cell
east_is frame x y k n h row d s e i j = ap (λ (v : ℤ). cell v row.first.j) (sum _ _ _ x k n s.column e i) ∙ ap (λ (v : ℤ). cell d.i v) (s.row_is ∙ sym j)
  where
    sum : (a f d : ℤ) (x k n : ℕ) → a ≡ f +ℤ pos x → n ≡ x + k → d ≡ f +ℤ pos n → a +ℤ pos k ≡ d
    sum a f d x k n e g h = omega (arith, ints)

pub centre_is : (frame : Frame) (x y k n : ℕ) (h pitch : ℤ) (row : Row) (d : Cell) → StartsAt frame x y h row → pitch ≡ frame.pitch → n ≡ x + k → d.i ≡ frame.i0 +ℤ pos n → d.j ≡ frame.j0 +ℤ pos y
    → centre_in row k ≡ centre_of pitch d
centre_is frame x y k n h pitch row d s p e i j = ap (λ (z : ℤ). centre_of z (east_of row.first k)) (s.pitch ∙ sym p) ∙ ap (λ (c : Cell). centre_of pitch c) (east_is frame x y k n h row d s e i j)

-- the cell in a column and a row of the frame
cell_in : (frame : Frame) (x y : ℕ) → x < frame.width → y < frame.height → InFrame frame (cell (frame.i0 +ℤ pos x) (frame.j0 +ℤ pos y))
unfolding cell
cell_in frame x y l k = record { column = record { low = low frame.i0 x; high = high frame.i0 x frame.width l }; row = record { low = low frame.j0 y; high = high frame.j0 y frame.height k } }
  where
    low : (a : ℤ) (n : ℕ) → a ≤ℤ (a +ℤ pos n)
    low a n = omega (arith, ints)

    high : (a : ℤ) (n w : ℕ) → n < w → (a +ℤ pos n) <ℤ (a +ℤ pos w)
    high a n w l = omega (arith, ints)

-- such a row is a row of cells whose centres are places
pub row_is : (frame : Frame) (x y n : ℕ) (h : ℤ) (row : Row) → StartsAt frame x y h row → IsFrame frame → IsPitch frame.pitch → 0 < n → x + n ≤ frame.width → y < frame.height → pos 0 <ℤ h → h ≤ℤ pos 200000
    → ((c : Cell) → InFrame frame c → IsNearPlace (centre_of frame.pitch c)) → IsRow row n
unfolding cell
row_is frame x y n h row s valid pitch some wide high h_low h_high centres = record {
  pitch = subst IsPitch (sym s.pitch) pitch;
  first = size row.first.i frame.i0 x frame.width s.column (omega (arith, some, wide)) valid.placed.west valid.placed.east;
  some = some;
  few = omega (arith, wide, valid.wide);
  height = s.height ∙ ap (λ (z : ℤ). middle z row.first.j) (sym s.pitch);
  places = λ k l.
      subst IsNearPlace (sym (centre_is frame x y k (x + k) h frame.pitch row (cell (frame.i0 +ℤ pos (x + k)) (frame.j0 +ℤ pos y)) s refl refl refl refl))
      (centres (cell (frame.i0 +ℤ pos (x + k)) (frame.j0 +ℤ pos y)) (cell_in frame (x + k) y (omega (arith, l, wide)) high));
  h_low = subst (λ (z : ℤ). pos 0 <ℤ z) (sym s.reach) h_low;
  h_high = subst (λ (z : ℤ). z ≤ℤ pos 200000) (sym s.reach) h_high;
}
  where
    size : (a f : ℤ) (x w : ℕ) → a ≡ f +ℤ pos x → x ≤ w → neg_ℤ (pos 1000000000) ≤ℤ f → (f +ℤ pos w) ≤ℤ pos 1000000000 → unsigned_abs a ≤ 1000000000
    size a f x w e l h k = omega (arith, ints)

-- what the bits of a cell make of it
pub by_bits : (q : Point) (h : ℤ) (o : Painted) (was t v on : Bool) → t ≡ shape_touches q h o.shape → v ≡ shape_covers q h o.shape → on ≡ bit_after o.dark t v was → on ≡ kept_after q h was o
by_bits q h o was t v on e f g = g ∙ ap (λ (b : Bool). bit_after o.dark b v was) e ∙ ap (λ (b : Bool). bit_after o.dark (shape_touches q h o.shape) b was) f

-- the columns of a window that has none
pub no_columns : (frame : Frame) (w : Window) (c : Cell) → w.columns.to ≤ w.columns.from → IsInWindow frame w c → ⊥
no_columns frame w c l i = clash i.column.from i.column.to l
  where
    clash : {a b k : ℕ} → a ≤ k → k < b → b ≤ a → ⊥
    clash h k l = omega arith
