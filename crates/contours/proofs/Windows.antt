-- The three columns round a cell, and how they go on along a row.
use Rattle.std.proofs.Common.{◌≡◌, inl, inr, ℕ, ◌<◌, ◌≤◌, ◌+◌, ℤ, pos, negsuc, ◌+ℤ◌, ◌-ℤ◌, ◌≤ℤ◌, ◌<ℤ◌, Bool, false, ◌&&◌, ◌||◌, sym, ap, ◌∙◌, arith}
use Rattle.std.proofs.lemmas.Bool.{cases_eq}
use borrow.Author.Differences.{ints}
use Rattle.board_base.specs.declared.places.Cell.{Cell}
use Rattle.cell_sets.proofs.CellLaws.{cell, same_cell}
use Rattle.cell_grid.specs.declared.frames.Frame.{Frame}
use Rattle.cell_grid.specs.Grid.{Grid}
use Rattle.cell_grid.specs.Place.{InFrame}
use Rattle.cell_grid.specs.Cells.{is_above}
use Rattle.contours.specs.Contour.{leaves_column, on_contour, is_on, moved}

-- the columns west of the cell in column x and row y, and its own
pub record IsWindow (g : Grid) (limit x y : ℕ) (west here : Bool) : Type 0 where
  pub west_is : west ≡ leaves_column (is_above g.frame g.clearances limit) (cell ((g.frame.i0 +ℤ pos x) -ℤ pos 1) (g.frame.j0 +ℤ pos y))
  pub here_is : here ≡ leaves_column (is_above g.frame g.clearances limit) (cell (g.frame.i0 +ℤ pos x) (g.frame.j0 +ℤ pos y))

-- the columns where a search begins
pub window_begun : (g : Grid) (frame : Frame) (limit x y : ℕ) (c d : Cell) (west here : Bool) → frame ≡ g.frame → c.i ≡ (frame.i0 +ℤ pos x) -ℤ pos 1 → c.j ≡ frame.j0 +ℤ pos y → d.i ≡ c.i +ℤ pos 1 → d.j ≡ c.j
    → west ≡ leaves_column (is_above g.frame g.clearances limit) c → here ≡ leaves_column (is_above g.frame g.clearances limit) d → IsWindow g limit x y west here
window_begun g frame limit x y c d west here f ci cj di dj w h =
    let M = is_above g.frame g.clearances limit in
    let i_is = ci ∙ ap (λ (f : Frame). (f.i0 +ℤ pos x) -ℤ pos 1) f in
    let j_is = cj ∙ ap (λ (f : Frame). f.j0 +ℤ pos y) f in
    record { west_is = w ∙ ap (leaves_column M) (same_cell c.i c.j _ _ i_is j_is); here_is = h ∙ ap (leaves_column M) (same_cell d.i d.j _ _ (next c.i d.i (g.frame.i0 +ℤ pos x) i_is di) (dj ∙ j_is)) }
  where
    next : (i k a : ℤ) → i ≡ a -ℤ pos 1 → k ≡ i +ℤ pos 1 → k ≡ a
    next i k a e f = omega (arith, ints)

-- what the test of a cell comes to, and the columns after it
pub record IsTested (g : Grid) (limit x y : ℕ) (here east on : Bool) : Type 0 where
  pub on_is : on ≡ is_on g limit x y
  pub window : IsWindow g limit (x + 1) y here east

pub tested : (g : Grid) (frame : Frame) (limit x y : ℕ) (c d : Cell) (west here east on : Bool) → frame ≡ g.frame → IsWindow g limit x y west here → c.i ≡ frame.i0 +ℤ pos x → c.j ≡ frame.j0 +ℤ pos y → d.i ≡ c.i +ℤ pos 1 → d.j ≡ c.j
    → east ≡ leaves_column (is_above g.frame g.clearances limit) d → on ≡ ((west || (here || east)) && is_above g.frame g.clearances limit c) → IsTested g limit x y here east on
unfolding on_contour
tested g frame limit x y c d west here east on f v ci cj di dj e o =
    let M = is_above g.frame g.clearances limit in
    let i = g.frame.i0 +ℤ pos x in
    let j = g.frame.j0 +ℤ pos y in
    let i_is : c.i ≡ i = ci ∙ ap (λ (f : Frame). f.i0 +ℤ pos x) f in
    let j_is : c.j ≡ j = cj ∙ ap (λ (f : Frame). f.j0 +ℤ pos y) f in
    let e_is : east ≡ leaves_column M (cell (i +ℤ pos 1) j) = e ∙ ap (leaves_column M) (same_cell d.i d.j _ _ (di ∙ ap (λ (k : ℤ). k +ℤ pos 1) i_is) (dj ∙ j_is)) in
    record {
      on_is = o ∙ ap (λ (q : Cell). (west || (here || east)) && M q) (same_cell c.i c.j i j i_is j_is)
          ∙ ap (λ (b : Bool). (b || (here || east)) && M (cell i j)) v.west_is
          ∙ ap (λ (b : Bool). (leaves_column M (cell (i -ℤ pos 1) j) || (b || east)) && M (cell i j)) v.here_is
          ∙ ap (λ (b : Bool). (leaves_column M (cell (i -ℤ pos 1) j) || (leaves_column M (cell i j) || b)) && M (cell i j)) e_is;
      window = record {
        west_is = v.here_is ∙ sym (ap (λ (k : ℤ). leaves_column M (cell k j)) (back g.frame.i0 x));
        here_is = e_is ∙ ap (λ (k : ℤ). leaves_column M (cell k j)) (on_by g.frame.i0 x);
      };
    }
  where
    back : (a : ℤ) (x : ℕ) → (a +ℤ pos (x + 1)) -ℤ pos 1 ≡ a +ℤ pos x
    back a x = omega (arith, ints)

    on_by : (a : ℤ) (x : ℕ) → (a +ℤ pos x) +ℤ pos 1 ≡ a +ℤ pos (x + 1)
    on_by a x = omega (arith, ints)

-- no column from one on is on the contour so far, nor is this one
pub passed_more : (test : ℕ → Bool) (from x : ℕ) → ((k : ℕ) → from ≤ k → k < x → test k ≡ false) → test x ≡ false → (k : ℕ) → from ≤ k → k < x + 1 → test k ≡ false
passed_more test from x before here k l h = elim (cases_eq k x) as (λ _. test k ≡ false) [ inl same ↦ ap test same ∙ here | inr other ↦ before k l (omega arith) ]

-- where the cells south and north of one are in the frame, so is that one
pub between_rows : (f : Frame) (c : Cell) → InFrame f (moved c (negsuc 0)) → InFrame f (moved c (pos 1)) → InFrame f c
unfolding moved
between_rows f c south north = record { column = south.column; row = record { low = up f.j0 c.j south.row.low; high = down c.j (f.j0 +ℤ pos f.height) north.row.high } }
  where
    up : (a j : ℤ) → a ≤ℤ (j +ℤ negsuc 0) → a ≤ℤ j
    up a j h = omega (arith, ints)

    down : (j b : ℤ) → (j +ℤ pos 1) <ℤ b → j <ℤ b
    down j b h = omega (arith, ints)
