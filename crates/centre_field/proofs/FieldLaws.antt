-- Least squares over the places of a frame are clearances.
use Rattle.std.proofs.Common.{◌≡◌, ℕ, ◌<◌, ◌≤◌, ◌+◌, ◌*◌, ◌/◌, ◌%◌, ◌⊎◌, inl, inr, ℤ, pos, negsuc, ◌+ℤ◌, ◌-ℤ◌, ◌*ℤ◌, ◌≤ℤ◌, unsigned_abs, Bool, true, false, cond, List, get_or, refl, sym, ap, subst, ◌∙◌, arith}
use Rattle.std.specs.Int.{abs_diff}
use Rattle.std.proofs.lemmas.Nat.{mod-mul-add, div-mul-add}
use borrow.Author.Differences.{ints}
use Rattle.board_base.specs.declared.places.Cell.{Cell}
use Rattle.board_base.specs.Lattice.{dist2}
use Rattle.cell_grid.proofs.PlaceLaws.{column_below}
use Rattle.cell_grid.specs.declared.frames.Frame.{Frame}
use Rattle.cell_grid.specs.Place.{InFrame, IsBetween, place_of, row_of, column_of, cells_of, cell_of_place}
use Rattle.cell_grid.specs.Cells.{in_frame, in_plane, number_in}
use Rattle.cell_sets.specs.Clearance.{IsClearance}
use Rattle.cell_grid.proofs.PlaceLaws.{place_below}
use Rattle.cell_grid.proofs.CellsLaws.{in_frame_is, in_frame_true, cell_in, place_cell}
use Rattle.centre_field.specs.Distances.{square_gap, square_to_place, IsLeast, is_kept_at}
use Rattle.centre_field.proofs.LeastLaws.{square_to}

by_frame : (f : Frame) (c : Cell) (v : Bool) → cond (in_frame f c) v false ≡ true → (InFrame f c) × (v ≡ true)
by_frame f c v e = by (in_frame f c) v e (in_frame_is f c)
  where
    by : {P : Type 0} (t v : Bool) → cond t v false ≡ true → (t ≡ true → P) → P × (v ≡ true)
    by true v e k = (k refl, e)
    by false v e k = cc

square_law : (u : ℤ) → u *ℤ u ≡ pos (unsigned_abs u * unsigned_abs u)
square_law (pos a) = omega (arith, ints)
square_law (negsuc a) = omega (arith, ints)

abs_gap : (i j i0 : ℤ) {n : ℕ} {m : ℕ} → IsBetween i i0 n → IsBetween j i0 m → unsigned_abs (i -ℤ j) ≡ abs_diff (unsigned_abs (i -ℤ i0)) (unsigned_abs (j -ℤ i0))
abs_gap i j i0 h k = omega (arith, ints)

square_between : (i j i0 : ℤ) {n : ℕ} {m : ℕ} → IsBetween i i0 n → IsBetween j i0 m → (i -ℤ j) *ℤ (i -ℤ j) ≡ pos (square_gap (unsigned_abs (i -ℤ i0)) (unsigned_abs (j -ℤ i0)))
unfolding square_gap
square_between i j i0 h k =
    square_law (i -ℤ j) ∙ ap (λ (x : ℕ). pos (x * x)) (abs_gap i j i0 h k)

pos_sum : (a b : ℕ) → pos a +ℤ pos b ≡ pos (a + b)
pos_sum a b = omega (arith, ints)

square_of_cells : (f : Frame) (c k : Cell) → InFrame f c → InFrame f k → dist2 c k ≡ pos (square_gap (column_of f c) (column_of f k) + square_gap (row_of f c) (row_of f k))
unfolding dist2
square_of_cells f c k h l =
    cc (
      square_between c.i k.i f.i0 h.column l.column,
      square_between c.j k.j f.j0 h.row l.row,
      pos_sum (square_gap (column_of f c) (column_of f k)) (square_gap (row_of f c) (row_of f k)),
    )

-- the column and the row of a cell, by its place
pub column_at_place : (f : Frame) (c : Cell) → InFrame f c → place_of f c % f.width ≡ column_of f c
unfolding place_of
column_at_place f c h = mod-mul-add (row_of f c) f.width (column_of f c) (column_below f c h)

pub row_at_place : (f : Frame) (c : Cell) → InFrame f c → place_of f c / f.width ≡ row_of f c
unfolding place_of
row_at_place f c h = div-mul-add (row_of f c) f.width (column_of f c) (column_below f c h)

square_to_cell : (f : Frame) (c k : Cell) (n : ℕ) → InFrame f c → InFrame f k → n ≡ place_of f k → dist2 c k ≡ pos (square_to_place f.width (column_of f c) (row_of f c) n)
unfolding place_of
square_to_cell f c k n h l e =
    square_of_cells f c k h l ∙ ap pos (sym (square_to f.width (column_of f c) (row_of f c) (column_of f k) (row_of f k) n (column_below f k l) e))

never_both : {b : Bool} → b ≡ true → b ≡ false → ⊥
never_both p q = cc

le_pos : (a b : ℕ) (z : ℤ) → a ≤ b → z ≡ pos b → pos a ≤ℤ z
le_pos a b z h e = omega (arith, ints)

-- the least square from a cell of the frame is its clearance
pub least_is_clearance : (f : Frame) (kept : List Bool) (c : Cell) (x y v : ℕ) → InFrame f c → x ≡ column_of f c → y ≡ row_of f c
    → IsLeast (is_kept_at kept) (square_to_place f.width x y) (cells_of f) v → IsClearance (in_plane f kept) c v
least_is_clearance f kept c x y v h x_is y_is p = record {
  bound = λ k on.
      let w = by_frame f k (get_or kept (place_of f k) false) on in
      le_pos v (square_to_place f.width x y (place_of f k)) (dist2 c k) (p.bound (place_of f k) (place_below f k w.0) w.1) (to_cell k (place_of f k) w.0 refl);
  reached = elim p.reached as (λ _. ((k : Cell) × ((in_plane f kept k ≡ true) × (dist2 c k ≡ pos v))) ⊎ (((k : Cell) → in_plane f kept k ≡ true → ⊥) × (v ≡ 4294967295))) [
    | inl w ↦ inl (
      cell_of_place f w.0,
      (
        plane_on w.0 w.1.0 w.1.1.0,
        to_cell (cell_of_place f w.0) w.0 (cell_in f w.0 w.1.0) (sym (place_cell f w.0 w.1.0)) ∙ ap pos (sym w.1.1.1),
      ),
    )
    | inr w ↦ inr (λ k on. let u = by_frame f k (get_or kept (place_of f k) false) on in never_both u.1 (w.1 (place_of f k) (place_below f k u.0)), w.0)
  ];
}
  where
    to_cell : (k : Cell) (n : ℕ) → InFrame f k → n ≡ place_of f k → dist2 c k ≡ pos (square_to_place f.width x y n)
    to_cell k n l e = square_to_cell f c k n h l e ∙ cc (ap (λ (a : ℕ). pos (square_to_place f.width a (row_of f c) n)) x_is, ap (λ (b : ℕ). pos (square_to_place f.width x b n)) y_is)

    plane_on : (n : ℕ) → n < cells_of f → get_or kept n false ≡ true → in_plane f kept (cell_of_place f n) ≡ true
    plane_on n l on =
        ap (λ (t : Bool). cond t (get_or kept (place_of f (cell_of_place f n)) false) false) (in_frame_true f (cell_of_place f n) (cell_in f n l))
        ∙ ap (λ (m : ℕ). get_or kept m false) (place_cell f n l) ∙ on

-- the same from the table, at the cell's place
pub field_is_clearance : (f : Frame) (kept : List Bool) (table : List ℕ) (c : Cell) → InFrame f c
    → IsLeast (is_kept_at kept) (square_to_place f.width (column_of f c) (row_of f c)) (cells_of f) (get_or table (place_of f c) 0)
    → IsClearance (in_plane f kept) c (number_in f 4294967295 table c)
field_is_clearance f kept table c h p =
    subst (λ (n : ℕ). IsClearance (in_plane f kept) c n) (ap (λ (t : Bool). cond t (get_or table (place_of f c) 0) 4294967295) (sym (in_frame_true f c h)))
    (least_is_clearance f kept c (column_of f c) (row_of f c) (get_or table (place_of f c) 0) h refl refl p)
