-- The test of the three columns is the contour.
use Rattle.std.proofs.Common.{◌≡◌, ◌⊎◌, inl, inr, ℕ, ℤ, pos, negsuc, ◌+ℤ◌, ◌-ℤ◌, ◌≤ℤ◌, ◌<ℤ◌, Bool, true, false, cond, not, ◌||◌, ◌↔◌, List, slice_index, nat_lt, sym, ap, ◌∙◌, arith}
use Rattle.std.proofs.lemmas.Bool.{false≢true}
use Rattle.std.proofs.lemmas.Int.{by_lt_z}
use borrow.Author.Differences.{ints}
use Rattle.number_laws.proofs.Tests.{by_bool, both, first_of, second_of, left_true, right_true, either, not_true}
use Rattle.board_base.specs.declared.places.Cell.{Cell}
use Rattle.cell_sets.proofs.CellLaws.{cell, same_cell, beside_sym}
use Rattle.cell_grid.specs.declared.frames.Frame.{Frame}
use Rattle.cell_grid.specs.Grid.{Grid}
use Rattle.cell_grid.specs.Place.{place_of, cells_of}
use Rattle.cell_grid.specs.Cells.{in_frame, in_plane, is_above, IsOnBorder}
use Rattle.cell_grid.proofs.CellsLaws.{in_frame_is, border_of}
use Rattle.contours.specs.Contour.{leaves_column, on_contour, moved, IsContourOf}
use Rattle.contours.proofs.Traces.{IsTraced, in_plane_out, plane_is}

-- a cell of the column, in the row or beside it, that is no member
pub record IsLeft (member : Cell → Bool) (i j : ℤ) : Type 0 where
  pub row : ℤ
  pub low : (j -ℤ row) ≤ℤ pos 1
  pub high : (row -ℤ j) ≤ℤ pos 1
  pub out : member (cell i row) ≡ false

column_left : (member : Cell → Bool) (c : Cell) → leaves_column member c ≡ true → IsLeft member c.i c.j
unfolding leaves_column moved
column_left member c e =
    either (not (member (moved c (negsuc 0)))) (not (member c) || not (member (moved c (pos 1)))) e
    (λ s. record { row = c.j +ℤ negsuc 0; low = low_south c.j; high = high_south c.j; out = not_true (member (moved c (negsuc 0))) s })
    (λ o. either (not (member c)) (not (member (moved c (pos 1)))) o
    (λ h. record { row = c.j; low = level c.j; high = level c.j; out = not_true (member c) h })
    (λ n. record { row = c.j +ℤ pos 1; low = low_north c.j; high = high_north c.j; out = not_true (member (moved c (pos 1))) n }))
  where
    low_south : (j : ℤ) → (j -ℤ (j +ℤ negsuc 0)) ≤ℤ pos 1
    low_south j = omega (arith, ints)

    high_south : (j : ℤ) → ((j +ℤ negsuc 0) -ℤ j) ≤ℤ pos 1
    high_south j = omega (arith, ints)

    level : (j : ℤ) → (j -ℤ j) ≤ℤ pos 1
    level j = omega (arith, ints)

    low_north : (j : ℤ) → (j -ℤ (j +ℤ pos 1)) ≤ℤ pos 1
    low_north j = omega (arith, ints)

    high_north : (j : ℤ) → ((j +ℤ pos 1) -ℤ j) ≤ℤ pos 1
    high_north j = omega (arith, ints)

-- the three whole numbers at most one away
three : (a b : ℤ) → (a -ℤ b) ≤ℤ pos 1 → (b -ℤ a) ≤ℤ pos 1 → (b ≡ a +ℤ negsuc 0) ⊎ (b ≡ a) ⊎ (b ≡ a +ℤ pos 1)
three a b h k =
    by_lt_z b a (λ (l : b <ℤ a). inl (omega (arith, ints)))
    (λ (l : a ≤ℤ b). by_lt_z a b (λ (m : a <ℤ b). inr (inr (omega (arith, ints)))) (λ (m : b ≤ℤ a). inr (inl (omega (arith, ints)))))

column_leaves : (member : Cell → Bool) (c b : Cell) → b.i ≡ c.i → (c.j -ℤ b.j) ≤ℤ pos 1 → (b.j -ℤ c.j) ≤ℤ pos 1 → member b ≡ false → leaves_column member c ≡ true
unfolding leaves_column moved
column_leaves member c b ei h k out =
    elim (three c.j b.j h k) [
      | inl s ↦ left_true (not (member (moved c (negsuc 0)))) (not (member c) || not (member (moved c (pos 1)))) (ap not (ap member (sym (same_cell b.i b.j c.i (c.j +ℤ negsuc 0) ei s)) ∙ out))
      | inr o ↦ right_true (not (member (moved c (negsuc 0)))) (not (member c) || not (member (moved c (pos 1)))) (elim o [
        | inl h ↦ left_true (not (member c)) (not (member (moved c (pos 1)))) (ap not (ap member (sym (same_cell b.i b.j c.i c.j ei h)) ∙ out))
        | inr n ↦ right_true (not (member c)) (not (member (moved c (pos 1)))) (ap not (ap member (sym (same_cell b.i b.j c.i (c.j +ℤ pos 1) ei n)) ∙ out))
      ])
    ]

-- a column beside the cell's own, or that one, has what a contour needs
neighbour_of : (member : Cell → Bool) (c : Cell) (i : ℤ) → member c ≡ true → (c.i -ℤ i) ≤ℤ pos 1 → (i -ℤ c.i) ≤ℤ pos 1 → IsLeft member i c.j → IsContourOf member c
neighbour_of member c i m h k l =
    (m, (cell i l.row, (record { apart = λ e. clash (member c) m (ap member e ∙ l.out); beside = record { west = h; east = k; south = l.low; north = l.high } }, l.out)))
  where
    clash : (b : Bool) → b ≡ true → b ≡ false → ⊥
    clash b e f = absurd (false≢true (sym f ∙ e))

pub contour_is : (member : Cell → Bool) (c : Cell) → on_contour member c ≡ true → IsContourOf member c
unfolding on_contour
contour_is member c e =
    let W = leaves_column member (cell (c.i -ℤ pos 1) c.j) in
    let H = leaves_column member c in
    let E = leaves_column member (cell (c.i +ℤ pos 1) c.j) in
    let m = second_of (W || (H || E)) (member c) e in
    either W (H || E) (first_of (W || (H || E)) (member c) e)
    (λ w. neighbour_of member c (c.i -ℤ pos 1) m (west_low c.i) (west_high c.i) (column_left member (cell (c.i -ℤ pos 1) c.j) w))
    (λ o. either H E o
    (λ h. neighbour_of member c c.i m (level c.i) (level c.i) (column_left member c h))
    (λ x. neighbour_of member c (c.i +ℤ pos 1) m (east_low c.i) (east_high c.i) (column_left member (cell (c.i +ℤ pos 1) c.j) x)))
  where
    west_low : (i : ℤ) → (i -ℤ (i -ℤ pos 1)) ≤ℤ pos 1
    west_low i = omega (arith, ints)

    west_high : (i : ℤ) → ((i -ℤ pos 1) -ℤ i) ≤ℤ pos 1
    west_high i = omega (arith, ints)

    level : (i : ℤ) → (i -ℤ i) ≤ℤ pos 1
    level i = omega (arith, ints)

    east_low : (i : ℤ) → (i -ℤ (i +ℤ pos 1)) ≤ℤ pos 1
    east_low i = omega (arith, ints)

    east_high : (i : ℤ) → ((i +ℤ pos 1) -ℤ i) ≤ℤ pos 1
    east_high i = omega (arith, ints)

pub is_contour : (member : Cell → Bool) (c : Cell) → IsContourOf member c → on_contour member c ≡ true
unfolding on_contour
is_contour member c p =
    let b = p.1.0 in
    let near = p.1.1.0.beside in
    let out = p.1.1.1 in
    let W = leaves_column member (cell (c.i -ℤ pos 1) c.j) in
    let H = leaves_column member c in
    let E = leaves_column member (cell (c.i +ℤ pos 1) c.j) in
    both (W || (H || E)) (member c)
    (elim (three c.i b.i near.west near.east) [
      | inl w ↦ left_true W (H || E) (column_leaves member (cell (c.i -ℤ pos 1) c.j) b w near.south near.north out)
      | inr o ↦ right_true W (H || E) (elim o [
        | inl h ↦ left_true H E (column_leaves member c b h near.south near.north out)
        | inr x ↦ right_true H E (column_leaves member (cell (c.i +ℤ pos 1) c.j) b x near.south near.north out)
      ])
    ]) p.0

above_out : (f : Frame) (clearances : List ℕ) (g : ℕ) (c : Cell) → in_frame f c ≡ false → is_above f clearances g c ≡ true
above_out f clearances g c e = ap (λ (b : Bool). cond b (nat_lt g (slice_index clearances (place_of f c))) true) e

-- no cell outside the frame is on the contour
out_of_contour : (f : Frame) (clearances : List ℕ) (g : ℕ) → ((c : Cell) → IsOnBorder f c → is_above f clearances g c ≡ true) → (c : Cell) → in_frame f c ≡ false → IsContourOf (is_above f clearances g) c → ⊥
out_of_contour f clearances g border c e p =
    let b = p.1.0 in
    let above : is_above f clearances g b ≡ true =
    by_bool (in_frame f b) (λ i. border b (border_of f b c (in_frame_is f b i) e (beside_sym c b p.1.1.0.beside))) (λ o. above_out f clearances g b o) in
    absurd (false≢true (sym p.1.1.1 ∙ above))

pub all_traced : (start g : Grid) (frame : Frame) (limit size n : ℕ) → IsTraced start frame (on_contour (is_above start.frame start.clearances limit)) g size n → n ≡ cells_of frame
    → ((c : Cell) → IsOnBorder start.frame c → is_above start.frame start.clearances limit c ≡ true)
    → (c : Cell) → in_plane start.frame g.pass c ≡ true ↔ IsContourOf (is_above start.frame start.clearances limit) c
all_traced start g frame limit size n p e border c =
    let M = is_above start.frame start.clearances limit in
    by_bool (in_frame start.frame c)
    (λ i.
    let is : in_plane start.frame g.pass c ≡ on_contour M c = plane_is start g frame (on_contour M) size n p e c i in
    (λ t. contour_is M c (sym is ∙ t), λ k. is ∙ is_contour M c k))
    (λ o. (λ t. absurd (false≢true (sym (in_plane_out start.frame g.pass c o) ∙ t)), λ k. absurd (out_of_contour start.frame start.clearances limit border c o k)))
