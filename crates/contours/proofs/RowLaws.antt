-- The test of a clearing row is what its definition says.
use Rattle.std.proofs.Common.{◌≡◌, inl, inr, ℕ, ◌+◌, ◌*◌, ◌/◌, ◌%◌, ◌==◌, int_le, ℤ, pos, ◌+ℤ◌, ◌-ℤ◌, ◌≤ℤ◌, unsigned_abs, Bool, true, ◌&&◌, ◌||◌, ◌↔◌, sym, ap, ◌∙◌, arith}
use Rattle.std.proofs.Math.Nat.{div-add-mod', mul-mod_left}
use Rattle.std.proofs.lemmas.Bool.{false≢true, eq-eqb, eqb-true}
use borrow.Author.Differences.{ints}
use Rattle.number_laws.proofs.Tests.{by_bool, both, first_of, second_of, left_true, right_true, either, to_le, of_le}
use Rattle.board_base.specs.declared.places.Cell.{Cell}
use Rattle.cell_grid.specs.declared.frames.Frame.{Frame}
use Rattle.cell_grid.specs.Grid.{Grid}
use Rattle.cell_grid.specs.Place.{cells_of}
use Rattle.cell_grid.specs.Cells.{in_frame, in_plane}
use Rattle.board_base.specs.declared.places.CellBox.{CellBox}
use Rattle.cell_sets.specs.Cleared.{IsOnClearingRow}
use Rattle.contours.specs.Rows.{is_cleared_row, is_cleared_column, is_cleared}
use Rattle.contours.proofs.Traces.{IsTraced, in_plane_out, plane_is}

-- the test of a cell by its row, its column and whether it may be visited
pub row_is : (start : Grid) (frame : Frame) (stride : ℕ) (inner : CellBox) (c : Cell) (row on : Bool) → row ≡ is_cleared_row stride inner c.j
    → on ≡ (row && is_cleared_column inner (in_plane start.frame start.allowed) c) → on ≡ is_cleared stride inner (in_plane start.frame start.allowed) c
unfolding is_cleared
row_is start frame stride inner c row on r o = o ∙ ap (λ (b : Bool). b && is_cleared_column inner (in_plane start.frame start.allowed) c) r

pub same_allowed : (start g : Grid) (frame : Frame) (test : Cell → Bool) (size n : ℕ) → IsTraced start frame test g size n → in_plane g.frame g.allowed ≡ in_plane start.frame start.allowed
same_allowed start g frame test size n p = ap (λ (h : Grid). in_plane h.frame h.allowed) p.rest

-- a number of rows that the stride divides
whole_rows : (stride : ℕ) (j j0 : ℤ) → j0 ≤ℤ j → unsigned_abs (j -ℤ j0) % stride ≡ 0 → (n : ℕ) × (j ≡ (j0 +ℤ pos (n * stride)))
whole_rows stride j j0 h e =
    (unsigned_abs (j -ℤ j0) / stride, by j j0 (unsigned_abs (j -ℤ j0) / stride * stride) (unsigned_abs (j -ℤ j0) % stride) h e (div-add-mod' (unsigned_abs (j -ℤ j0)) stride))
  where
    by : (j j0 : ℤ) (q m : ℕ) → j0 ≤ℤ j → m ≡ 0 → q + m ≡ unsigned_abs (j -ℤ j0) → j ≡ j0 +ℤ pos q
    by j j0 q m h e f = omega (arith, ints)

none_left : (stride n : ℕ) (j j0 : ℤ) → j ≡ j0 +ℤ pos (n * stride) → unsigned_abs (j -ℤ j0) % stride ≡ 0
none_left stride n j j0 e = ap (λ (m : ℕ). m % stride) (by j j0 (n * stride) e) ∙ mul-mod_left n stride
  where
    by : (j j0 : ℤ) (m : ℕ) → j ≡ j0 +ℤ pos m → unsigned_abs (j -ℤ j0) ≡ m
    by j j0 m e = omega (arith, ints)

cleared_is : (stride : ℕ) (inner : CellBox) (allowed : Cell → Bool) (c : Cell) → is_cleared stride inner allowed c ≡ true → IsOnClearingRow stride inner c × (allowed c ≡ true)
unfolding is_cleared is_cleared_row is_cleared_column
cleared_is stride inner allowed c e =
    let R = is_cleared_row stride inner c.j in
    let K = is_cleared_column inner allowed c in
    let low = int_le inner.j0 c.j in
    let high = int_le c.j inner.j1 in
    let west = int_le inner.i0 c.i in
    let east = int_le c.i inner.i1 in
    let at = int_le inner.j1 c.j || (unsigned_abs (c.j -ℤ inner.j0) % stride == 0) in
    let r = first_of R K e in
    let k = second_of R K e in
    let b = first_of (low && high) at r in
    let south = to_le inner.j0 c.j (first_of low high b) in
    let north = to_le c.j inner.j1 (second_of low high b) in (
      record {
        inside = record { west = to_le inner.i0 c.i (first_of west (east && allowed c) k); east = to_le c.i inner.i1 (first_of east (allowed c) (second_of west (east && allowed c) k)); south = south; north = north };
        row = either (int_le inner.j1 c.j) (unsigned_abs (c.j -ℤ inner.j0) % stride == 0) (second_of (low && high) at r)
            (λ top. inl (level c.j inner.j1 north (to_le inner.j1 c.j top)))
            (λ above. inr (whole_rows stride c.j inner.j0 south (eqb-true (unsigned_abs (c.j -ℤ inner.j0) % stride) 0 above)));
      },
      second_of east (allowed c) (second_of west (east && allowed c) k),
    )
  where
    level : (a b : ℤ) → a ≤ℤ b → b ≤ℤ a → a ≡ b
    level a b h k = omega (arith, ints)

is_cleared_by : (stride : ℕ) (inner : CellBox) (allowed : Cell → Bool) (c : Cell) → IsOnClearingRow stride inner c → allowed c ≡ true → is_cleared stride inner allowed c ≡ true
unfolding is_cleared is_cleared_row is_cleared_column
is_cleared_by stride inner allowed c p a =
    let low = int_le inner.j0 c.j in
    let high = int_le c.j inner.j1 in
    let west = int_le inner.i0 c.i in
    let east = int_le c.i inner.i1 in
    let top = int_le inner.j1 c.j in
    let above = unsigned_abs (c.j -ℤ inner.j0) % stride == 0 in
    both (is_cleared_row stride inner c.j) (is_cleared_column inner allowed c)
    (both (low && high) (top || above)
    (both low high (of_le inner.j0 c.j p.inside.south) (of_le c.j inner.j1 p.inside.north))
    (elim p.row as (λ _. (top || above) ≡ true) [
      | inl t ↦ left_true top above (of_le inner.j1 c.j (level c.j inner.j1 t))
      | inr n ↦ right_true top above (eq-eqb (unsigned_abs (c.j -ℤ inner.j0) % stride) 0 (none_left stride n.0 c.j inner.j0 n.1))
    ]))
    (both west (east && allowed c) (of_le inner.i0 c.i p.inside.west) (both east (allowed c) (of_le c.i inner.i1 p.inside.east) a))
  where
    level : (a b : ℤ) → a ≡ b → b ≤ℤ a
    level a b e = omega (arith, ints)

pub all_cleared : (start g : Grid) (frame : Frame) (stride : ℕ) (inner : CellBox) (size n : ℕ) → IsTraced start frame (is_cleared stride inner (in_plane start.frame start.allowed)) g size n → n ≡ cells_of frame
    → (c : Cell) → in_plane start.frame g.pass c ≡ true ↔ (IsOnClearingRow stride inner c × (in_plane start.frame start.allowed c ≡ true))
all_cleared start g frame stride inner size n p e c =
    let A = in_plane start.frame start.allowed in
    by_bool (in_frame start.frame c)
    (λ i.
    let is : in_plane start.frame g.pass c ≡ is_cleared stride inner A c = plane_is start g frame (is_cleared stride inner A) size n p e c i in
    (λ t. cleared_is stride inner A c (sym is ∙ t), λ k. is ∙ is_cleared_by stride inner A c k.0 k.1))
    (λ o. (λ t. absurd (false≢true (sym (in_plane_out start.frame g.pass c o) ∙ t)), λ k. absurd (false≢true (sym (in_plane_out start.frame start.allowed c o) ∙ k.1))))
