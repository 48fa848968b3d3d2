-- Columns of a row that are told to be off the contour by their clearances.
use Rattle.std.proofs.Common.{◌≡◌, ℕ, ◌<◌, ◌≤◌, ◌+◌, ◌-◌, ◌*◌, ℤ, pos, negsuc, ◌+ℤ◌, ◌-ℤ◌, Bool, true, false, not, cond, ◌&&◌, ◌||◌, slice_index, nat_lt, refl, ap, ◌∙◌, arith}
use borrow.Author.Differences.{ints}
use Rattle.number_laws.proofs.Tests.{by_bool, below, is_below}
use Rattle.cell_sets.proofs.CellLaws.{cell}
use Rattle.cell_grid.specs.Grid.{Grid}
use Rattle.cell_grid.specs.Place.{place_of}
use Rattle.cell_grid.specs.Cells.{in_frame, is_above}
use Rattle.cell_grid.proofs.CellsLaws.{in_frame_true}
use Rattle.contours.specs.Contour.{leaves_column, on_contour, moved, cell_in, is_on}
use Rattle.contours.proofs.Traces.{in_row, place_in_row}

-- the clearances at the places of row y from column `from` on and before `to` are above the limit
abbrev pub AreAbove : Grid → ℕ → ℕ → ℕ → ℕ → Type 0
AreAbove g limit y from to = (i : ℕ) → y * g.frame.width + from ≤ i → i < y * g.frame.width + to → limit < slice_index g.clearances i

-- so is a cell there, and any that stands outside the frame
above_in : (g : Grid) (limit x y from to : ℕ) → AreAbove g limit y from to → from ≤ x → x < to → is_above g.frame g.clearances limit (cell_in g.frame x y) ≡ true
above_in g limit x y from to a low high =
    let c = cell_in g.frame x y in
    let reads = λ (b : Bool). cond b (nat_lt limit (slice_index g.clearances (place_of g.frame c))) true in
    by_bool (in_frame g.frame c)
    (λ i. ap reads i ∙ ap (λ (k : ℕ). nat_lt limit (slice_index g.clearances k)) (place_in_row g.frame x y)
    ∙ below limit (slice_index g.clearances (y * g.frame.width + x)) (a (y * g.frame.width + x) (past (y * g.frame.width) from x low) (before (y * g.frame.width) x to high)))
    (λ o. ap reads o)
  where
    past : (r f x : ℕ) → f ≤ x → r + f ≤ r + x
    past r f x h = omega arith

    before : (r x t : ℕ) → x < t → r + x < r + t
    before r x t h = omega arith

-- a column whose three cells are above stays
column_stays : (g : Grid) (limit x y from to : ℕ) → 0 < y → from ≤ x → x < to → AreAbove g limit (y - 1) from to → AreAbove g limit y from to → AreAbove g limit (y + 1) from to
    → leaves_column (is_above g.frame g.clearances limit) (cell_in g.frame x y) ≡ false
unfolding leaves_column moved
column_stays g limit x y from to inner low high south here north =
    let M = is_above g.frame g.clearances limit in
    let i = g.frame.i0 +ℤ pos x in
    let at = λ (j : ℤ). M (cell i j) in
    none _ _ _ (ap at (back g.frame.j0 y inner) ∙ above_in g limit x (y - 1) from to south low high) (above_in g limit x y from to here low high)
    (ap at (on_by g.frame.j0 y) ∙ above_in g limit x (y + 1) from to north low high)
  where
    back : (a : ℤ) (y : ℕ) → 0 < y → (a +ℤ pos y) +ℤ negsuc 0 ≡ a +ℤ pos (y - 1)
    back a y h = omega (arith, ints)

    on_by : (a : ℤ) (y : ℕ) → (a +ℤ pos y) +ℤ pos 1 ≡ a +ℤ pos (y + 1)
    on_by a y = omega (arith, ints)

    none : (s h n : Bool) → s ≡ true → h ≡ true → n ≡ true → (not s || (not h || not n)) ≡ false
    none s h n e f g = ap (λ (b : Bool). not b || (not h || not n)) e ∙ ap (λ (b : Bool). not b || not n) f ∙ ap not g

-- a cell is off the contour where it and all cells round it are above
pub far_quiet : (g : Grid) (limit x y from to : ℕ) → 0 < y → from < x → x + 1 < to → AreAbove g limit (y - 1) from to → AreAbove g limit y from to → AreAbove g limit (y + 1) from to → is_on g limit x y ≡ false
unfolding on_contour
far_quiet g limit x y from to inner low high south here north =
    let M = is_above g.frame g.clearances limit in
    let j = g.frame.j0 +ℤ pos y in
    let leaves = λ (i : ℤ). leaves_column M (cell i j) in
    gone _ _ _ (M (cell_in g.frame x y)) (ap leaves (back g.frame.i0 x from low) ∙ column_stays g limit (x - 1) y from to inner (west from x low) (middle x to high) south here north)
    (column_stays g limit x y from to inner (weak from x low) (less x to high) south here north) (ap leaves (on_by g.frame.i0 x) ∙ column_stays g limit (x + 1) y from to inner (past from x low) high south here north)
  where
    back : (a : ℤ) (x f : ℕ) → f < x → (a +ℤ pos x) -ℤ pos 1 ≡ a +ℤ pos (x - 1)
    back a x f h = omega (arith, ints)

    on_by : (a : ℤ) (x : ℕ) → (a +ℤ pos x) +ℤ pos 1 ≡ a +ℤ pos (x + 1)
    on_by a x = omega (arith, ints)

    west : (f x : ℕ) → f < x → f ≤ x - 1
    west f x h = omega arith

    middle : (x t : ℕ) → x + 1 < t → x - 1 < t
    middle x t h = omega arith

    weak : (f x : ℕ) → f < x → f ≤ x
    weak f x h = omega arith

    less : (x t : ℕ) → x + 1 < t → x < t
    less x t h = omega arith

    past : (f x : ℕ) → f < x → f ≤ x + 1
    past f x h = omega arith

    gone : (w h e m : Bool) → w ≡ false → h ≡ false → e ≡ false → ((w || (h || e)) && m) ≡ false
    gone w h e m p q r = ap (λ (b : Bool). (b || (h || e)) && m) p ∙ ap (λ (b : Bool). (b || e) && m) q ∙ ap (λ (b : Bool). b && m) r

-- and where it isn't above itself
pub low_quiet : (g : Grid) (limit x y : ℕ) → x < g.frame.width → y < g.frame.height → slice_index g.clearances (y * g.frame.width + x) ≤ limit → is_on g limit x y ≡ false
unfolding on_contour
low_quiet g limit x y xl yl low =
    let f = g.frame in
    let c = cell_in f x y in
    let M = is_above f g.clearances limit in
    let out : M c ≡ false =
    ap (λ (b : Bool). cond b (nat_lt limit (slice_index g.clearances (place_of f c))) true) (in_frame_true f c (in_row f x y xl yl))
    ∙ ap (λ (k : ℕ). nat_lt limit (slice_index g.clearances k)) (place_in_row f x y) ∙ not_below limit (slice_index g.clearances (y * f.width + x)) low in
    ap (λ (b : Bool). (leaves_column M (cell (c.i -ℤ pos 1) c.j) || (leaves_column M c || leaves_column M (cell (c.i +ℤ pos 1) c.j))) && b) out ∙ neither _
  where
    not_below : (a b : ℕ) → b ≤ a → nat_lt a b ≡ false
    not_below a b h = by_bool (nat_lt a b) (λ t. absurd (clash a b (is_below a b t) h)) (λ f. f)
      where
        clash : (a b : ℕ) → a < b → b ≤ a → ⊥
        clash a b h k = omega arith

    neither : (b : Bool) → (b && false) ≡ false
    neither true = refl
    neither false = refl

-- the places of some columns of a row, from the least of their clearances
pub above_span : (g : Grid) (limit y from to p q v : ℕ) → p ≡ y * g.frame.width + from → q ≡ y * g.frame.width + to → limit < v → ((i : ℕ) → p ≤ i → i < q + 1 → v ≤ slice_index g.clearances i) → AreAbove g limit y from (to + 1)
above_span g limit y from to p q v e f high least i low less =
    by limit v (slice_index g.clearances i) high (least i (omega (arith, e, low)) (omega (arith, f, less)))
  where
    by : (a b c : ℕ) → a < b → b ≤ c → a < c
    by a b c h k = omega arith
