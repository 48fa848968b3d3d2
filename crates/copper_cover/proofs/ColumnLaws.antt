-- The columns of a row, and the segments that miss it.
use Rattle.std.proofs.Common.{◌≡◌, ℕ, ℤ, pos, ◌+ℤ◌, ◌-ℤ◌, ◌*ℤ◌, ◌≤ℤ◌, ◌<ℤ◌, Bool, true, false, cond, List, get_or, ◌↔◌, refl, sym, ap, subst, ◌∙◌, arith}
use Rattle.std.specs.List.{All, list_any}
use Rattle.std.proofs.lemmas.Bool.{false≢true}
use Rattle.std.proofs.lemmas.List.Folds.{list_any_none}
use Rattle.std.proofs.lemmas.Int.{by_lt_z}
use borrow.Author.Differences.{ints}
use Rattle.number_laws.proofs.Tests.{by_bool, true_lt, lt_true, lt_false}
use Rattle.board_base.specs.declared.places.CellBox.{CellBox}
use Rattle.board_base.specs.declared.places.Point.{Point}
use Rattle.board_base.specs.Near.{near_of}
use Rattle.board_base.specs.Lattice.{centre_of, IsInBox}
use Rattle.board_base.specs.Places.{IsNearPlace, IsNearCoordinate}
use Rattle.poly_area.specs.declared.edges.Edge.{Edge}
use Rattle.poly_area.specs.declared.blocks.Block.{Block}
use Rattle.poly_area.specs.Area.{is_near}
use Rattle.poly_area.specs.Blocks.{IsWithin}
use Rattle.poly_area.specs.Rows.{centre_at}
use Rattle.poly_area.proofs.CellLaws.{cells_law_holds}
use Rattle.plane_geom.proofs.Axis.{reached_of, axis_low, axis_high, second_part}
use Rattle.copper_cover.specs.declared.columns.Row.{Row}
use Rattle.cell_grid.specs.declared.windows.Span.{Span}
use Rattle.cell_grid.specs.Windows.{IsInSpan}
use Rattle.copper_cover.specs.Rows.{east_of, centre_in, is_over, is_under, misses, IsRow}

-- the first cell of a row is the one no column east of it
pub first_in : (row : Row) → centre_in row 0 ≡ centre_of row.pitch row.first
unfolding east_of
first_in row = ap (λ (i : ℤ). centre_of row.pitch (record { i = i; j = row.first.j })) (none row.first.i)
  where
    none : (i : ℤ) → i +ℤ pos 0 ≡ i
    none i = omega (arith, ints)

-- all centres of a row are at its height
pub at_height : (row : Row) (n k : ℕ) → IsRow row n → (centre_in row k).y ≡ row.y
unfolding east_of
at_height row n k r = sym r.height

-- a cell whose centre is near a segment stands in the columns of the box round it
pub in_box : (row : Row) (k : ℕ) (box : CellBox) (s : Span) → IsInBox box (east_of row.first k) → (IsInSpan s k ↔ ((box.i0 ≤ℤ (row.first.i +ℤ pos k)) × ((row.first.i +ℤ pos k) ≤ℤ box.i1)))
    → IsInSpan s k
unfolding east_of
in_box row k box s i f = f.1 (i.west, i.east)

-- a segment whose ends stand more than half of d above a row is near no point of it
above_row : (q a b : Point) (y d : ℤ) → q.y ≡ y → pos 0 ≤ℤ d → (pos 2 *ℤ y +ℤ d) <ℤ (pos 2 *ℤ a.y) → (pos 2 *ℤ y +ℤ d) <ℤ (pos 2 *ℤ b.y) → near_of q a b d ≡ true → ⊥
above_row q a b y d e d_in s t n =
    let r = reached_of q a b d n in
    let y_in = second_part (r.n *ℤ (q.x -ℤ a.x) -ℤ r.m *ℤ (b.x -ℤ a.x)) (r.n *ℤ (q.y -ℤ a.y) -ℤ r.m *ℤ (b.y -ℤ a.y)) _ r.within in
    by_lt_z a.y b.y
    (λ (k : a.y <ℤ b.y). clash a.y q.y y d (axis_low r.m r.n d a.y b.y q.y a.y r.n_pos r.m_low r.m_high d_in y_in (same a.y) (weak a.y b.y k)) e s)
    (λ (k : b.y ≤ℤ a.y). clash b.y q.y y d (axis_low r.m r.n d a.y b.y q.y b.y r.n_pos r.m_low r.m_high d_in y_in k (same b.y)) e t)
  where
    same : (a : ℤ) → a ≤ℤ a
    same a = omega (arith, ints)

    weak : (a b : ℤ) → a <ℤ b → a ≤ℤ b
    weak a b k = omega (arith, ints)

    clash : (l c y d : ℤ) → (pos 2 *ℤ l) ≤ℤ (pos 2 *ℤ c +ℤ d) → c ≡ y → (pos 2 *ℤ y +ℤ d) <ℤ (pos 2 *ℤ l) → ⊥
    clash l c y d h e k = omega (arith, ints)

-- and so is one whose ends stand as much below it
below_row : (q a b : Point) (y d : ℤ) → q.y ≡ y → pos 0 ≤ℤ d → (pos 2 *ℤ a.y) <ℤ (pos 2 *ℤ y -ℤ d) → (pos 2 *ℤ b.y) <ℤ (pos 2 *ℤ y -ℤ d) → near_of q a b d ≡ true → ⊥
below_row q a b y d e d_in s t n =
    let r = reached_of q a b d n in
    let y_in = second_part (r.n *ℤ (q.x -ℤ a.x) -ℤ r.m *ℤ (b.x -ℤ a.x)) (r.n *ℤ (q.y -ℤ a.y) -ℤ r.m *ℤ (b.y -ℤ a.y)) _ r.within in
    by_lt_z a.y b.y
    (λ (k : a.y <ℤ b.y). clash b.y q.y y d (axis_high r.m r.n d a.y b.y q.y b.y r.n_pos r.m_low r.m_high d_in y_in (weak a.y b.y k) (same b.y)) e t)
    (λ (k : b.y ≤ℤ a.y). clash a.y q.y y d (axis_high r.m r.n d a.y b.y q.y a.y r.n_pos r.m_low r.m_high d_in y_in (same a.y) k) e s)
  where
    same : (a : ℤ) → a ≤ℤ a
    same a = omega (arith, ints)

    weak : (a b : ℤ) → a <ℤ b → a ≤ℤ b
    weak a b k = omega (arith, ints)

    clash : (l c y d : ℤ) → (pos 2 *ℤ c) ≤ℤ (pos 2 *ℤ l +ℤ d) → c ≡ y → (pos 2 *ℤ l) <ℤ (pos 2 *ℤ y -ℤ d) → ⊥
    clash l c y d h e k = omega (arith, ints)

over_is : (y d a : ℤ) → is_over y d a ≡ true → (pos 2 *ℤ y +ℤ d) <ℤ (pos 2 *ℤ a)
unfolding is_over
over_is y d a e = omega (arith, ints)

under_is : (y d a : ℤ) → is_under y d a ≡ true → (pos 2 *ℤ a) <ℤ (pos 2 *ℤ y -ℤ d)
unfolding is_under
under_is y d a e = omega (arith, ints)

-- a segment that misses a row is near no point of it
pub missed : (q a b : Point) (y d : ℤ) → q.y ≡ y → pos 0 ≤ℤ d → misses y d a.y b.y ≡ true → near_of q a b d ≡ false
missed q a b y d e d_in m = by_bool (near_of q a b d) (λ n. absurd (cases n)) (λ f. f)
  where
    pick : (p r s t : Bool) → cond p r (cond s t false) ≡ true → (p ≡ true → r ≡ true → ⊥) → (s ≡ true → t ≡ true → ⊥) → ⊥
    pick true r s t h f g = f refl h
    pick false r true t h f g = g refl h
    pick false r false t h f g = cc

    cases : near_of q a b d ≡ true → ⊥
    cases n =
        pick (is_over y d a.y) (is_over y d b.y) (is_under y d a.y) (is_under y d b.y) m (λ s t. above_row q a b y d e d_in (over_is y d a.y s) (over_is y d b.y t) n)
        (λ s t. below_row q a b y d e d_in (under_is y d a.y s) (under_is y d b.y t) n)

-- a row stands at a height at which centres are places
pub level : (row : Row) (n : ℕ) → IsRow row n → IsNearCoordinate row.y
level row n r = subst IsNearCoordinate (at_height row n 0 r) (r.places 0 r.some).y_in

-- the first cell's centre is a place
pub first_near : (row : Row) (n : ℕ) (q : Point) → IsRow row n → q ≡ centre_of row.pitch row.first → IsNearPlace q
first_near row n q r e = subst IsNearPlace (first_in row ∙ sym e) (r.places 0 r.some)

-- centre k of a row of centres is that of cell k
pub same_centre : (row : Row) (k : ℕ) (q : Point) → q ≡ centre_of row.pitch row.first → centre_at q row.pitch k ≡ centre_in row k
unfolding east_of
same_centre row k q e = ap (λ (p : Point). centre_at p row.pitch k) e ∙ cells_law_holds row.pitch row.first k

-- ---- blocks of edges

-- what stands no lower is above a row too, and what stands no higher below it
over_more : (y d l a : ℤ) → l ≤ℤ a → is_over y d l ≡ true → is_over y d a ≡ true
unfolding is_over
over_more y d l a h e = lt_true _ _ (more y d l a h (true_lt _ _ e))
  where
    more : (y d l a : ℤ) → l ≤ℤ a → (pos 2 *ℤ y +ℤ d) <ℤ (pos 2 *ℤ l) → (pos 2 *ℤ y +ℤ d) <ℤ (pos 2 *ℤ a)
    more y d l a h k = omega (arith, ints)

under_more : (y d l a : ℤ) → a ≤ℤ l → is_under y d l ≡ true → is_under y d a ≡ true
unfolding is_under
under_more y d l a h e = lt_true _ _ (more y d l a h (true_lt _ _ e))
  where
    more : (y d l a : ℤ) → a ≤ℤ l → (pos 2 *ℤ l) <ℤ (pos 2 *ℤ y -ℤ d) → (pos 2 *ℤ a) <ℤ (pos 2 *ℤ y -ℤ d)
    more y d l a h k = omega (arith, ints)

not_over : (y d l a : ℤ) → pos 0 ≤ℤ d → a ≤ℤ l → is_under y d l ≡ true → is_over y d a ≡ false
unfolding is_over is_under
not_over y d l a i h e = lt_false _ _ (less y d l a i h (true_lt _ _ e))
  where
    less : (y d l a : ℤ) → pos 0 ≤ℤ d → a ≤ℤ l → (pos 2 *ℤ l) <ℤ (pos 2 *ℤ y -ℤ d) → (pos 2 *ℤ a) ≤ℤ (pos 2 *ℤ y +ℤ d)
    less y d l a i h k = omega (arith, ints)

-- an edge of a block that misses a row misses it too
within_misses : (b : Block) (e : Edge) (y d : ℤ) → IsWithin b e → pos 0 ≤ℤ d → misses y d b.low b.high ≡ true → misses y d e.from.y e.to.y ≡ true
within_misses b e y d w d_in m =
    pick (is_over y d b.low) (is_over y d b.high) (is_under y d b.low) (is_under y d b.high) m
    (λ s. both_over (is_over y d e.from.y) (is_over y d e.to.y) _ (over_more y d b.low e.from.y w.from_low s) (over_more y d b.low e.to.y w.to_low s))
    (λ t. both_under (is_over y d e.from.y) (is_over y d e.to.y) (is_under y d e.from.y) (is_under y d e.to.y) (not_over y d b.high e.from.y d_in w.from_high t) (under_more y d b.high e.from.y w.from_high t)
    (under_more y d b.high e.to.y w.to_high t))
  where
    pick : {P : Type 0} (p r s t : Bool) → cond p r (cond s t false) ≡ true → (p ≡ true → P) → (t ≡ true → P) → P
    pick true r s t h f g = f refl
    pick false r true t h f g = g h
    pick false r false t h f g = absurd (false≢true h)

    both_over : (p r z : Bool) → p ≡ true → r ≡ true → cond p r z ≡ true
    both_over p r z e f = ap (λ (x : Bool). cond x r z) e ∙ f

    both_under : (p r s t : Bool) → p ≡ false → s ≡ true → t ≡ true → cond p r (cond s t false) ≡ true
    both_under p r s t e f g = ap (λ (x : Bool). cond x r (cond s t false)) e ∙ ap (λ (x : Bool). cond x t false) f ∙ g

-- so no edge of the block is near a point of the row
pub none_near : (q : Point) (b : Block) (es : List Edge) (y d : ℤ) → q.y ≡ y → pos 0 ≤ℤ d → All (IsWithin b) es → misses y d b.low b.high ≡ true → list_any (is_near q d) es ≡ false
none_near q b es y d e d_in w m =
    list_any_none (is_near q d) es (λ k x l. missed q (get_or es k x).from (get_or es k x).to y d e d_in (within_misses b (get_or es k x) y d (w k x l) d_in m))
