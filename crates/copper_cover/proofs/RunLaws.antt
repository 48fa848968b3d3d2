-- The columns of a row that are near a segment have no gap between them.
use Rattle.std.proofs.Common.{◌≡◌, ℕ, ◌<◌, ◌≤◌, ◌+◌, ◌-◌, ◌/◌, nat_le, nat_lt, ℤ, pos, ◌+ℤ◌, ◌-ℤ◌, ◌*ℤ◌, ◌≤ℤ◌, ◌<ℤ◌, Bool, true, false, cond, ◌&&◌, [], ◌∷◌, refl, sym, ap, subst, ◌∙◌, arith}
use Rattle.std.proofs.lemmas.Bool.{false≢true}
use Rattle.std.proofs.lemmas.Int.{by_lt_z}
use borrow.Author.Differences.{ints}
use Rattle.number_laws.proofs.Ring.{Ex, var, num, add, sub, mul, ring}
use Rattle.number_laws.proofs.Order.{mul_nonneg, mul_pos, square_nonneg, le_by, sub_nonneg, add_nonneg, mul_le_left}
use Rattle.number_laws.proofs.Tests.{by_bool, both, first_of, second_of, up_to, is_up_to, below, is_below}
use Rattle.board_base.specs.declared.places.Point.{Point}
use Rattle.board_base.specs.Near.{near_of}
use Rattle.board_base.specs.Lattice.{IsPitch, middle, half_of}
use Rattle.plane_geom.proofs.Segment.{IsReached, gap, len}
use Rattle.plane_geom.proofs.Axis.{reached_of}
use Rattle.plane_geom.proofs.NearLaws.{near_from_reached}
use Rattle.cell_grid.specs.declared.windows.Span.{Span}
use Rattle.cell_grid.specs.Windows.{IsInSpan}
use Rattle.copper_cover.specs.declared.columns.Row.{Row}
use Rattle.copper_cover.specs.Rows.{east_of, centre_in, is_near_in, is_in_span, bit_after, IsRow}
use Rattle.copper_cover.proofs.ColumnLaws.{at_height}
use Rattle.copper_cover.proofs.RowLaws.{by_less}

abbrev sq : Ex → Ex
sq a = mul a a

weak : (n : ℤ) → pos 0 <ℤ n → pos 0 ≤ℤ n
weak n h = omega (arith, ints)

four : (z : ℤ) → pos 0 ≤ℤ z → pos 0 ≤ℤ (pos 4 *ℤ z)
four z h = mul_nonneg (pos 4) z (omega (arith, ints)) h

-- a mean of two ways that are at most half of k long is no longer: the ways (a, b) and (e, f), with the weights s and t
mean_short : (s t a b e f k : ℤ) → pos 0 ≤ℤ s → pos 0 ≤ℤ t → (pos 4 *ℤ len a b) ≤ℤ (k *ℤ k) → (pos 4 *ℤ len e f) ≤ℤ (k *ℤ k)
    → (pos 4 *ℤ len (s *ℤ a +ℤ t *ℤ e) (s *ℤ b +ℤ t *ℤ f)) ≤ℤ (((s +ℤ t) *ℤ k) *ℤ ((s +ℤ t) *ℤ k))
mean_short s t a b e f k s_in t_in h i =
    let S = var 0 in let T = var 1 in let A = var 2 in let B = var 3 in let E = var 4 in let F = var 5 in let K = var 6 in
    let rho = s ∷ t ∷ a ∷ b ∷ e ∷ f ∷ k ∷ [] in
    let x = ((s +ℤ t) *ℤ s) *ℤ (k *ℤ k -ℤ pos 4 *ℤ len a b) in
    let y = ((s +ℤ t) *ℤ t) *ℤ (k *ℤ k -ℤ pos 4 *ℤ len e f) in
    let z = pos 4 *ℤ ((s *ℤ t) *ℤ len (a -ℤ e) (b -ℤ f)) in
    let both = add_nonneg s t s_in t_in in
    let x_in : pos 0 ≤ℤ x = mul_nonneg _ _ (mul_nonneg _ _ both s_in) (sub_nonneg _ _ h) in
    let y_in : pos 0 ≤ℤ y = mul_nonneg _ _ (mul_nonneg _ _ both t_in) (sub_nonneg _ _ i) in
    let z_in : pos 0 ≤ℤ z = four _ (mul_nonneg _ _ (mul_nonneg s t s_in t_in) (add_nonneg _ _ (square_nonneg (a -ℤ e)) (square_nonneg (b -ℤ f)))) in
    le_by _ _ (x +ℤ (y +ℤ z)) (add_nonneg _ _ x_in (add_nonneg _ _ y_in z_in))
    (ring rho (sq (mul (add S T) K))
    (add (mul (num (pos 4)) (add (sq (add (mul S A) (mul T E))) (sq (add (mul S B) (mul T F)))))
    (add (mul (mul (add S T) S) (sub (sq K) (mul (num (pos 4)) (add (sq A) (sq B)))))
    (add (mul (mul (add S T) T) (sub (sq K) (mul (num (pos 4)) (add (sq E) (sq F))))) (mul (num (pos 4)) (mul (mul S T) (add (sq (sub A E)) (sq (sub B F)))))))) refl)

-- a way n times as long, at a point within half of d
scaled : (ux uy wx wy d m n c : ℤ) → (pos 4 *ℤ gap ux uy wx wy m n) ≤ℤ ((n *ℤ d) *ℤ (n *ℤ d))
    → (pos 4 *ℤ len (c *ℤ (n *ℤ wx -ℤ m *ℤ ux)) (c *ℤ (n *ℤ wy -ℤ m *ℤ uy))) ≤ℤ ((c *ℤ (n *ℤ d)) *ℤ (c *ℤ (n *ℤ d)))
scaled ux uy wx wy d m n c h =
    let X = var 0 in let Y = var 1 in let C = var 2 in let D = var 3 in
    let x = n *ℤ wx -ℤ m *ℤ ux in
    let y = n *ℤ wy -ℤ m *ℤ uy in
    let rho = x ∷ y ∷ c ∷ (n *ℤ d) ∷ [] in
    let e : pos 4 *ℤ len (c *ℤ x) (c *ℤ y) ≡ (c *ℤ c) *ℤ (pos 4 *ℤ len x y) =
    ring rho (mul (num (pos 4)) (add (sq (mul C X)) (sq (mul C Y)))) (mul (sq C) (mul (num (pos 4)) (add (sq X) (sq Y)))) refl in
    let f : (c *ℤ (n *ℤ d)) *ℤ (c *ℤ (n *ℤ d)) ≡ (c *ℤ c) *ℤ ((n *ℤ d) *ℤ (n *ℤ d)) = ring rho (sq (mul C D)) (mul (sq C) (sq D)) refl in
    rw (e, f) (mul_le_left (c *ℤ c) _ _ (square_nonneg c) h)

-- between two points of a line that are near stands no other
reached_between : (ux uy vx wx xx wy d : ℤ) → vx ≤ℤ xx → xx ≤ℤ wx → vx <ℤ wx → IsReached ux uy vx wy d → IsReached ux uy wx wy d → IsReached ux uy xx wy d
reached_between ux uy vx wx xx wy d low high apart p q =
    let s = wx -ℤ xx in
    let t = xx -ℤ vx in
    let s_in = sub_nonneg _ _ high in
    let t_in = sub_nonneg _ _ low in
    let UX = var 0 in let UY = var 1 in let VX = var 2 in let WX = var 3 in let XX = var 4 in let WY = var 5 in let D = var 6 in
    let M = var 7 in let N = var 8 in let O = var 9 in let P = var 10 in
    let rho = ux ∷ uy ∷ vx ∷ wx ∷ xx ∷ wy ∷ d ∷ p.m ∷ p.n ∷ q.m ∷ q.n ∷ [] in
    let S = sub WX XX in
    let T = sub XX VX in
    record {
      m = s *ℤ (q.n *ℤ p.m) +ℤ t *ℤ (p.n *ℤ q.m);
      n = (s +ℤ t) *ℤ (q.n *ℤ p.n);
      n_pos = mul_pos _ _ (way vx wx xx apart) (mul_pos _ _ q.n_pos p.n_pos);
      m_low = add_nonneg _ _ (mul_nonneg _ _ s_in (mul_nonneg _ _ (weak _ q.n_pos) p.m_low)) (mul_nonneg _ _ t_in (mul_nonneg _ _ (weak _ p.n_pos) q.m_low));
      m_high =
          le_by _ _ (s *ℤ (q.n *ℤ (p.n -ℤ p.m)) +ℤ t *ℤ (p.n *ℤ (q.n -ℤ q.m)))
          (add_nonneg _ _ (mul_nonneg _ _ s_in (mul_nonneg _ _ (weak _ q.n_pos) (sub_nonneg _ _ p.m_high))) (mul_nonneg _ _ t_in (mul_nonneg _ _ (weak _ p.n_pos) (sub_nonneg _ _ q.m_high))))
          (ring rho (mul (add S T) (mul P N))
          (add (add (mul S (mul P M)) (mul T (mul N O))) (add (mul S (mul P (sub N M))) (mul T (mul N (sub P O))))) refl);
      within =
          let a = q.n *ℤ (p.n *ℤ vx -ℤ p.m *ℤ ux) in
          let b = q.n *ℤ (p.n *ℤ wy -ℤ p.m *ℤ uy) in
          let e = p.n *ℤ (q.n *ℤ wx -ℤ q.m *ℤ ux) in
          let f = p.n *ℤ (q.n *ℤ wy -ℤ q.m *ℤ uy) in
          let k = q.n *ℤ (p.n *ℤ d) in
          let other : p.n *ℤ (q.n *ℤ d) ≡ k = ring rho (mul N (mul P D)) (mul P (mul N D)) refl in
          let short = mean_short s t a b e f k s_in t_in (scaled ux uy vx wy d p.m p.n q.n p.within)
          (subst (λ (z : ℤ). (pos 4 *ℤ len e f) ≤ℤ (z *ℤ z)) other (scaled ux uy wx wy d q.m q.n p.n q.within)) in
          let x_is : ((s +ℤ t) *ℤ (q.n *ℤ p.n)) *ℤ xx -ℤ (s *ℤ (q.n *ℤ p.m) +ℤ t *ℤ (p.n *ℤ q.m)) *ℤ ux ≡ s *ℤ a +ℤ t *ℤ e =
          ring rho (sub (mul (mul (add S T) (mul P N)) XX) (mul (add (mul S (mul P M)) (mul T (mul N O))) UX))
          (add (mul S (mul P (sub (mul N VX) (mul M UX)))) (mul T (mul N (sub (mul P WX) (mul O UX))))) refl in
          let y_is : ((s +ℤ t) *ℤ (q.n *ℤ p.n)) *ℤ wy -ℤ (s *ℤ (q.n *ℤ p.m) +ℤ t *ℤ (p.n *ℤ q.m)) *ℤ uy ≡ s *ℤ b +ℤ t *ℤ f =
          ring rho (sub (mul (mul (add S T) (mul P N)) WY) (mul (add (mul S (mul P M)) (mul T (mul N O))) UY))
          (add (mul S (mul P (sub (mul N WY) (mul M UY)))) (mul T (mul N (sub (mul P WY) (mul O UY))))) refl in
          let d_is : ((s +ℤ t) *ℤ (q.n *ℤ p.n)) *ℤ d ≡ (s +ℤ t) *ℤ k = ring rho (mul (mul (add S T) (mul P N)) D) (mul (add S T) (mul P (mul N D))) refl in
          rw (x_is, y_is, d_is) short;
    }
  where
    way : (v w x : ℤ) → v <ℤ w → pos 0 <ℤ ((w -ℤ x) +ℤ (x -ℤ v))
    way v w x h = omega (arith, ints)

-- between two points of a line along the x axis that are near a segment each is
pub near_between : (p q r a b : Point) (d : ℤ) → p.y ≡ r.y → q.y ≡ r.y → p.x ≤ℤ r.x → r.x ≤ℤ q.x → near_of p a b d ≡ true → near_of q a b d ≡ true → near_of r a b d ≡ true
near_between p q r a b d ey fy low high n o =
    let ux = b.x -ℤ a.x in
    let uy = b.y -ℤ a.y in
    let first : IsReached ux uy (p.x -ℤ a.x) (r.y -ℤ a.y) d = subst (λ (y : ℤ). IsReached ux uy (p.x -ℤ a.x) (y -ℤ a.y) d) ey (reached_of p a b d n) in
    let second : IsReached ux uy (q.x -ℤ a.x) (r.y -ℤ a.y) d = subst (λ (y : ℤ). IsReached ux uy (q.x -ℤ a.x) (y -ℤ a.y) d) fy (reached_of q a b d o) in
    by_lt_z p.x q.x
    (λ (k : p.x <ℤ q.x). near_from_reached r a b d
    (reached_between ux uy (p.x -ℤ a.x) (q.x -ℤ a.x) (r.x -ℤ a.x) (r.y -ℤ a.y) d (shifted p.x r.x a.x low) (shifted r.x q.x a.x high) (apart p.x q.x a.x k) first second))
    (λ (k : q.x ≤ℤ p.x). near_from_reached r a b d (subst (λ (x : ℤ). IsReached ux uy (x -ℤ a.x) (r.y -ℤ a.y) d) (same p.x q.x r.x low high k) first))
  where
    shifted : (x y a : ℤ) → x ≤ℤ y → (x -ℤ a) ≤ℤ (y -ℤ a)
    shifted x y a h = omega (arith, ints)

    apart : (x y a : ℤ) → x <ℤ y → (x -ℤ a) <ℤ (y -ℤ a)
    apart x y a h = omega (arith, ints)

    same : (p q r : ℤ) → p ≤ℤ r → r ≤ℤ q → q ≤ℤ p → p ≡ r
    same p q r h i j = omega (arith, ints)

-- ---- the columns of a row

-- the centres of a row stand from west to east
from_west : (row : Row) (j k : ℕ) → IsPitch row.pitch → j ≤ k → (centre_in row j).x ≤ℤ (centre_in row k).x
unfolding east_of middle
from_west row j k p h =
    let f = row.first.i in
    let F = var 0 in let J = var 1 in let G = var 2 in let P = var 3 in let H = var 4 in
    let rho = f ∷ pos j ∷ pos (k - j) ∷ row.pitch ∷ half_of row.pitch ∷ [] in
    let e : (f +ℤ (pos j +ℤ pos (k - j))) *ℤ row.pitch +ℤ half_of row.pitch ≡ ((f +ℤ pos j) *ℤ row.pitch +ℤ half_of row.pitch) +ℤ pos (k - j) *ℤ row.pitch =
    ring rho (add (mul (add F (add J G)) P) H) (add (add (mul (add F J) P) H) (mul G P)) refl in
    le_by _ _ (pos (k - j) *ℤ row.pitch) (mul_nonneg _ _ (none_less (k - j)) (some row.pitch p.low)) (ap (λ (z : ℤ). (f +ℤ z) *ℤ row.pitch +ℤ half_of row.pitch) (parts j k h) ∙ e)
  where
    none_less : (n : ℕ) → pos 0 ≤ℤ pos n
    none_less n = omega (arith, ints)

    some : (p : ℤ) → pos 250 ≤ℤ p → pos 0 ≤ℤ p
    some p h = omega (arith, ints)

    parts : (j k : ℕ) → j ≤ k → pos k ≡ pos j +ℤ pos (k - j)
    parts j k h = omega (arith, ints)

-- between two columns that are near a segment each is
column_between : (row : Row) (n : ℕ) (a b : Point) (d : ℤ) (i j k : ℕ) → IsRow row n → i ≤ j → j ≤ k → is_near_in row a b d i ≡ true → is_near_in row a b d k ≡ true → is_near_in row a b d j ≡ true
column_between row n a b d i j k r low high =
    near_between (centre_in row i) (centre_in row k) (centre_in row j) a b d (at_height row n i r ∙ sym (at_height row n j r)) (at_height row n k r ∙ sym (at_height row n j r)) (from_west row i j r.pitch low)
    (from_west row j k r.pitch high)

-- no column west of one that isn't near is near, where one east of it is
pub none_west : (row : Row) (n : ℕ) (a b : Point) (d : ℤ) (k m e : ℕ) → IsRow row n → k ≤ m → m ≤ e → is_near_in row a b d m ≡ false → is_near_in row a b d e ≡ true → is_near_in row a b d k ≡ false
none_west row n a b d k m e r low high far near =
    by_bool (is_near_in row a b d k) (λ t. absurd (false≢true (sym far ∙ column_between row n a b d k m e r low high t near))) (λ f. f)

-- nor east of one, where one west of it is
pub none_east : (row : Row) (n : ℕ) (a b : Point) (d : ℤ) (w m k : ℕ) → IsRow row n → w ≤ m → m ≤ k → is_near_in row a b d m ≡ false → is_near_in row a b d w ≡ true → is_near_in row a b d k ≡ false
none_east row n a b d w m k r low high far near =
    by_bool (is_near_in row a b d k) (λ t. absurd (false≢true (sym far ∙ column_between row n a b d w m k r low high near t))) (λ f. f)

-- ---- spans

pub in_span : (s : Span) (k : ℕ) → s.from ≤ k → k < s.to → is_in_span s k ≡ true
in_span s k low high = both (nat_le s.from k) (nat_lt k s.to) (up_to s.from k low) (below k s.to high)

pub out_of_span : (s : Span) (k : ℕ) → (IsInSpan s k → ⊥) → is_in_span s k ≡ false
out_of_span s k out =
    by_bool (is_in_span s k)
    (λ t. absurd (out (record { from = is_up_to s.from k (first_of (nat_le s.from k) (nat_lt k s.to) t); to = is_below k s.to (second_of (nat_le s.from k) (nat_lt k s.to) t) }))) (λ f. f)

-- a run of columns from the first one that is near up to the end
pub run_is : (near : ℕ → Bool) (s run : Span) (n k : ℕ) → ((j : ℕ) → j < n → near j ≡ true → IsInSpan s j) → ((j : ℕ) → s.from ≤ j → j < run.from → near j ≡ false)
    → ((j : ℕ) → run.from ≤ j → j < run.to → near j ≡ true) → ((j : ℕ) → run.to ≤ j → j < s.to → near j ≡ false) → k < n → near k ≡ is_in_span run k
run_is near s run n k inside before of after l =
    by_bool (is_in_span run k)
    (λ t. of k (is_up_to run.from k (first_of (nat_le run.from k) (nat_lt k run.to) t)) (is_below k run.to (second_of (nat_le run.from k) (nat_lt k run.to) t)) ∙ sym t)
    (λ f. by_bool (near k)
    (λ t. absurd (cases f t))
    (λ e. e ∙ sym f))
  where
    cases : is_in_span run k ≡ false → near k ≡ true → ⊥
    cases f t =
        let i = inside k l t in
        by_less k run.from (λ w. false≢true (sym (before k i.from w) ∙ t))
        (λ low. by_less k run.to (λ high. false≢true (sym f ∙ in_span run k low high)) (λ e. false≢true (sym (after k e i.to) ∙ t)))

pub no_run : (near : ℕ → Bool) (s : Span) (n k : ℕ) → ((j : ℕ) → j < n → near j ≡ true → IsInSpan s j) → ((j : ℕ) → s.from ≤ j → j < s.to → near j ≡ false) → k < n
    → near k ≡ is_in_span (record { from = 0; to = 0 }) k
no_run near s n k inside none l =
    by_bool (near k) (λ t. absurd (false≢true (sym (none k (inside k l t).from (inside k l t).to) ∙ t))) (λ f. f ∙ sym (out_of_span (record { from = 0; to = 0 }) k (λ i. nothing k i.to)))
  where
    nothing : (k : ℕ) → k < 0 → ⊥
    nothing k h = omega arith

-- what a piece makes of a bit, by the columns that it turns
pub bit_by : (on adds takes bit : Bool) → bit_after on adds takes bit ≡ cond (cond on adds takes) on bit
bit_by true true true true = refl
bit_by true true true false = refl
bit_by true true false true = refl
bit_by true true false false = refl
bit_by true false true true = refl
bit_by true false true false = refl
bit_by true false false true = refl
bit_by true false false false = refl
bit_by false true true true = refl
bit_by false true true false = refl
bit_by false true false true = refl
bit_by false true false false = refl
bit_by false false true true = refl
bit_by false false true false = refl
bit_by false false false true = refl
bit_by false false false false = refl

-- a bit outside the span stays
pub stays : (s : Span) (k : ℕ) (on b : Bool) → (IsInSpan s k → ⊥) → cond (is_in_span s k) on b ≡ b
stays s k on b out = ap (λ (t : Bool). cond t on b) (out_of_span s k out)

-- a middle between two numbers
pub half_low : (a b : ℕ) → a ≤ a + (b - a) / 2
half_low a b = omega arith

pub half_high : (a b : ℕ) → a < b → a + (b - a) / 2 < b
half_high a b h = omega arith

pub half_past : (a b : ℕ) → 1 < b - a → a < a + (b - a) / 2
half_past a b h = omega arith

-- a bit whose column a piece that is on turns, and one that a piece that is off does
pub marked_on : (on adds takes inside bit new : Bool) → on ≡ true → adds ≡ inside → new ≡ cond inside true bit → new ≡ bit_after on adds takes bit
marked_on on adds takes inside bit new e f g =
    g ∙ ap (λ (s : Bool). cond s true bit) (sym f) ∙ sym (bit_by true adds takes bit) ∙ sym (ap (λ (o : Bool). bit_after o adds takes bit) e)

pub marked_off : (on adds takes inside bit new : Bool) → on ≡ false → takes ≡ inside → new ≡ cond inside false bit → new ≡ bit_after on adds takes bit
marked_off on adds takes inside bit new e f g =
    g ∙ ap (λ (s : Bool). cond s false bit) (sym f) ∙ sym (bit_by false adds takes bit) ∙ sym (ap (λ (o : Bool). bit_after o adds takes bit) e)

pub with_true : (s t u : Bool) → s ≡ true → t ≡ u → (s && t) ≡ u
with_true s t u e f = ap (λ (b : Bool). b && t) e ∙ f

-- a column from one that is near up to the end of a run, before which stands one that is near
pub in_run : (row : Row) (n : ℕ) (a b : Point) (d : ℤ) (first end k : ℕ) → IsRow row n → first ≤ k → k < end → is_near_in row a b d first ≡ true → ((j : ℕ) → j + 1 ≡ end → is_near_in row a b d j ≡ true) → is_near_in row a b d k ≡ true
in_run row n a b d first end k r low high near last = column_between row n a b d first k (end - 1) r low (omega arith) near (last (end - 1) (omega arith))

-- one column more that isn't near
pub one_more : (near : ℕ → Bool) (from k : ℕ) → ((j : ℕ) → from ≤ j → j < k → near j ≡ false) → near k ≡ false → (j : ℕ) → from ≤ j → j < k + 1 → near j ≡ false
one_more near from k before here j l h = by_less j k (λ w. before j l w) (λ e. ap near (same j k h e) ∙ here)
  where
    same : (j k : ℕ) → j < k + 1 → k ≤ j → j ≡ k
    same j k h i = omega arith
