-- Why the points of a swept cell are within the radius.
use Rattle.std.proofs.Common.{◌≡◌, ℕ, ℤ, pos, neg_ℤ, ◌+ℤ◌, ◌-ℤ◌, ◌*ℤ◌, ◌≤ℤ◌, ◌<ℤ◌, [], ◌∷◌, refl, ap, subst, ◌∙◌, arith}
use Rattle.std.specs.Int.{int_div_euclid}
use borrow.Author.Differences.{ints}
use Rattle.number_laws.proofs.Ring.{Ex, var, num, add, sub, mul, ring}
use Rattle.number_laws.proofs.Order.{square_nonneg, square_le, mul_nonneg, le_by, mul_le_left, sub_nonneg, add_nonneg}
use Rattle.number_laws.proofs.Squares.{square_within}
use Rattle.number_laws.proofs.Quotients.{rounded_low, rounded_high}
use Rattle.board_base.specs.declared.places.Point.{Point}
use Rattle.board_base.specs.declared.places.Cell.{Cell}
use Rattle.board_base.specs.Lattice.{IsPitch, IsHalfDiagonal, half_of, middle, centre_of, cell_of, dist2}
use Rattle.cell_sets.specs.Reached.{IsReachedFrom, in_unit, Sweep, ScaledSweep}

abbrev squared : Ex → Ex
squared e = mul e e

abbrev two : Ex
two = num (pos 2)

abbrev length2 : ℤ → ℤ → ℤ
length2 x y = x *ℤ x +ℤ y *ℤ y

length_nonneg : (x y : ℤ) → pos 0 ≤ℤ length2 x y
length_nonneg x y = add_nonneg (x *ℤ x) (y *ℤ y) (square_nonneg x) (square_nonneg y)

-- ---- two ways of at most h and k

inner_le : (ex ey tx ty h k : ℤ) → pos 0 ≤ℤ h → pos 0 ≤ℤ k → length2 ex ey ≤ℤ (h *ℤ h) → length2 tx ty ≤ℤ (k *ℤ k) → (ex *ℤ tx +ℤ ey *ℤ ty) ≤ℤ (h *ℤ k)
inner_le ex ey tx ty h k h_in k_in e_in t_in =
    let EX = var 0 in let EY = var 1 in let TX = var 2 in let TY = var 3 in let H = var 4 in let K = var 5 in
    let E = add (squared EX) (squared EY) in
    let T = add (squared TX) (squared TY) in
    let i = ex *ℤ tx +ℤ ey *ℤ ty in
    let cross = ex *ℤ ty -ℤ ey *ℤ tx in
    let y = length2 ex ey *ℤ (k *ℤ k -ℤ length2 tx ty) in
    let z = (k *ℤ k) *ℤ (h *ℤ h -ℤ length2 ex ey) in
    let y_in : pos 0 ≤ℤ y = mul_nonneg (length2 ex ey) (k *ℤ k -ℤ length2 tx ty) (length_nonneg ex ey) (sub_nonneg (length2 tx ty) (k *ℤ k) t_in) in
    let z_in : pos 0 ≤ℤ z = mul_nonneg (k *ℤ k) (h *ℤ h -ℤ length2 ex ey) (square_nonneg k) (sub_nonneg (length2 ex ey) (h *ℤ h) e_in) in
    let e : (h *ℤ k) *ℤ (h *ℤ k) ≡ i *ℤ i +ℤ (cross *ℤ cross +ℤ (y +ℤ z)) =
    ring (ex ∷ ey ∷ tx ∷ ty ∷ h ∷ k ∷ []) (squared (mul H K))
    (add (squared (add (mul EX TX) (mul EY TY))) (add (squared (sub (mul EX TY) (mul EY TX))) (add (mul E (sub (squared K) T)) (mul (squared K) (sub (squared H) E))))) refl in
    square_le i (h *ℤ k) (mul_nonneg h k h_in k_in) (le_by (i *ℤ i) ((h *ℤ k) *ℤ (h *ℤ k)) (cross *ℤ cross +ℤ (y +ℤ z)) (add_nonneg (cross *ℤ cross) (y +ℤ z) (square_nonneg cross) (add_nonneg y z y_in z_in)) e)

-- together they are of at most h + k
pub joined : (ex ey tx ty h k : ℤ) → pos 0 ≤ℤ h → pos 0 ≤ℤ k → length2 ex ey ≤ℤ (h *ℤ h) → length2 tx ty ≤ℤ (k *ℤ k) → length2 (ex +ℤ tx) (ey +ℤ ty) ≤ℤ ((h +ℤ k) *ℤ (h +ℤ k))
joined ex ey tx ty h k h_in k_in e_in t_in =
    let EX = var 0 in let EY = var 1 in let TX = var 2 in let TY = var 3 in let H = var 4 in let K = var 5 in
    let i = ex *ℤ tx +ℤ ey *ℤ ty in
    let left : length2 (ex +ℤ tx) (ey +ℤ ty) ≡ (length2 ex ey +ℤ length2 tx ty) +ℤ pos 2 *ℤ i =
    ring (ex ∷ ey ∷ tx ∷ ty ∷ []) (add (squared (add EX TX)) (squared (add EY TY))) (add (add (add (squared EX) (squared EY)) (add (squared TX) (squared TY))) (mul two (add (mul EX TX) (mul EY TY)))) refl in
    let right : (h +ℤ k) *ℤ (h +ℤ k) ≡ (h *ℤ h +ℤ k *ℤ k) +ℤ pos 2 *ℤ (h *ℤ k) =
    ring (h ∷ k ∷ []) (squared (add (var 0) (var 1))) (add (add (squared (var 0)) (squared (var 1))) (mul two (mul (var 0) (var 1)))) refl in
    by (length2 (ex +ℤ tx) (ey +ℤ ty)) ((h +ℤ k) *ℤ (h +ℤ k)) (length2 ex ey) (length2 tx ty) i (h *ℤ h) (k *ℤ k) (h *ℤ k) left right e_in t_in (inner_le ex ey tx ty h k h_in k_in e_in t_in)
  where
    by : (l r e t i h k m : ℤ) → l ≡ (e +ℤ t) +ℤ pos 2 *ℤ i → r ≡ (h +ℤ k) +ℤ pos 2 *ℤ m → e ≤ℤ h → t ≤ℤ k → i ≤ℤ m → l ≤ℤ r
    by l r e t i h k m f g a b c = omega (arith, ints)

-- ---- a point and the centre of its cell

-- along an axis a number is at most half a pitch from the middle of its cell
near_middle : (p x : ℤ) → pos 0 <ℤ p → p ≡ pos 2 *ℤ half_of p → ((x -ℤ middle p (int_div_euclid x p)) *ℤ (x -ℤ middle p (int_div_euclid x p))) ≤ℤ (half_of p *ℤ half_of p)
unfolding middle
near_middle p x h even =
    let q = int_div_euclid x p in
    let turned : p *ℤ q ≡ q *ℤ p = ring (p ∷ q ∷ []) (mul (var 0) (var 1)) (mul (var 1) (var 0)) refl in
    square_within (half_of p) (x -ℤ (q *ℤ p +ℤ half_of p))
    (low (q *ℤ p) (p *ℤ q) p (half_of p) x turned even (rounded_low x p q h refl))
    (high (q *ℤ p) (p *ℤ q) p (half_of p) x turned even (rounded_high x p q h refl))
  where
    low : (a b p k x : ℤ) → b ≡ a → p ≡ pos 2 *ℤ k → b ≤ℤ x → neg_ℤ k ≤ℤ (x -ℤ (a +ℤ k))
    low a b p k x e f h = omega (arith, ints)

    high : (a b p k x : ℤ) → b ≡ a → p ≡ pos 2 *ℤ k → x <ℤ (b +ℤ p) → (x -ℤ (a +ℤ k)) ≤ℤ k
    high a b p k x e f h = omega (arith, ints)

wide : (p : ℤ) → IsPitch p → pos 0 <ℤ p
wide p pitch = by p pitch.low
  where
    by : (p : ℤ) → pos 250 ≤ℤ p → pos 0 <ℤ p
    by p h = omega (arith, ints)

-- a point is at most h from the centre of its cell
pub near_centre : (p h : ℤ) (q : Point) → IsPitch p → IsHalfDiagonal p h → IsReachedFrom h (centre_of p (cell_of p q)) q
unfolding half_of
near_centre p h q pitch diagonal =
    let k : ℤ = half_of p in
    let even : p ≡ pos 2 *ℤ k = pitch.even in
    let x = near_middle p q.x (wide p pitch) pitch.even in
    let y = near_middle p q.y (wide p pitch) pitch.even in
    let twice : p *ℤ p ≡ pos 4 *ℤ (k *ℤ k) = ap (λ (z : ℤ). z *ℤ z) even ∙ ring (k ∷ []) (squared (mul two (var 0))) (mul (num (pos 4)) (squared (var 0))) refl in
    by ((q.x -ℤ middle p (int_div_euclid q.x p)) *ℤ (q.x -ℤ middle p (int_div_euclid q.x p))) ((q.y -ℤ middle p (int_div_euclid q.y p)) *ℤ (q.y -ℤ middle p (int_div_euclid q.y p))) (k *ℤ k) (p *ℤ p) (h *ℤ h) x y twice diagonal.enough
  where
    by : (x y k p h : ℤ) → x ≤ℤ k → y ≤ℤ k → p ≡ pos 4 *ℤ k → p ≤ℤ (pos 2 *ℤ h) → (x +ℤ y) ≤ℤ h
    by x y k p h a b e f = omega (arith, ints)

-- the way between two centres
pub between : (p : ℤ) (v c : Cell) → length2 ((centre_of p c).x -ℤ (centre_of p v).x) ((centre_of p c).y -ℤ (centre_of p v).y) ≡ (p *ℤ p) *ℤ dist2 v c
unfolding middle dist2
between p v c =
    ring (p ∷ half_of p ∷ v.i ∷ v.j ∷ c.i ∷ c.j ∷ [])
    (add (squared (sub (add (mul (var 4) (var 0)) (var 1)) (add (mul (var 2) (var 0)) (var 1)))) (squared (sub (add (mul (var 5) (var 0)) (var 1)) (add (mul (var 3) (var 0)) (var 1)))))
    (mul (squared (var 0)) (add (squared (sub (var 2) (var 4))) (squared (sub (var 3) (var 5))))) refl

-- a centre at most w cells away
near_cell : (p k : ℤ) (w : ℕ) (v c : Cell) → (pos w *ℤ (p *ℤ p)) ≤ℤ (k *ℤ k) → dist2 v c ≤ℤ pos w → IsReachedFrom k (centre_of p v) (centre_of p c)
near_cell p k w v c limit near =
    by (length2 ((centre_of p c).x -ℤ (centre_of p v).x) ((centre_of p c).y -ℤ (centre_of p v).y)) ((p *ℤ p) *ℤ dist2 v c) ((p *ℤ p) *ℤ pos w) (pos w *ℤ (p *ℤ p)) (k *ℤ k)
    (between p v c) (mul_le_left (p *ℤ p) (dist2 v c) (pos w) (square_nonneg p) near) (ring (p ∷ pos w ∷ []) (mul (squared (var 0)) (var 1)) (mul (var 1) (squared (var 0))) refl) limit
  where
    by : (l m n o k : ℤ) → l ≡ m → m ≤ℤ n → n ≡ o → o ≤ℤ k → l ≤ℤ k
    by l m n o k e f g h = omega (arith, ints)

-- a point within h of one that is within k of a third
pub reached_on : (h k : ℤ) (v c q : Point) → pos 0 ≤ℤ h → pos 0 ≤ℤ k → IsReachedFrom h c q → IsReachedFrom k v c → IsReachedFrom (h +ℤ k) v q
reached_on h k v c q h_in k_in first second =
    rw (split q.x c.x v.x, split q.y c.y v.y) (joined (q.x -ℤ c.x) (q.y -ℤ c.y) (c.x -ℤ v.x) (c.y -ℤ v.y) h k h_in k_in first second)
  where
    split : (q c v : ℤ) → q -ℤ v ≡ (q -ℤ c) +ℤ (c -ℤ v)
    split q c v = omega (arith, ints)

pub sweep : Sweep
sweep p h r w pitch diagonal wider limit v c near q here =
    let first : IsReachedFrom h (centre_of p c) q = subst (λ d. IsReachedFrom h (centre_of p d) q) here (near_centre p h q pitch diagonal) in
    let all = reached_on h (r -ℤ h) (centre_of p v) (centre_of p c) q (weak h diagonal.positive) (less h r wider) first (near_cell p (r -ℤ h) w v c limit near) in
    subst (λ s. IsReachedFrom s (centre_of p v) q) (whole h r) all
  where
    weak : (h : ℤ) → pos 0 <ℤ h → pos 0 ≤ℤ h
    weak h l = omega (arith, ints)

    less : (h r : ℤ) → h <ℤ r → pos 0 ≤ℤ (r -ℤ h)
    less h r l = omega (arith, ints)

    whole : (h r : ℤ) → h +ℤ (r -ℤ h) ≡ r
    whole h r = omega (arith, ints)

-- what is reached is reached in any unit
pub reached_in_unit : (s r : ℤ) (v q : Point) → IsReachedFrom r v q → IsReachedFrom (r *ℤ s) (in_unit s v) (in_unit s q)
reached_in_unit s r v q h =
    let left : length2 (q.x *ℤ s -ℤ v.x *ℤ s) (q.y *ℤ s -ℤ v.y *ℤ s) ≡ (s *ℤ s) *ℤ length2 (q.x -ℤ v.x) (q.y -ℤ v.y) =
    ring (s ∷ q.x ∷ q.y ∷ v.x ∷ v.y ∷ []) (add (squared (sub (mul (var 1) (var 0)) (mul (var 3) (var 0)))) (squared (sub (mul (var 2) (var 0)) (mul (var 4) (var 0)))))
    (mul (squared (var 0)) (add (squared (sub (var 1) (var 3))) (squared (sub (var 2) (var 4))))) refl in
    let right : (r *ℤ s) *ℤ (r *ℤ s) ≡ (s *ℤ s) *ℤ (r *ℤ r) = ring (s ∷ r ∷ []) (squared (mul (var 1) (var 0))) (mul (squared (var 0)) (squared (var 1))) refl in
    rw (left, right) (mul_le_left (s *ℤ s) (length2 (q.x -ℤ v.x) (q.y -ℤ v.y)) (r *ℤ r) (square_nonneg s) h)

pub scaled_sweep : ScaledSweep
scaled_sweep s p h r w pitch diagonal wider limit v c near q here = reached_in_unit s r (centre_of p v) q (sweep p h r w pitch diagonal wider limit v c near q here)
