-- What is near a segment with d is at most half of d outside its ends, on each axis.
use Rattle.std.proofs.Common.{◌≡◌, ℤ, pos, ◌+ℤ◌, ◌-ℤ◌, ◌*ℤ◌, ◌≤ℤ◌, ◌<ℤ◌, true, [], ◌∷◌, refl, subst, arith}
use borrow.Author.Differences.{ints}
use Rattle.number_laws.proofs.Ring.{var, num, add, sub, mul, ring}
use Rattle.number_laws.proofs.Order.{mul_nonneg, le_by, sub_nonneg, add_nonneg, square_nonneg, square_le, cancel}
use Rattle.board_base.specs.declared.places.Point.{Point}
use Rattle.board_base.specs.Near.{near_of, near_vec, from_to}
use Rattle.plane_geom.proofs.Segment.{IsReached}
use Rattle.plane_geom.proofs.NearLaws.{near_vec-reached}

-- the ends at a and b, no less than l, and the point at c
pub axis_low : (m n d a b c l : ℤ) → pos 0 <ℤ n → pos 0 ≤ℤ m → m ≤ℤ n → pos 0 ≤ℤ d
    → (pos 4 *ℤ ((n *ℤ (c -ℤ a) -ℤ m *ℤ (b -ℤ a)) *ℤ (n *ℤ (c -ℤ a) -ℤ m *ℤ (b -ℤ a)))) ≤ℤ ((n *ℤ d) *ℤ (n *ℤ d)) → l ≤ℤ a → l ≤ℤ b → (pos 2 *ℤ l) ≤ℤ (pos 2 *ℤ c +ℤ d)
axis_low m n d a b c l n_in m_in m_n d_in within la lb =
    let M = var 0 in let N = var 1 in let D = var 2 in let A = var 3 in let B = var 4 in let C = var 5 in let L = var 6 in
    let rho = m ∷ n ∷ d ∷ a ∷ b ∷ c ∷ l ∷ [] in
    let q = n *ℤ (c -ℤ a) -ℤ m *ℤ (b -ℤ a) in
    let Q = sub (mul N (sub C A)) (mul M (sub B A)) in
    let t = pos 0 -ℤ pos 2 *ℤ q in
    let T = sub (num (pos 0)) (mul (num (pos 2)) Q) in
    let nd = mul_nonneg n d (weak n n_in) d_in in
    let size : t ≤ℤ (n *ℤ d) = square_le t (n *ℤ d) nd (subst (λ (z : ℤ). z ≤ℤ ((n *ℤ d) *ℤ (n *ℤ d))) (ring rho (mul (num (pos 4)) (mul Q Q)) (mul T T) refl) within) in
    cancel n (pos 2 *ℤ l) (pos 2 *ℤ c +ℤ d) n_in
    (le_by _ _ ((n *ℤ d -ℤ t) +ℤ pos 2 *ℤ ((n -ℤ m) *ℤ (a -ℤ l) +ℤ m *ℤ (b -ℤ l)))
    (add_nonneg _ _ (sub_nonneg _ _ size) (mul_nonneg (pos 2) _ (omega (arith, ints)) (add_nonneg _ _ (mul_nonneg _ _ (sub_nonneg m n m_n) (sub_nonneg l a la)) (mul_nonneg _ _ m_in (sub_nonneg l b lb)))))
    (ring rho (mul N (add (mul (num (pos 2)) C) D))
    (add (mul N (mul (num (pos 2)) L)) (add (sub (mul N D) T) (mul (num (pos 2)) (add (mul (sub N M) (sub A L)) (mul M (sub B L)))))) refl))
  where
    weak : (n : ℤ) → pos 0 <ℤ n → pos 0 ≤ℤ n
    weak n h = omega (arith, ints)

-- the ends at a and b, no more than l, and the point at c
pub axis_high : (m n d a b c l : ℤ) → pos 0 <ℤ n → pos 0 ≤ℤ m → m ≤ℤ n → pos 0 ≤ℤ d
    → (pos 4 *ℤ ((n *ℤ (c -ℤ a) -ℤ m *ℤ (b -ℤ a)) *ℤ (n *ℤ (c -ℤ a) -ℤ m *ℤ (b -ℤ a)))) ≤ℤ ((n *ℤ d) *ℤ (n *ℤ d)) → a ≤ℤ l → b ≤ℤ l → (pos 2 *ℤ c) ≤ℤ (pos 2 *ℤ l +ℤ d)
axis_high m n d a b c l n_in m_in m_n d_in within la lb =
    let M = var 0 in let N = var 1 in let D = var 2 in let A = var 3 in let B = var 4 in let C = var 5 in let L = var 6 in
    let rho = m ∷ n ∷ d ∷ a ∷ b ∷ c ∷ l ∷ [] in
    let q = n *ℤ (c -ℤ a) -ℤ m *ℤ (b -ℤ a) in
    let Q = sub (mul N (sub C A)) (mul M (sub B A)) in
    let t = pos 2 *ℤ q in
    let T = mul (num (pos 2)) Q in
    let nd = mul_nonneg n d (weak n n_in) d_in in
    let size : t ≤ℤ (n *ℤ d) = square_le t (n *ℤ d) nd (subst (λ (z : ℤ). z ≤ℤ ((n *ℤ d) *ℤ (n *ℤ d))) (ring rho (mul (num (pos 4)) (mul Q Q)) (mul T T) refl) within) in
    cancel n (pos 2 *ℤ c) (pos 2 *ℤ l +ℤ d) n_in
    (le_by _ _ ((n *ℤ d -ℤ t) +ℤ pos 2 *ℤ ((n -ℤ m) *ℤ (l -ℤ a) +ℤ m *ℤ (l -ℤ b)))
    (add_nonneg _ _ (sub_nonneg _ _ size) (mul_nonneg (pos 2) _ (omega (arith, ints)) (add_nonneg _ _ (mul_nonneg _ _ (sub_nonneg m n m_n) (sub_nonneg a l la)) (mul_nonneg _ _ m_in (sub_nonneg b l lb)))))
    (ring rho (mul N (add (mul (num (pos 2)) L) D))
    (add (mul N (mul (num (pos 2)) C)) (add (sub (mul N D) T) (mul (num (pos 2)) (add (mul (sub N M) (sub L A)) (mul M (sub L B)))))) refl))
  where
    weak : (n : ℤ) → pos 0 <ℤ n → pos 0 ≤ℤ n
    weak n h = omega (arith, ints)

-- what is near reaches a point of the segment
pub reached_of : (q a b : Point) (d : ℤ) → near_of q a b d ≡ true → IsReached (b.x -ℤ a.x) (b.y -ℤ a.y) (q.x -ℤ a.x) (q.y -ℤ a.y) d
unfolding near_of from_to
reached_of q a b d n =
    near_vec-reached _ _ _ _ d
    (subst (λ (v : ℤ). near_vec (b.x -ℤ a.x) (b.y -ℤ a.y) (q.x -ℤ a.x) (q.y -ℤ a.y) v ((q.y -ℤ a.y) -ℤ (b.y -ℤ a.y)) d ≡ true) (split q.x a.x b.x)
    (subst (λ (v : ℤ). near_vec (b.x -ℤ a.x) (b.y -ℤ a.y) (q.x -ℤ a.x) (q.y -ℤ a.y) (q.x -ℤ b.x) v d ≡ true) (split q.y a.y b.y) n))
  where
    split : (q a b : ℤ) → q -ℤ b ≡ (q -ℤ a) -ℤ (b -ℤ a)
    split q a b = omega (arith, ints)

-- the two axes of a length
pub first_part : (x y w : ℤ) → (pos 4 *ℤ (x *ℤ x +ℤ y *ℤ y)) ≤ℤ w → (pos 4 *ℤ (x *ℤ x)) ≤ℤ w
first_part x y w h = by (x *ℤ x) (y *ℤ y) w (square_nonneg y) h
  where
    by : (s t w : ℤ) → pos 0 ≤ℤ t → (pos 4 *ℤ (s +ℤ t)) ≤ℤ w → (pos 4 *ℤ s) ≤ℤ w
    by s t w p h = omega (arith, ints)

pub second_part : (x y w : ℤ) → (pos 4 *ℤ (x *ℤ x +ℤ y *ℤ y)) ≤ℤ w → (pos 4 *ℤ (y *ℤ y)) ≤ℤ w
second_part x y w h = by (x *ℤ x) (y *ℤ y) w (square_nonneg x) h
  where
    by : (s t w : ℤ) → pos 0 ≤ℤ s → (pos 4 *ℤ (s +ℤ t)) ≤ℤ w → (pos 4 *ℤ t) ≤ℤ w
    by s t w p h = omega (arith, ints)
