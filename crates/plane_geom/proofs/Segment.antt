-- near a segment is: some point of it, at the part m / n of the way, is within half of d
use Rattle.std.proofs.Common.{◌≡◌, ℕ, ℤ, pos, ◌+ℤ◌, ◌-ℤ◌, ◌*ℤ◌, ◌≤ℤ◌, ◌<ℤ◌, [], ◌∷◌, refl, arith}
use borrow.Author.Differences.{ints, lt_out, at_most_in}
use Rattle.number_laws.proofs.Ring.{Ex, var, num, add, sub, mul, ring}
use Rattle.number_laws.proofs.Order.{mul_nonneg, mul_pos, square_nonneg, le_by, sub_nonneg, add_nonneg, mul_le_left, cancel, square_le}

abbrev sq : Ex → Ex
sq a = mul a a

-- the square of the length of n w - m u
abbrev pub gap : ℤ → ℤ → ℤ → ℤ → ℤ → ℤ → ℤ
gap ux uy wx wy m n = (n *ℤ wx -ℤ m *ℤ ux) *ℤ (n *ℤ wx -ℤ m *ℤ ux) +ℤ (n *ℤ wy -ℤ m *ℤ uy) *ℤ (n *ℤ wy -ℤ m *ℤ uy)

-- the point at m / n of the way
pub record IsReached (ux uy wx wy d : ℤ) : Type 0 where
  pub m : ℤ
  pub n : ℤ
  pub n_pos : pos 0 <ℤ n
  pub m_low : pos 0 ≤ℤ m
  pub m_high : m ≤ℤ n
  pub within : (pos 4 *ℤ gap ux uy wx wy m n) ≤ℤ ((n *ℤ d) *ℤ (n *ℤ d))

-- ---- from the cases to a point of the segment

pub start_reached : (ux uy wx wy d : ℤ) → (pos 4 *ℤ (wx *ℤ wx +ℤ wy *ℤ wy)) ≤ℤ (d *ℤ d) → IsReached ux uy wx wy d
start_reached ux uy wx wy d h = record {
  m = pos 0;
  n = pos 1;
  n_pos = omega (arith, ints);
  m_low = omega (arith, ints);
  m_high = omega (arith, ints);
  within =
      let UX = var 0 in let UY = var 1 in let WX = var 2 in let WY = var 3 in let D = var 4 in
      let r = ux ∷ uy ∷ wx ∷ wy ∷ d ∷ [] in
      let e : pos 4 *ℤ gap ux uy wx wy (pos 0) (pos 1) ≡ pos 4 *ℤ (wx *ℤ wx +ℤ wy *ℤ wy) =
      ring r (mul (num (pos 4)) (add (sq (sub (mul (num (pos 1)) WX) (mul (num (pos 0)) UX))) (sq (sub (mul (num (pos 1)) WY) (mul (num (pos 0)) UY)))))
      (mul (num (pos 4)) (add (sq WX) (sq WY))) refl in
      let f : (pos 1 *ℤ d) *ℤ (pos 1 *ℤ d) ≡ d *ℤ d = ring r (sq (mul (num (pos 1)) D)) (sq D) refl in
      rw (e, f) h;
}

pub end_reached : (ux uy wx wy d : ℤ) → (pos 4 *ℤ ((wx -ℤ ux) *ℤ (wx -ℤ ux) +ℤ (wy -ℤ uy) *ℤ (wy -ℤ uy))) ≤ℤ (d *ℤ d) → IsReached ux uy wx wy d
end_reached ux uy wx wy d h = record {
  m = pos 1;
  n = pos 1;
  n_pos = omega (arith, ints);
  m_low = omega (arith, ints);
  m_high = omega (arith, ints);
  within =
      let UX = var 0 in let UY = var 1 in let WX = var 2 in let WY = var 3 in let D = var 4 in
      let r = ux ∷ uy ∷ wx ∷ wy ∷ d ∷ [] in
      let e : pos 4 *ℤ gap ux uy wx wy (pos 1) (pos 1) ≡ pos 4 *ℤ ((wx -ℤ ux) *ℤ (wx -ℤ ux) +ℤ (wy -ℤ uy) *ℤ (wy -ℤ uy)) =
      ring r (mul (num (pos 4)) (add (sq (sub (mul (num (pos 1)) WX) (mul (num (pos 1)) UX))) (sq (sub (mul (num (pos 1)) WY) (mul (num (pos 1)) UY)))))
      (mul (num (pos 4)) (add (sq (sub WX UX)) (sq (sub WY UY)))) refl in
      let f : (pos 1 *ℤ d) *ℤ (pos 1 *ℤ d) ≡ d *ℤ d = ring r (sq (mul (num (pos 1)) D)) (sq D) refl in
      rw (e, f) h;
}

abbrev pub len : ℤ → ℤ → ℤ
len x y = x *ℤ x +ℤ y *ℤ y

abbrev pub inner : ℤ → ℤ → ℤ → ℤ → ℤ
inner wx wy ux uy = wx *ℤ ux +ℤ wy *ℤ uy

abbrev pub turn : ℤ → ℤ → ℤ → ℤ → ℤ
turn ux uy wx wy = ux *ℤ wy -ℤ uy *ℤ wx

pub side_reached : (ux uy wx wy d : ℤ) → pos 0 <ℤ len ux uy → pos 0 ≤ℤ inner wx wy ux uy → inner wx wy ux uy ≤ℤ len ux uy
    → (pos 4 *ℤ (turn ux uy wx wy *ℤ turn ux uy wx wy)) ≤ℤ ((d *ℤ d) *ℤ len ux uy) → IsReached ux uy wx wy d
side_reached ux uy wx wy d u_pos s_low s_high h = record {
  m = inner wx wy ux uy;
  n = len ux uy;
  n_pos = u_pos;
  m_low = s_low;
  m_high = s_high;
  within =
      let UX = var 0 in let UY = var 1 in let WX = var 2 in let WY = var 3 in let D = var 4 in
      let r = ux ∷ uy ∷ wx ∷ wy ∷ d ∷ [] in
      let U = add (sq UX) (sq UY) in
      let S = add (mul WX UX) (mul WY UY) in
      let C = sub (mul UX WY) (mul UY WX) in
      let e : pos 4 *ℤ gap ux uy wx wy (inner wx wy ux uy) (len ux uy) ≡ len ux uy *ℤ (pos 4 *ℤ (turn ux uy wx wy *ℤ turn ux uy wx wy)) =
      ring r (mul (num (pos 4)) (add (sq (sub (mul U WX) (mul S UX))) (sq (sub (mul U WY) (mul S UY))))) (mul U (mul (num (pos 4)) (sq C))) refl in
      let f : (len ux uy *ℤ d) *ℤ (len ux uy *ℤ d) ≡ len ux uy *ℤ ((d *ℤ d) *ℤ len ux uy) = ring r (sq (mul U D)) (mul U (mul (sq D) U)) refl in
      rw (e, f) (mul_le_left (len ux uy) _ _ (below u_pos) h);
}
  where
    below : {z : ℤ} → pos 0 <ℤ z → pos 0 ≤ℤ z
    below {z} p = omega (arith, lt_out, at_most_in)

-- ---- and back

below : {z : ℤ} → pos 0 <ℤ z → pos 0 ≤ℤ z
below {z} p = omega (arith, lt_out, at_most_in)

len_nonneg : (x y : ℤ) → pos 0 ≤ℤ len x y
len_nonneg x y = add_nonneg (x *ℤ x) (y *ℤ y) (square_nonneg x) (square_nonneg y)

times_nonneg : (k : ℕ) (a : ℤ) → pos 0 ≤ℤ a → pos 0 ≤ℤ (pos k *ℤ a)
times_nonneg k a h = mul_nonneg (pos k) a (omega (arith, ints)) h

-- q lies before a, or a is b
pub start_near : (ux uy wx wy d : ℤ) → inner wx wy ux uy ≤ℤ pos 0 → IsReached ux uy wx wy d → (pos 4 *ℤ len wx wy) ≤ℤ (d *ℤ d)
start_near ux uy wx wy d s_low p =
    let m = p.m in let n = p.n in
    let UX = var 0 in let UY = var 1 in let WX = var 2 in let WY = var 3 in let D = var 4 in let M = var 5 in let N = var 6 in
    let r = ux ∷ uy ∷ wx ∷ wy ∷ d ∷ m ∷ n ∷ [] in
    let U = add (sq UX) (sq UY) in
    let W = add (sq WX) (sq WY) in
    let S = add (mul WX UX) (mul WY UY) in
    let G = add (sq (sub (mul N WX) (mul M UX))) (sq (sub (mul N WY) (mul M UY))) in
    let s = inner wx wy ux uy in
    let x = (n *ℤ d) *ℤ (n *ℤ d) -ℤ pos 4 *ℤ gap ux uy wx wy m n in
    let y = pos 8 *ℤ ((n *ℤ m) *ℤ (pos 0 -ℤ s)) in
    let z = pos 4 *ℤ ((m *ℤ m) *ℤ len ux uy) in
    let x_in : pos 0 ≤ℤ x = sub_nonneg _ _ p.within in
    let y_in : pos 0 ≤ℤ y = times_nonneg 8 _ (mul_nonneg _ _ (mul_nonneg n m (below p.n_pos) p.m_low) (sub_nonneg s (pos 0) s_low)) in
    let z_in : pos 0 ≤ℤ z = times_nonneg 4 _ (mul_nonneg _ _ (square_nonneg m) (len_nonneg ux uy)) in
    let e : (n *ℤ n) *ℤ (d *ℤ d) ≡ (n *ℤ n) *ℤ (pos 4 *ℤ len wx wy) +ℤ (x +ℤ (y +ℤ z)) =
    ring r (mul (sq N) (sq D))
    (add (mul (sq N) (mul (num (pos 4)) W))
    (add (sub (sq (mul N D)) (mul (num (pos 4)) G)) (add (mul (num (pos 8)) (mul (mul N M) (sub (num (pos 0)) S))) (mul (num (pos 4)) (mul (sq M) U))))) refl in
    cancel (n *ℤ n) (pos 4 *ℤ len wx wy) (d *ℤ d) (mul_pos n n p.n_pos p.n_pos) (le_by _ _ _ (add_nonneg _ _ x_in (add_nonneg _ _ y_in z_in)) e)

-- q lies past b
pub end_near : (ux uy wx wy d : ℤ) → len ux uy ≤ℤ inner wx wy ux uy → IsReached ux uy wx wy d → (pos 4 *ℤ len (wx -ℤ ux) (wy -ℤ uy)) ≤ℤ (d *ℤ d)
end_near ux uy wx wy d s_high p =
    let m = p.m in let n = p.n in
    let UX = var 0 in let UY = var 1 in let WX = var 2 in let WY = var 3 in let D = var 4 in let M = var 5 in let N = var 6 in
    let r = ux ∷ uy ∷ wx ∷ wy ∷ d ∷ m ∷ n ∷ [] in
    let U = add (sq UX) (sq UY) in
    let V = add (sq (sub WX UX)) (sq (sub WY UY)) in
    let S = add (mul WX UX) (mul WY UY) in
    let G = add (sq (sub (mul N WX) (mul M UX))) (sq (sub (mul N WY) (mul M UY))) in
    let s = inner wx wy ux uy in
    let u = len ux uy in
    let v = len (wx -ℤ ux) (wy -ℤ uy) in
    let x = (n *ℤ d) *ℤ (n *ℤ d) -ℤ pos 4 *ℤ gap ux uy wx wy m n in
    let y = pos 8 *ℤ ((n *ℤ (n -ℤ m)) *ℤ (s -ℤ u)) in
    let z = pos 4 *ℤ (((n -ℤ m) *ℤ (n -ℤ m)) *ℤ u) in
    let x_in : pos 0 ≤ℤ x = sub_nonneg _ _ p.within in
    let y_in : pos 0 ≤ℤ y = times_nonneg 8 _ (mul_nonneg _ _ (mul_nonneg n (n -ℤ m) (below p.n_pos) (sub_nonneg m n p.m_high)) (sub_nonneg u s s_high)) in
    let z_in : pos 0 ≤ℤ z = times_nonneg 4 _ (mul_nonneg _ _ (square_nonneg (n -ℤ m)) (len_nonneg ux uy)) in
    let e : (n *ℤ n) *ℤ (d *ℤ d) ≡ (n *ℤ n) *ℤ (pos 4 *ℤ v) +ℤ (x +ℤ (y +ℤ z)) =
    ring r (mul (sq N) (sq D))
    (add (mul (sq N) (mul (num (pos 4)) V))
    (add (sub (sq (mul N D)) (mul (num (pos 4)) G)) (add (mul (num (pos 8)) (mul (mul N (sub N M)) (sub S U))) (mul (num (pos 4)) (mul (sq (sub N M)) U))))) refl in
    cancel (n *ℤ n) (pos 4 *ℤ v) (d *ℤ d) (mul_pos n n p.n_pos p.n_pos) (le_by _ _ _ (add_nonneg _ _ x_in (add_nonneg _ _ y_in z_in)) e)

-- q lies beside ab
pub side_near : (ux uy wx wy d : ℤ) → IsReached ux uy wx wy d → (pos 4 *ℤ (turn ux uy wx wy *ℤ turn ux uy wx wy)) ≤ℤ ((d *ℤ d) *ℤ len ux uy)
side_near ux uy wx wy d p =
    let m = p.m in let n = p.n in
    let UX = var 0 in let UY = var 1 in let WX = var 2 in let WY = var 3 in let D = var 4 in let M = var 5 in let N = var 6 in
    let r = ux ∷ uy ∷ wx ∷ wy ∷ d ∷ m ∷ n ∷ [] in
    let U = add (sq UX) (sq UY) in
    let C = sub (mul UX WY) (mul UY WX) in
    let PX = sub (mul N WX) (mul M UX) in
    let PY = sub (mul N WY) (mul M UY) in
    let G = add (sq PX) (sq PY) in
    let u = len ux uy in
    let c = turn ux uy wx wy in
    let x = u *ℤ ((n *ℤ d) *ℤ (n *ℤ d) -ℤ pos 4 *ℤ gap ux uy wx wy m n) in
    let t = inner (n *ℤ wx -ℤ m *ℤ ux) (n *ℤ wy -ℤ m *ℤ uy) ux uy in
    let y = pos 4 *ℤ (t *ℤ t) in
    let x_in : pos 0 ≤ℤ x = mul_nonneg _ _ (len_nonneg ux uy) (sub_nonneg _ _ p.within) in
    let y_in : pos 0 ≤ℤ y = times_nonneg 4 _ (square_nonneg t) in
    let e : (n *ℤ n) *ℤ ((d *ℤ d) *ℤ u) ≡ (n *ℤ n) *ℤ (pos 4 *ℤ (c *ℤ c)) +ℤ (x +ℤ y) =
    ring r (mul (sq N) (mul (sq D) U))
    (add (mul (sq N) (mul (num (pos 4)) (sq C)))
    (add (mul U (sub (sq (mul N D)) (mul (num (pos 4)) G))) (mul (num (pos 4)) (sq (add (mul PX UX) (mul PY UY)))))) refl in
    cancel (n *ℤ n) (pos 4 *ℤ (c *ℤ c)) ((d *ℤ d) *ℤ u) (mul_pos n n p.n_pos p.n_pos) (le_by _ _ _ (add_nonneg _ _ x_in y_in) e)

-- ---- the triangle law: a step e of at most h

abbrev pub grown : ℤ → ℤ → ℤ
grown d h = d +ℤ pos 2 *ℤ h

-- twice the inner product of two vectors of at most a / 2 and b is at most a b
inner_le : (zx zy fx fy a b : ℤ) → pos 0 ≤ℤ a → pos 0 ≤ℤ b → (pos 4 *ℤ len zx zy) ≤ℤ (a *ℤ a) → len fx fy ≤ℤ (b *ℤ b) → (pos 2 *ℤ inner zx zy fx fy) ≤ℤ (a *ℤ b)
inner_le zx zy fx fy a b a_in b_in z_in f_in =
    let ZX = var 0 in let ZY = var 1 in let FX = var 2 in let FY = var 3 in let A = var 4 in let B = var 5 in
    let r = zx ∷ zy ∷ fx ∷ fy ∷ a ∷ b ∷ [] in
    let Z = add (sq ZX) (sq ZY) in
    let F = add (sq FX) (sq FY) in
    let I = add (mul ZX FX) (mul ZY FY) in
    let C = sub (mul ZX FY) (mul ZY FX) in
    let k = pos 2 *ℤ inner zx zy fx fy in
    let x = pos 4 *ℤ (turn zx zy fx fy *ℤ turn zx zy fx fy) in
    let y = pos 4 *ℤ (len zx zy *ℤ (b *ℤ b -ℤ len fx fy)) in
    let z = (b *ℤ b) *ℤ (a *ℤ a -ℤ pos 4 *ℤ len zx zy) in
    let x_low : pos 0 ≤ℤ x = times_nonneg 4 _ (square_nonneg (turn zx zy fx fy)) in
    let y_low : pos 0 ≤ℤ y = times_nonneg 4 _ (mul_nonneg _ _ (len_nonneg zx zy) (sub_nonneg _ _ f_in)) in
    let z_low : pos 0 ≤ℤ z = mul_nonneg _ _ (square_nonneg b) (sub_nonneg _ _ z_in) in
    let e : (a *ℤ b) *ℤ (a *ℤ b) ≡ k *ℤ k +ℤ (x +ℤ (y +ℤ z)) =
    ring r (sq (mul A B))
    (add (sq (mul (num (pos 2)) I)) (add (mul (num (pos 4)) (sq C)) (add (mul (num (pos 4)) (mul Z (sub (sq B) F))) (mul (sq B) (sub (sq A) (mul (num (pos 4)) Z)))))) refl in
    square_le k (a *ℤ b) (mul_nonneg a b a_in b_in) (le_by _ _ _ (add_nonneg _ _ x_low (add_nonneg _ _ y_low z_low)) e)

pub reached_step : (ux uy wx wy ex ey d h : ℤ) → pos 0 ≤ℤ d → pos 0 ≤ℤ h → len ex ey ≤ℤ (h *ℤ h) → IsReached ux uy wx wy d → IsReached ux uy (wx +ℤ ex) (wy +ℤ ey) (grown d h)
reached_step ux uy wx wy ex ey d h d_in h_in e_in p = record {
  m = p.m;
  n = p.n;
  n_pos = p.n_pos;
  m_low = p.m_low;
  m_high = p.m_high;
  within =
      let m = p.m in let n = p.n in
      let UX = var 0 in let UY = var 1 in let WX = var 2 in let WY = var 3 in let EX = var 4 in let EY = var 5 in let D = var 6 in let H = var 7 in let M = var 8 in let N = var 9 in
      let r = ux ∷ uy ∷ wx ∷ wy ∷ ex ∷ ey ∷ d ∷ h ∷ m ∷ n ∷ [] in
      let zx = n *ℤ wx -ℤ m *ℤ ux in
      let zy = n *ℤ wy -ℤ m *ℤ uy in
      let ZX = sub (mul N WX) (mul M UX) in
      let ZY = sub (mul N WY) (mul M UY) in
      let G = add (sq ZX) (sq ZY) in
      let E = add (sq EX) (sq EY) in
      let I = add (mul ZX (mul N EX)) (mul ZY (mul N EY)) in
      let f_e : len (n *ℤ ex) (n *ℤ ey) ≡ (n *ℤ n) *ℤ len ex ey = ring r (add (sq (mul N EX)) (sq (mul N EY))) (mul (sq N) E) refl in
      let h_e : (n *ℤ h) *ℤ (n *ℤ h) ≡ (n *ℤ n) *ℤ (h *ℤ h) = ring r (sq (mul N H)) (mul (sq N) (sq H)) refl in
      let f_in : len (n *ℤ ex) (n *ℤ ey) ≤ℤ ((n *ℤ h) *ℤ (n *ℤ h)) = rw (f_e, h_e) (mul_le_left (n *ℤ n) (len ex ey) (h *ℤ h) (square_nonneg n) e_in) in
      let nd_in : pos 0 ≤ℤ (n *ℤ d) = mul_nonneg n d (below p.n_pos) d_in in
      let nh_in : pos 0 ≤ℤ (n *ℤ h) = mul_nonneg n h (below p.n_pos) h_in in
      let i_in = inner_le zx zy (n *ℤ ex) (n *ℤ ey) (n *ℤ d) (n *ℤ h) nd_in nh_in p.within f_in in
      let i = inner zx zy (n *ℤ ex) (n *ℤ ey) in
      let x = (n *ℤ d) *ℤ (n *ℤ d) -ℤ pos 4 *ℤ gap ux uy wx wy m n in
      let y = pos 4 *ℤ ((n *ℤ d) *ℤ (n *ℤ h) -ℤ pos 2 *ℤ i) in
      let z = pos 4 *ℤ ((n *ℤ n) *ℤ (h *ℤ h -ℤ len ex ey)) in
      let x_in : pos 0 ≤ℤ x = sub_nonneg _ _ p.within in
      let y_in : pos 0 ≤ℤ y = times_nonneg 4 _ (sub_nonneg _ _ i_in) in
      let z_in : pos 0 ≤ℤ z = times_nonneg 4 _ (mul_nonneg _ _ (square_nonneg n) (sub_nonneg _ _ e_in)) in
      let e : (n *ℤ grown d h) *ℤ (n *ℤ grown d h) ≡ pos 4 *ℤ gap ux uy (wx +ℤ ex) (wy +ℤ ey) m n +ℤ (x +ℤ (y +ℤ z)) =
      ring r (sq (mul N (add D (mul (num (pos 2)) H))))
      (add (mul (num (pos 4)) (add (sq (sub (mul N (add WX EX)) (mul M UX))) (sq (sub (mul N (add WY EY)) (mul M UY)))))
      (add (sub (sq (mul N D)) (mul (num (pos 4)) G))
      (add (mul (num (pos 4)) (sub (mul (mul N D) (mul N H)) (mul (num (pos 2)) I))) (mul (num (pos 4)) (mul (sq N) (sub (sq H) E)))))) refl in
      le_by _ _ _ (add_nonneg _ _ x_in (add_nonneg _ _ y_in z_in)) e;
}
