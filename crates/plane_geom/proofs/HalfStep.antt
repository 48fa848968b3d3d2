-- The half step: each point near a straight run of unit steps is near a lattice point of the run, by half a diagonal more.
use Rattle.std.proofs.Common.{◌≡◌, ℕ, zero, suc, ◌≤◌, ℤ, pos, negsuc, neg_ℤ, ◌+ℤ◌, ◌-ℤ◌, ◌*ℤ◌, ◌≤ℤ◌, ◌<ℤ◌, true, [], ◌∷◌, refl, sym, ap, subst, ◌∙◌, arith}
use Rattle.std.specs.Prelude.{unsigned_abs}
use Rattle.std.specs.Int.{int_div_euclid}
use Rattle.std.proofs.lemmas.Int.{by_lt_z}
use borrow.Author.Differences.{ints}
use Rattle.number_laws.proofs.Ring.{Ex, var, num, add, sub, mul, neg, ring}
use Rattle.number_laws.proofs.Order.{square_nonneg, cancel, mul_pos, mul_nonneg, le_by, mul_le_left}
use Rattle.number_laws.proofs.Squares.{square_within}
use Rattle.number_laws.proofs.Quotients.{rounded_low, rounded_high}
use Rattle.board_base.specs.declared.places.Point.{Point}
use Rattle.board_base.specs.Near.{near_of}
use Rattle.plane_geom.specs.NearStep.{length2}
use Rattle.plane_geom.proofs.Segment.{IsReached}
use Rattle.plane_geom.proofs.NearLaws.{near_step, near_from_reached}
use Rattle.plane_geom.proofs.Axis.{reached_of}
use Rattle.plane_geom.proofs.Points.{near_point, point_near}

abbrev SQ : Ex → Ex
SQ e = mul e e

abbrev two : Ex
two = num (pos 2)

abbrev four : Ex
four = num (pos 4)

-- a whole number of steps that is nearest to the part m / n of the way
record IsNearestStep (m n count t : ℤ) : Type 0 where
  low : pos 0 ≤ℤ t
  high : t ≤ℤ count
  short : neg_ℤ n ≤ℤ (pos 2 *ℤ (n *ℤ t -ℤ m *ℤ count))
  long : (pos 2 *ℤ (n *ℤ t -ℤ m *ℤ count)) ≤ℤ n

nearest_step : (m n count : ℤ) → pos 0 <ℤ n → pos 0 ≤ℤ m → m ≤ℤ n → pos 0 ≤ℤ count → IsNearestStep m n count (int_div_euclid (pos 2 *ℤ (m *ℤ count) +ℤ n) (pos 2 *ℤ n))
nearest_step m n count n_pos m_low m_high c_low =
    let x : ℤ = pos 2 *ℤ (m *ℤ count) +ℤ n in
    let t : ℤ = int_div_euclid x (pos 2 *ℤ n) in
    let twice : pos 0 <ℤ (pos 2 *ℤ n) = double n n_pos in
    let below = rounded_low x (pos 2 *ℤ n) t twice refl in
    let above = rounded_high x (pos 2 *ℤ n) t twice refl in
    let spread : (pos 2 *ℤ n) *ℤ t ≡ pos 2 *ℤ (n *ℤ t) = ring (n ∷ t ∷ []) (mul (mul two (var 0)) (var 1)) (mul two (mul (var 0) (var 1))) refl in
    let some : pos 0 ≤ℤ (m *ℤ count) = mul_nonneg m count m_low c_low in
    let most : (count *ℤ m) ≤ℤ (count *ℤ n) = mul_le_left count m n c_low m_high in
    let turned : count *ℤ m ≡ m *ℤ count = ring (m ∷ count ∷ []) (mul (var 1) (var 0)) (mul (var 0) (var 1)) refl in
    let turned' : count *ℤ n ≡ n *ℤ count = ring (n ∷ count ∷ []) (mul (var 1) (var 0)) (mul (var 0) (var 1)) refl in
    record {
      low = by_lt_z t (pos 0)
          (λ (l : t <ℤ pos 0).
          let far = mul_le_left n t (neg_ℤ (pos 1)) (weak n n_pos) (before t l) in
          let less : n *ℤ neg_ℤ (pos 1) ≡ neg_ℤ n = ring (n ∷ []) (mul (var 0) (neg (num (pos 1)))) (neg (var 0)) refl in
          absurd (too_low (n *ℤ t) n (m *ℤ count) ((pos 2 *ℤ n) *ℤ t) x (n *ℤ neg_ℤ (pos 1)) spread refl less n_pos some above far))
          (λ (l : pos 0 ≤ℤ t). l);
      high = by_lt_z count t
          (λ (l : count <ℤ t).
          let far = mul_le_left n (count +ℤ pos 1) t (weak n n_pos) (after count t l) in
          let more : n *ℤ (count +ℤ pos 1) ≡ n *ℤ count +ℤ n = ring (n ∷ count ∷ []) (mul (var 0) (add (var 1) (num (pos 1)))) (add (mul (var 0) (var 1)) (var 0)) refl in
          absurd (too_high (n *ℤ t) n (n *ℤ count) (m *ℤ count) (count *ℤ m) (count *ℤ n) ((pos 2 *ℤ n) *ℤ t) x (n *ℤ (count +ℤ pos 1)) spread refl more turned turned' n_pos most below far))
          (λ (l : t ≤ℤ count). l);
      short = not_short (n *ℤ t) n (m *ℤ count) ((pos 2 *ℤ n) *ℤ t) x spread refl above;
      long = not_long (n *ℤ t) n (m *ℤ count) ((pos 2 *ℤ n) *ℤ t) x spread refl below;
    }
  where
    double : (n : ℤ) → pos 0 <ℤ n → pos 0 <ℤ (pos 2 *ℤ n)
    double n h = omega (arith, ints)

    weak : (n : ℤ) → pos 0 <ℤ n → pos 0 ≤ℤ n
    weak n h = omega (arith, ints)

    before : (t : ℤ) → t <ℤ pos 0 → t ≤ℤ neg_ℤ (pos 1)
    before t h = omega (arith, ints)

    after : (c t : ℤ) → c <ℤ t → (c +ℤ pos 1) ≤ℤ t
    after c t h = omega (arith, ints)

    too_low : (nt n mc s x z : ℤ) → s ≡ pos 2 *ℤ nt → x ≡ pos 2 *ℤ mc +ℤ n → z ≡ neg_ℤ n → pos 0 <ℤ n → pos 0 ≤ℤ mc → x <ℤ (s +ℤ pos 2 *ℤ n) → nt ≤ℤ z → ⊥
    too_low nt n mc s x z e f g h k l m = omega (arith, ints)

    too_high : (nt n nc mc cm cn s x z : ℤ) → s ≡ pos 2 *ℤ nt → x ≡ pos 2 *ℤ mc +ℤ n → z ≡ nc +ℤ n → cm ≡ mc → cn ≡ nc → pos 0 <ℤ n → cm ≤ℤ cn → s ≤ℤ x → z ≤ℤ nt → ⊥
    too_high nt n nc mc cm cn s x z e f g a b h k l m = omega (arith, ints)

    not_short : (nt n mc s x : ℤ) → s ≡ pos 2 *ℤ nt → x ≡ pos 2 *ℤ mc +ℤ n → x <ℤ (s +ℤ pos 2 *ℤ n) → neg_ℤ n ≤ℤ (pos 2 *ℤ (nt -ℤ mc))
    not_short nt n mc s x e f h = omega (arith, ints)

    not_long : (nt n mc s x : ℤ) → s ≡ pos 2 *ℤ nt → x ≡ pos 2 *ℤ mc +ℤ n → s ≤ℤ x → (pos 2 *ℤ (nt -ℤ mc)) ≤ℤ n
    not_long nt n mc s x e f h = omega (arith, ints)

-- at most half a step of a diagonal is at most h
half_step : (p h k n east north : ℤ) → (p *ℤ p) ≤ℤ (pos 2 *ℤ (h *ℤ h)) → neg_ℤ n ≤ℤ (pos 2 *ℤ k) → (pos 2 *ℤ k) ≤ℤ n → (east *ℤ east) ≤ℤ pos 1 → (north *ℤ north) ≤ℤ pos 1
    → length2 (k *ℤ (p *ℤ east)) (k *ℤ (p *ℤ north)) ≤ℤ ((n *ℤ h) *ℤ (n *ℤ h))
half_step p h k n east north enough short long e_in n_in =
    let pp : ℤ = p *ℤ p in
    let z : ℤ = k *ℤ k in
    let w : ℤ = east *ℤ east +ℤ north *ℤ north in
    let nn : ℤ = n *ℤ n in
    let s1 : ((pos 2 *ℤ k) *ℤ (pos 2 *ℤ k)) ≤ℤ nn = square_within n (pos 2 *ℤ k) short long in
    let w_low : pos 0 ≤ℤ w = both (east *ℤ east) (north *ℤ north) (square_nonneg east) (square_nonneg north) in
    let w_high : w ≤ℤ pos 2 = sum (east *ℤ east) (north *ℤ north) e_in n_in in
    let s3 = mul_le_left (pp *ℤ w) ((pos 2 *ℤ k) *ℤ (pos 2 *ℤ k)) nn (mul_nonneg pp w (square_nonneg p) w_low) s1 in
    let s4 = mul_le_left (nn *ℤ pp) w (pos 2) (mul_nonneg nn pp (square_nonneg n) (square_nonneg p)) w_high in
    let s5 = mul_le_left nn pp (pos 2 *ℤ (h *ℤ h)) (square_nonneg n) enough in
    let r = p ∷ h ∷ k ∷ n ∷ east ∷ north ∷ [] in
    let P = var 0 in let H = var 1 in let K = var 2 in let N = var 3 in
    let W = add (SQ (var 4)) (SQ (var 5)) in
    let e1 : (pp *ℤ w) *ℤ ((pos 2 *ℤ k) *ℤ (pos 2 *ℤ k)) ≡ pos 4 *ℤ length2 (k *ℤ (p *ℤ east)) (k *ℤ (p *ℤ north)) =
    ring r (mul (mul (SQ P) W) (SQ (mul two K))) (mul four (add (SQ (mul K (mul P (var 4)))) (SQ (mul K (mul P (var 5)))))) refl in
    let e2 : (pp *ℤ w) *ℤ nn ≡ (nn *ℤ pp) *ℤ w = ring r (mul (mul (SQ P) W) (SQ N)) (mul (mul (SQ N) (SQ P)) W) refl in
    let e3 : (nn *ℤ pp) *ℤ pos 2 ≡ pos 2 *ℤ (nn *ℤ pp) = ring r (mul (mul (SQ N) (SQ P)) two) (mul two (mul (SQ N) (SQ P))) refl in
    let e4 : nn *ℤ (pos 2 *ℤ (h *ℤ h)) ≡ pos 2 *ℤ ((n *ℤ h) *ℤ (n *ℤ h)) = ring r (mul (SQ N) (mul two (SQ H))) (mul two (SQ (mul N H))) refl in
    last (length2 (k *ℤ (p *ℤ east)) (k *ℤ (p *ℤ north))) ((n *ℤ h) *ℤ (n *ℤ h)) ((pp *ℤ w) *ℤ ((pos 2 *ℤ k) *ℤ (pos 2 *ℤ k))) ((pp *ℤ w) *ℤ nn) ((nn *ℤ pp) *ℤ w) ((nn *ℤ pp) *ℤ pos 2) (nn *ℤ pp) (nn *ℤ (pos 2 *ℤ (h *ℤ h))) e1 e2 e3 e4 s3 s4 s5
  where
    both : (x y : ℤ) → pos 0 ≤ℤ x → pos 0 ≤ℤ y → pos 0 ≤ℤ (x +ℤ y)
    both x y h k = omega (arith, ints)

    sum : (x y : ℤ) → x ≤ℤ pos 1 → y ≤ℤ pos 1 → (x +ℤ y) ≤ℤ pos 2
    sum x y h k = omega (arith, ints)

    last : (l m a b c d s f : ℤ) → a ≡ pos 4 *ℤ l → b ≡ c → d ≡ pos 2 *ℤ s → f ≡ pos 2 *ℤ m → a ≤ℤ b → c ≤ℤ d → s ≤ℤ f → l ≤ℤ m
    last l m a b c d s f e1 e2 e3 e4 h k o = omega (arith, ints)

-- the lattice point so many steps from a
abbrev pub on_lattice : Point → ℤ → ℤ → ℤ → ℤ → Point
on_lattice a p east north t = record { x = a.x +ℤ t *ℤ (p *ℤ east); y = a.y +ℤ t *ℤ (p *ℤ north) }

-- the lattice point of a run that is near a point
pub record IsNearRun (q a : Point) (p east north d : ℤ) (count : ℕ) : Type 0 where
  pub at : ℕ
  pub early : at ≤ count
  pub near : near_of q (on_lattice a p east north (pos at)) (on_lattice a p east north (pos at)) d ≡ true

-- each point near the straight way of so many steps is near one of its lattice points
pub near_run : (p h d : ℤ) (q a : Point) (east north : ℤ) (count : ℕ) → (p *ℤ p) ≤ℤ (pos 2 *ℤ (h *ℤ h)) → pos 0 ≤ℤ h → pos 0 ≤ℤ d → (east *ℤ east) ≤ℤ pos 1 → (north *ℤ north) ≤ℤ pos 1
    → near_of q a (on_lattice a p east north (pos count)) d ≡ true → IsNearRun q a p east north (d +ℤ pos 2 *ℤ h) count
near_run p h d q a east north count enough h_low d_low e_in n_in near =
    let b : Point = on_lattice a p east north (pos count) in
    let r = reached_of q a b d near in
    let m : ℤ = r.m in
    let n : ℤ = r.n in
    let c : ℤ = pos count in
    let t : ℤ = int_div_euclid (pos 2 *ℤ (m *ℤ c) +ℤ n) (pos 2 *ℤ n) in
    let s = nearest_step m n c r.n_pos r.m_low r.m_high (no_less count) in
    let wx : ℤ = q.x -ℤ a.x in
    let wy : ℤ = q.y -ℤ a.y in
    let ex : ℤ = p *ℤ east in
    let ey : ℤ = p *ℤ north in
    let whole : Point = record { x = n *ℤ wx; y = n *ℤ wy } in
    let part : Point = record { x = m *ℤ (b.x -ℤ a.x); y = m *ℤ (b.y -ℤ a.y) } in
    let stop : Point = record { x = n *ℤ (t *ℤ ex); y = n *ℤ (t *ℤ ey) } in
    let n_low : pos 0 ≤ℤ n = weak n r.n_pos in
    let first : near_of part whole whole (n *ℤ d) ≡ true =
    point_near part whole (n *ℤ d) (subst (λ (l : ℤ). (pos 4 *ℤ l) ≤ℤ ((n *ℤ d) *ℤ (n *ℤ d))) (swap_sides n m wx wy (b.x -ℤ a.x) (b.y -ℤ a.y)) r.within) in
    let short = half_step p h (n *ℤ t -ℤ m *ℤ c) n east north enough s.short s.long e_in n_in in
    let moved : length2 (stop.x -ℤ part.x) (stop.y -ℤ part.y) ≤ℤ ((n *ℤ h) *ℤ (n *ℤ h)) =
    subst (λ (l : ℤ). l ≤ℤ ((n *ℤ h) *ℤ (n *ℤ h))) (same_way n t m c ex ey a.x a.y) short in
    let second = near_step part stop whole whole (n *ℤ d) (n *ℤ h) (mul_nonneg n d n_low d_low) (mul_nonneg n h n_low h_low) moved first in
    let far = near_point stop whole (n *ℤ d +ℤ pos 2 *ℤ (n *ℤ h)) second in
    let close : (pos 4 *ℤ length2 (q.x -ℤ (a.x +ℤ t *ℤ ex)) (q.y -ℤ (a.y +ℤ t *ℤ ey))) ≤ℤ ((d +ℤ pos 2 *ℤ h) *ℤ (d +ℤ pos 2 *ℤ h)) =
    cancel (n *ℤ n) (pos 4 *ℤ length2 (q.x -ℤ (a.x +ℤ t *ℤ ex)) (q.y -ℤ (a.y +ℤ t *ℤ ey))) ((d +ℤ pos 2 *ℤ h) *ℤ (d +ℤ pos 2 *ℤ h)) (mul_pos n n r.n_pos r.n_pos)
    (scaled_down (pos 4 *ℤ length2 (stop.x -ℤ whole.x) (stop.y -ℤ whole.y)) ((n *ℤ d +ℤ pos 2 *ℤ (n *ℤ h)) *ℤ (n *ℤ d +ℤ pos 2 *ℤ (n *ℤ h))) ((n *ℤ n) *ℤ (pos 4 *ℤ length2 (q.x -ℤ (a.x +ℤ t *ℤ ex)) (q.y -ℤ (a.y +ℤ t *ℤ ey)))) ((n *ℤ n) *ℤ ((d +ℤ pos 2 *ℤ h) *ℤ (d +ℤ pos 2 *ℤ h)))
    (by_part n t ex ey q.x q.y a.x a.y) (by_width n d h) far) in
    let is : pos (unsigned_abs t) ≡ t = size t s.low in
    record {
      at = unsigned_abs t;
      early = fits (unsigned_abs t) count t is s.high;
      near = subst (λ (x : ℤ). near_of q (on_lattice a p east north x) (on_lattice a p east north x) (d +ℤ pos 2 *ℤ h) ≡ true) (sym is)
          (point_near q (on_lattice a p east north t) (d +ℤ pos 2 *ℤ h) close);
    }
  where
    no_less : (n : ℕ) → pos 0 ≤ℤ pos n
    no_less n = omega (arith, ints)

    weak : (n : ℤ) → pos 0 <ℤ n → pos 0 ≤ℤ n
    weak n h = omega (arith, ints)

    size : (t : ℤ) → pos 0 ≤ℤ t → pos (unsigned_abs t) ≡ t
    size t h = omega (arith, ints)

    fits : (k c : ℕ) (t : ℤ) → pos k ≡ t → t ≤ℤ pos c → k ≤ c
    fits k c t e h = omega (arith, ints)

    swap_sides : (n m wx wy ux uy : ℤ) → (n *ℤ wx -ℤ m *ℤ ux) *ℤ (n *ℤ wx -ℤ m *ℤ ux) +ℤ (n *ℤ wy -ℤ m *ℤ uy) *ℤ (n *ℤ wy -ℤ m *ℤ uy) ≡ length2 (m *ℤ ux -ℤ n *ℤ wx) (m *ℤ uy -ℤ n *ℤ wy)
    swap_sides n m wx wy ux uy =
        ring (n ∷ m ∷ wx ∷ wy ∷ ux ∷ uy ∷ []) (add (SQ (sub (mul (var 0) (var 2)) (mul (var 1) (var 4)))) (SQ (sub (mul (var 0) (var 3)) (mul (var 1) (var 5)))))
        (add (SQ (sub (mul (var 1) (var 4)) (mul (var 0) (var 2)))) (SQ (sub (mul (var 1) (var 5)) (mul (var 0) (var 3))))) refl

    same_way : (n t m c ex ey ax ay : ℤ) → length2 ((n *ℤ t -ℤ m *ℤ c) *ℤ ex) ((n *ℤ t -ℤ m *ℤ c) *ℤ ey) ≡ length2 (n *ℤ (t *ℤ ex) -ℤ m *ℤ ((ax +ℤ c *ℤ ex) -ℤ ax)) (n *ℤ (t *ℤ ey) -ℤ m *ℤ ((ay +ℤ c *ℤ ey) -ℤ ay))
    same_way n t m c ex ey ax ay =
        let N = var 0 in let T = var 1 in let M = var 2 in let C = var 3 in
        let K = sub (mul N T) (mul M C) in
        ring (n ∷ t ∷ m ∷ c ∷ ex ∷ ey ∷ ax ∷ ay ∷ []) (add (SQ (mul K (var 4))) (SQ (mul K (var 5))))
        (add (SQ (sub (mul N (mul T (var 4))) (mul M (sub (add (var 6) (mul C (var 4))) (var 6))))) (SQ (sub (mul N (mul T (var 5))) (mul M (sub (add (var 7) (mul C (var 5))) (var 7)))))) refl

    by_part : (n t ex ey qx qy ax ay : ℤ) → pos 4 *ℤ length2 (n *ℤ (t *ℤ ex) -ℤ n *ℤ (qx -ℤ ax)) (n *ℤ (t *ℤ ey) -ℤ n *ℤ (qy -ℤ ay)) ≡ (n *ℤ n) *ℤ (pos 4 *ℤ length2 (qx -ℤ (ax +ℤ t *ℤ ex)) (qy -ℤ (ay +ℤ t *ℤ ey)))
    by_part n t ex ey qx qy ax ay =
        ring (n ∷ t ∷ ex ∷ ey ∷ qx ∷ qy ∷ ax ∷ ay ∷ [])
        (mul four (add (SQ (sub (mul (var 0) (mul (var 1) (var 2))) (mul (var 0) (sub (var 4) (var 6))))) (SQ (sub (mul (var 0) (mul (var 1) (var 3))) (mul (var 0) (sub (var 5) (var 7)))))))
        (mul (SQ (var 0)) (mul four (add (SQ (sub (var 4) (add (var 6) (mul (var 1) (var 2))))) (SQ (sub (var 5) (add (var 7) (mul (var 1) (var 3)))))))) refl

    by_width : (n d h : ℤ) → (n *ℤ d +ℤ pos 2 *ℤ (n *ℤ h)) *ℤ (n *ℤ d +ℤ pos 2 *ℤ (n *ℤ h)) ≡ (n *ℤ n) *ℤ ((d +ℤ pos 2 *ℤ h) *ℤ (d +ℤ pos 2 *ℤ h))
    by_width n d h = ring (n ∷ d ∷ h ∷ []) (SQ (add (mul (var 0) (var 1)) (mul two (mul (var 0) (var 2))))) (mul (SQ (var 0)) (SQ (add (var 1) (mul two (var 2))))) refl

    scaled_down : (x y x' y' : ℤ) → x ≡ x' → y ≡ y' → x ≤ℤ y → x' ≤ℤ y'
    scaled_down x y x' y' e f h = omega (arith, ints)

-- the way between the part m / n of a run of c steps and its lattice point at t
abbrev gap_of : ℤ → ℤ → ℤ → ℤ → ℤ → ℤ → ℤ → ℤ → ℤ
gap_of ax ay t c ex ey m n =
    (n *ℤ ((ax +ℤ t *ℤ ex) -ℤ ax) -ℤ m *ℤ ((ax +ℤ c *ℤ ex) -ℤ ax)) *ℤ (n *ℤ ((ax +ℤ t *ℤ ex) -ℤ ax) -ℤ m *ℤ ((ax +ℤ c *ℤ ex) -ℤ ax))
    +ℤ (n *ℤ ((ay +ℤ t *ℤ ey) -ℤ ay) -ℤ m *ℤ ((ay +ℤ c *ℤ ey) -ℤ ay)) *ℤ (n *ℤ ((ay +ℤ t *ℤ ey) -ℤ ay) -ℤ m *ℤ ((ay +ℤ c *ℤ ey) -ℤ ay))

crossed : (ax ay t c ex ey : ℤ) → gap_of ax ay t c ex ey t c ≡ pos 0
crossed ax ay t c ex ey =
    let T = var 2 in let C = var 3 in
    ring (ax ∷ ay ∷ t ∷ c ∷ ex ∷ ey ∷ [])
    (add (SQ (sub (mul C (sub (add (var 0) (mul T (var 4))) (var 0))) (mul T (sub (add (var 0) (mul C (var 4))) (var 0)))))
    (SQ (sub (mul C (sub (add (var 1) (mul T (var 5))) (var 1))) (mul T (sub (add (var 1) (mul C (var 5))) (var 1)))))) (num (pos 0)) refl

same : (ax ay t n ex ey : ℤ) → gap_of ax ay t t ex ey n n ≡ pos 0
same ax ay t n ex ey =
    let T = var 2 in let N = var 3 in
    ring (ax ∷ ay ∷ t ∷ n ∷ ex ∷ ey ∷ [])
    (add (SQ (sub (mul N (sub (add (var 0) (mul T (var 4))) (var 0))) (mul N (sub (add (var 0) (mul T (var 4))) (var 0)))))
    (SQ (sub (mul N (sub (add (var 1) (mul T (var 5))) (var 1))) (mul N (sub (add (var 1) (mul T (var 5))) (var 1)))))) (num (pos 0)) refl

on_spot : (n g : ℤ) → g ≡ pos 0 → (pos 4 *ℤ g) ≤ℤ ((n *ℤ pos 0) *ℤ (n *ℤ pos 0))
on_spot n g e = by g ((n *ℤ pos 0) *ℤ (n *ℤ pos 0)) e (square_nonneg (n *ℤ pos 0))
  where
    by : (g z : ℤ) → g ≡ pos 0 → pos 0 ≤ℤ z → (pos 4 *ℤ g) ≤ℤ z
    by g z e h = omega (arith, ints)

inside : (t c : ℕ) → t ≤ c → pos t ≤ℤ pos c
inside t c l = omega (arith, ints)

-- the lattice points of a run lie on it
pub on_run : (p : ℤ) (a : Point) (east north : ℤ) (t count : ℕ) → t ≤ count → near_of (on_lattice a p east north (pos t)) a (on_lattice a p east north (pos count)) (pos 0) ≡ true
on_run p a east north t zero l =
    let z : t ≡ 0 = omega (arith, l) in
    subst (λ (k : ℕ). near_of (on_lattice a p east north (pos k)) a (on_lattice a p east north (pos 0)) (pos 0) ≡ true) (sym z)
    (near_from_reached (on_lattice a p east north (pos 0)) a (on_lattice a p east north (pos 0)) (pos 0) (record {
      m = pos 1;
      n = pos 1;
      n_pos = omega (arith, ints);
      m_low = omega (arith, ints);
      m_high = omega (arith, ints);
      within = on_spot (pos 1) (gap_of a.x a.y (pos 0) (pos 0) (p *ℤ east) (p *ℤ north) (pos 1) (pos 1)) (same a.x a.y (pos 0) (pos 1) (p *ℤ east) (p *ℤ north));
    }))
on_run p a east north t (suc c) l =
    near_from_reached (on_lattice a p east north (pos t)) a (on_lattice a p east north (pos (suc c))) (pos 0) (record {
      m = pos t;
      n = pos (suc c);
      n_pos = omega (arith, ints);
      m_low = omega (arith, ints);
      m_high = inside t (suc c) l;
      within = on_spot (pos (suc c)) (gap_of a.x a.y (pos t) (pos (suc c)) (p *ℤ east) (p *ℤ north) (pos t) (pos (suc c))) (crossed a.x a.y (pos t) (pos (suc c)) (p *ℤ east) (p *ℤ north));
    })
