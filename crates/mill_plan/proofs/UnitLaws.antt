-- Nearness in nanometres and in the units of the machine, and near a move.
use Rattle.std.proofs.Common.{◌≡◌, ℤ, pos, ◌+ℤ◌, ◌-ℤ◌, ◌*ℤ◌, ◌≤ℤ◌, true, [], ◌∷◌, refl, sym, subst, arith}
use borrow.Author.Differences.{ints}
use Rattle.number_laws.proofs.Ring.{Ex, var, num, add, sub, mul, ring}
use Rattle.number_laws.proofs.Order.{cancel, mul_le_left}
use Rattle.board_base.specs.declared.places.Point.{Point}
use Rattle.board_base.specs.declared.places.Move.{Move}
use Rattle.board_base.specs.Near.{near_of}
use Rattle.cell_sets.specs.Reached.{IsReachedFrom}
use Rattle.cell_sets.proofs.Sweeps.{reached_in_unit}
use Rattle.plane_geom.proofs.Segment.{gap}
use Rattle.plane_geom.proofs.NearLaws.{near_from_reached, near_step}
use Rattle.plane_geom.proofs.Axis.{reached_of}
use Rattle.rs274_sim.specs.Cutter.{nanometre, scaled, under, width_of, Sweeps}

abbrev pub sq : Ex → Ex
sq a = mul a a

abbrev pub gap_ex : Ex → Ex → Ex → Ex → Ex → Ex → Ex
gap_ex ux uy wx wy m n = add (sq (sub (mul n wx) (mul m ux))) (sq (sub (mul n wy) (mul m uy)))

-- the way between a place and a part of a segment, in the units of the machine
units_gap : (q a b : Point) (m n : ℤ)
    → pos 4 *ℤ gap (b.x *ℤ nanometre -ℤ a.x *ℤ nanometre) (b.y *ℤ nanometre -ℤ a.y *ℤ nanometre) (q.x *ℤ nanometre -ℤ a.x *ℤ nanometre) (q.y *ℤ nanometre -ℤ a.y *ℤ nanometre) m n
    ≡ pos 1000000000000 *ℤ (pos 4 *ℤ gap (b.x -ℤ a.x) (b.y -ℤ a.y) (q.x -ℤ a.x) (q.y -ℤ a.y) m n)
units_gap q a b m n =
    let N = num nanometre in
    let AX = var 0 in let AY = var 1 in let BX = var 2 in let BY = var 3 in let QX = var 4 in let QY = var 5 in let M = var 6 in let K = var 7 in
    ring (a.x ∷ a.y ∷ b.x ∷ b.y ∷ q.x ∷ q.y ∷ m ∷ n ∷ []) (mul (num (pos 4)) (gap_ex (sub (mul BX N) (mul AX N)) (sub (mul BY N) (mul AY N)) (sub (mul QX N) (mul AX N)) (sub (mul QY N) (mul AY N)) M K))
    (mul (num (pos 1000000000000)) (mul (num (pos 4)) (gap_ex (sub BX AX) (sub BY AY) (sub QX AX) (sub QY AY) M K))) refl

units_width : (d n : ℤ) → (n *ℤ (d *ℤ nanometre)) *ℤ (n *ℤ (d *ℤ nanometre)) ≡ pos 1000000000000 *ℤ ((n *ℤ d) *ℤ (n *ℤ d))
units_width d n = ring (d ∷ n ∷ []) (sq (mul (var 1) (mul (var 0) (num nanometre)))) (mul (num (pos 1000000000000)) (sq (mul (var 1) (var 0)))) refl

-- what is near in the units of the machine is near in nanometres
pub unscaled : (q a b : Point) (d : ℤ) → near_of (scaled q) (scaled a) (scaled b) (d *ℤ nanometre) ≡ true → near_of q a b d ≡ true
unfolding scaled
unscaled q a b d near =
    let p = reached_of (scaled q) (scaled a) (scaled b) (d *ℤ nanometre) near in
    let g : ℤ = pos 4 *ℤ gap (b.x -ℤ a.x) (b.y -ℤ a.y) (q.x -ℤ a.x) (q.y -ℤ a.y) p.m p.n in
    let w : ℤ = (p.n *ℤ d) *ℤ (p.n *ℤ d) in
    near_from_reached q a b d (record {
      m = p.m;
      n = p.n;
      n_pos = p.n_pos;
      m_low = p.m_low;
      m_high = p.m_high;
      within = cancel (pos 1000000000000) g w (omega (arith, ints))
          (subst (λ x. x ≤ℤ (pos 1000000000000 *ℤ w)) (units_gap q a b p.m p.n)
          (subst (λ y. (pos 4 *ℤ gap (b.x *ℤ nanometre -ℤ a.x *ℤ nanometre) (b.y *ℤ nanometre -ℤ a.y *ℤ nanometre) (q.x *ℤ nanometre -ℤ a.x *ℤ nanometre) (q.y *ℤ nanometre -ℤ a.y *ℤ nanometre) p.m p.n) ≤ℤ y) (units_width d p.n) p.within));
    })

-- and the other way
pub upscaled : (q a b : Point) (d : ℤ) → near_of q a b d ≡ true → near_of (scaled q) (scaled a) (scaled b) (d *ℤ nanometre) ≡ true
unfolding scaled
upscaled q a b d near =
    let p = reached_of q a b d near in
    let g : ℤ = pos 4 *ℤ gap (b.x -ℤ a.x) (b.y -ℤ a.y) (q.x -ℤ a.x) (q.y -ℤ a.y) p.m p.n in
    let w : ℤ = (p.n *ℤ d) *ℤ (p.n *ℤ d) in
    near_from_reached (scaled q) (scaled a) (scaled b) (d *ℤ nanometre) (record {
      m = p.m;
      n = p.n;
      n_pos = p.n_pos;
      m_low = p.m_low;
      m_high = p.m_high;
      within = subst (λ x. x ≤ℤ ((p.n *ℤ (d *ℤ nanometre)) *ℤ (p.n *ℤ (d *ℤ nanometre)))) (sym (units_gap q a b p.m p.n))
          (subst (λ y. (pos 1000000000000 *ℤ g) ≤ℤ y) (sym (units_width d p.n)) (mul_le_left (pos 1000000000000) g w (omega (arith, ints)) p.within));
    })

-- ---- a step from a place that a move is near

pub in_units : (z : ℤ) → pos 0 ≤ℤ z → pos 0 ≤ℤ (z *ℤ nanometre)
in_units z h = omega (arith, ints)

pub width_nonneg : (r : ℤ) → pos 0 ≤ℤ r → pos 0 ≤ℤ ((pos 2 *ℤ r) *ℤ nanometre)
width_nonneg r h = omega (arith, ints)

pub width_sum : (r h : ℤ) → (pos 2 *ℤ r) *ℤ nanometre +ℤ pos 2 *ℤ (h *ℤ nanometre) ≡ (pos 2 *ℤ (r +ℤ h)) *ℤ nanometre
width_sum r h = ring (r ∷ h ∷ []) (add (mul (mul (num (pos 2)) (var 0)) (num nanometre)) (mul (num (pos 2)) (mul (var 1) (num nanometre)))) (mul (mul (num (pos 2)) (add (var 0) (var 1))) (num nanometre)) refl

-- a point at most h from one that is within r of a move is within r + h of it
pub moved_on : (m : Move) (q c : Point) (r h : ℤ) → pos 0 ≤ℤ r → pos 0 ≤ℤ h → IsReachedFrom h q c → Sweeps m q r → Sweeps m c (r +ℤ h)
unfolding width_of scaled
moved_on m q c r h r_in h_in short near =
    subst (λ (d : ℤ). near_of (scaled c) (under m.from) (under m.to) d ≡ true) (width_sum r h)
    (near_step (scaled q) (scaled c) (under m.from) (under m.to) ((pos 2 *ℤ r) *ℤ nanometre) (h *ℤ nanometre) (width_nonneg r r_in) (in_units h h_in) (reached_in_unit nanometre h q c short) near)
