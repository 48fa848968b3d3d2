-- The columns and rows round a segment.
use Rattle.std.proofs.Common.{◌≡◌, ℤ, pos, negsuc, ◌+ℤ◌, ◌-ℤ◌, ◌*ℤ◌, ◌≤ℤ◌, int_lt, Bool, true, false, cond, refl, arith}
use Rattle.std.specs.Int.{int_min, int_max}
use borrow.Author.Differences.{ints}
use Rattle.board_base.specs.declared.places.Point.{Point}
use Rattle.board_base.specs.declared.places.Cell.{Cell}
use Rattle.board_base.specs.declared.places.CellBox.{CellBox}
use Rattle.board_base.specs.Near.{near_of}
use Rattle.board_base.specs.Lattice.{IsInBox, IsFirst, IsLast, middle, centre_of}
use Rattle.plane_geom.specs.Reach.{half_cut}
use Rattle.plane_geom.proofs.Axis.{reached_of, axis_low, axis_high, first_part, second_part}

-- at most half of d before x is at or past the limit, which is whole
low_limit : (x m d : ℤ) → pos 0 ≤ℤ d → (pos 2 *ℤ x) ≤ℤ (pos 2 *ℤ m +ℤ d) → (x -ℤ half_cut d) ≤ℤ m
unfolding half_cut
low_limit x m (pos a) h k = omega (arith, ints)
low_limit x m (negsuc a) h k = absurd (omega (arith, ints))

high_limit : (x m d : ℤ) → pos 0 ≤ℤ d → (pos 2 *ℤ m) ≤ℤ (pos 2 *ℤ x +ℤ d) → m ≤ℤ (x +ℤ half_cut d)
unfolding half_cut
high_limit x m (pos a) h k = omega (arith, ints)
high_limit x m (negsuc a) h k = absurd (omega (arith, ints))

-- ---- the lesser and the greater of two

min_le : (a b : ℤ) → (int_min a b ≤ℤ a) × (int_min a b ≤ℤ b)
min_le a b = pick (int_lt b a) refl
  where
    pick : (t : Bool) → int_lt b a ≡ t → (cond t b a ≤ℤ a) × (cond t b a ≤ℤ b)
    pick true e = (omega (arith, ints, e), omega (arith, ints))
    pick false e = (omega (arith, ints), omega (arith, ints, e))

max_le : (a b : ℤ) → (a ≤ℤ int_max a b) × (b ≤ℤ int_max a b)
max_le a b = pick (int_lt b a) refl
  where
    pick : (t : Bool) → int_lt b a ≡ t → (a ≤ℤ cond t a b) × (b ≤ℤ cond t a b)
    pick true e = (omega (arith, ints), omega (arith, ints, e))
    pick false e = (omega (arith, ints, e), omega (arith, ints))

-- the columns and rows of a box round ab
pub record IsRound (p d : ℤ) (a b : Point) (box : CellBox) : Type 0 where
  pub west : IsFirst p (int_min a.x b.x -ℤ half_cut d) box.i0
  pub south : IsFirst p (int_min a.y b.y -ℤ half_cut d) box.j0
  pub east : IsLast p (int_max a.x b.x +ℤ half_cut d) box.i1
  pub north : IsLast p (int_max a.y b.y +ℤ half_cut d) box.j1

pub round_holds : (p d : ℤ) (a b : Point) (box : CellBox) (c : Cell) → pos 0 ≤ℤ d → IsRound p d a b box → near_of (centre_of p c) a b d ≡ true → IsInBox box c
round_holds p d a b box c d_in r n =
    let q = centre_of p c in
    let e = reached_of q a b d n in
    let x_in = first_part (e.n *ℤ (q.x -ℤ a.x) -ℤ e.m *ℤ (b.x -ℤ a.x)) (e.n *ℤ (q.y -ℤ a.y) -ℤ e.m *ℤ (b.y -ℤ a.y)) _ e.within in
    let y_in = second_part (e.n *ℤ (q.x -ℤ a.x) -ℤ e.m *ℤ (b.x -ℤ a.x)) (e.n *ℤ (q.y -ℤ a.y) -ℤ e.m *ℤ (b.y -ℤ a.y)) _ e.within in
    record {
      west = (r.west.all c.i).1 (low_limit (int_min a.x b.x) (middle p c.i) d d_in (axis_low e.m e.n d a.x b.x q.x (int_min a.x b.x) e.n_pos e.m_low e.m_high d_in x_in (min_le a.x b.x).0 (min_le a.x b.x).1));
      east = (r.east.all c.i).1 (high_limit (int_max a.x b.x) (middle p c.i) d d_in (axis_high e.m e.n d a.x b.x q.x (int_max a.x b.x) e.n_pos e.m_low e.m_high d_in x_in (max_le a.x b.x).0 (max_le a.x b.x).1));
      south = (r.south.all c.j).1 (low_limit (int_min a.y b.y) (middle p c.j) d d_in (axis_low e.m e.n d a.y b.y q.y (int_min a.y b.y) e.n_pos e.m_low e.m_high d_in y_in (min_le a.y b.y).0 (min_le a.y b.y).1));
      north = (r.north.all c.j).1 (high_limit (int_max a.y b.y) (middle p c.j) d d_in (axis_high e.m e.n d a.y b.y q.y (int_max a.y b.y) e.n_pos e.m_low e.m_high d_in y_in (max_le a.y b.y).0 (max_le a.y b.y).1));
    }
