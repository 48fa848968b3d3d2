-- a part that holds a point of a cell touches the cell, and a part that covers a cell holds its points
use Rattle.std.proofs.Common.{◌≡◌, ℤ, pos, ◌+ℤ◌, ◌-ℤ◌, ◌*ℤ◌, ◌≤ℤ◌, int_lt, Bool, true, false, not, List, [], ◌∷◌, refl, sym, subst, ◌∙◌, arith}
use borrow.Author.Differences.{ints}
use Rattle.number_laws.proofs.Ring.{Ex, var, num, add, sub, mul, ring}
use Rattle.number_laws.proofs.Order.{mul_nonneg, le_by, sub_nonneg}
use Rattle.number_laws.proofs.Tests.{by_bool}
use Rattle.board_base.specs.declared.places.Point.{Point}
use Rattle.board_base.specs.Near.{near_of}
use Rattle.plane_geom.specs.NearStep.{length2}
use Rattle.plane_geom.proofs.NearLaws.{near_step}
use Rattle.poly_area.specs.Area.{area_holds, area_near}
use Rattle.poly_area.specs.AreaLaw.{IsInSquare}
use Rattle.poly_area.proofs.AreaLaws.{area_law_holds}
use Rattle.shape_parts.specs.declared.shape.Part.{Part}
use Rattle.shape_parts.specs.declared.shape.Part.TheVariants.{Disc, Capsule, Area}
use Rattle.shape_parts.specs.Parts.{twice, grown, shrunk, part_holds, part_touches, part_covers}
use Rattle.shape_parts.proofs.Standing.{both_true, first_true, second_true, left_true, right_true}

abbrev sq : Ex → Ex
sq a = mul a a

-- the cell round c with half side k, and a reach h of at least its half diagonal
pub record IsReach (c q : Point) (k h : ℤ) : Type 0 where
  pub square : IsInSquare c k q
  pub wide : (pos 2 *ℤ (k *ℤ k)) ≤ℤ (h *ℤ h)
  pub h_in : pos 0 ≤ℤ h

-- a number between -k and k has no larger square
in_band : (x k : ℤ) → pos 0 ≤ℤ (k -ℤ x) → pos 0 ≤ℤ (k +ℤ x) → (x *ℤ x) ≤ℤ (k *ℤ k)
in_band x k a b =
    let X = var 0 in let K = var 1 in
    le_by (x *ℤ x) (k *ℤ k) ((k -ℤ x) *ℤ (k +ℤ x)) (mul_nonneg _ _ a b) (ring (x ∷ k ∷ []) (sq K) (add (sq X) (mul (sub K X) (add K X))) refl)

summed : (a b s w : ℤ) → a ≤ℤ s → b ≤ℤ s → (pos 2 *ℤ s) ≤ℤ w → (a +ℤ b) ≤ℤ w
summed a b s w h k l = omega (arith, ints)

-- the centre and any point of the cell are at most h apart, both ways
pub step_out : (c q : Point) (k h : ℤ) → IsReach c q k h → length2 (c.x -ℤ q.x) (c.y -ℤ q.y) ≤ℤ (h *ℤ h)
step_out c q k h r =
    summed _ _ (k *ℤ k) (h *ℤ h) (in_band (c.x -ℤ q.x) k (east c.x q.x k r.square.west) (west c.x q.x k r.square.east)) (in_band (c.y -ℤ q.y) k (east c.y q.y k r.square.south) (west c.y q.y k r.square.north)) r.wide
  where
    east : (c q k : ℤ) → (c -ℤ k) ≤ℤ q → pos 0 ≤ℤ (k -ℤ (c -ℤ q))
    east c q k h = omega (arith, ints)

    west : (c q k : ℤ) → q ≤ℤ (c +ℤ k) → pos 0 ≤ℤ (k +ℤ (c -ℤ q))
    west c q k h = omega (arith, ints)

pub step_in : (c q : Point) (k h : ℤ) → IsReach c q k h → length2 (q.x -ℤ c.x) (q.y -ℤ c.y) ≤ℤ (h *ℤ h)
step_in c q k h r =
    summed _ _ (k *ℤ k) (h *ℤ h) (in_band (q.x -ℤ c.x) k (east c.x q.x k r.square.east) (west c.x q.x k r.square.west)) (in_band (q.y -ℤ c.y) k (east c.y q.y k r.square.north) (west c.y q.y k r.square.south)) r.wide
  where
    east : (c q k : ℤ) → q ≤ℤ (c +ℤ k) → pos 0 ≤ℤ (k -ℤ (q -ℤ c))
    east c q k h = omega (arith, ints)

    west : (c q k : ℤ) → (c -ℤ k) ≤ℤ q → pos 0 ≤ℤ (k +ℤ (q -ℤ c))
    west c q k h = omega (arith, ints)

to_le_of_lt : (a b : ℤ) → int_lt a b ≡ true → a ≤ℤ b
to_le_of_lt a b e = omega (arith, ints)

-- a segment that is near a point of the cell with d is near the centre with d + 2 h
near_centre : (c q a b : Point) (k h d : ℤ) → IsReach c q k h → pos 0 ≤ℤ d → near_of q a b d ≡ true → near_of c a b (grown d h) ≡ true
unfolding grown
near_centre c q a b k h d r d_in n = near_step q c a b d h d_in r.h_in (step_out c q k h r) n

-- a segment that is near the centre with d - 2 h is near each point of the cell with d
near_point : (c q a b : Point) (k h d : ℤ) → IsReach c q k h → int_lt (twice h) d ≡ true → near_of c a b (shrunk d h) ≡ true → near_of q a b d ≡ true
unfolding shrunk twice
near_point c q a b k h d r d_in n =
    subst (λ (e : ℤ). near_of q a b e ≡ true) (back d (pos 2 *ℤ h)) (near_step c q a b (d -ℤ pos 2 *ℤ h) h (inside (pos 2 *ℤ h) d d_in) r.h_in (step_in c q k h r) n)
  where
    back : (d t : ℤ) → (d -ℤ t) +ℤ t ≡ d
    back d t = omega (arith, ints)

    inside : (t d : ℤ) → int_lt t d ≡ true → pos 0 ≤ℤ (d -ℤ t)
    inside t d e = omega (arith, ints)

above : (h d : ℤ) → pos 0 ≤ℤ h → int_lt (twice h) d ≡ true → int_lt (pos 0) d ≡ true
unfolding twice
above h d l e = sym (omega (arith, ints))

-- an Area of which no edge is near the centre with 2 h holds all points of the cell or none
same_side : (c q : Point) (k h : ℤ) (loops : List (List Point)) → IsReach c q k h → area_near c (twice h) loops ≡ false → area_holds q loops ≡ area_holds c loops
unfolding twice
same_side c q k h loops r far = area_law_holds c k (pos 2 *ℤ h) loops (reach k h r.wide) far q c r.square (record { west = low c.x k k_in; east = up c.x k k_in; south = low c.y k k_in; north = up c.y k k_in })
  where
    k_in : pos 0 ≤ℤ k
    k_in = band c.x q.x k r.square.west r.square.east
      where
        band : (c q k : ℤ) → (c -ℤ k) ≤ℤ q → q ≤ℤ (c +ℤ k) → pos 0 ≤ℤ k
        band c q k h l = omega (arith, ints)

    low : (c k : ℤ) → pos 0 ≤ℤ k → (c -ℤ k) ≤ℤ c
    low c k h = omega (arith, ints)

    up : (c k : ℤ) → pos 0 ≤ℤ k → c ≤ℤ (c +ℤ k)
    up c k h = omega (arith, ints)

    reach : (k h : ℤ) → (pos 2 *ℤ (k *ℤ k)) ≤ℤ (h *ℤ h) → (pos 8 *ℤ (k *ℤ k)) ≤ℤ ((pos 2 *ℤ h) *ℤ (pos 2 *ℤ h))
    reach k h w =
        let K = var 0 in let H = var 1 in
        le_by _ _ (pos 4 *ℤ (h *ℤ h -ℤ pos 2 *ℤ (k *ℤ k))) (mul_nonneg (pos 4) _ (omega (arith, ints)) (sub_nonneg _ _ w))
        (ring (k ∷ h ∷ []) (sq (mul (num (pos 2)) H)) (add (mul (num (pos 8)) (sq K)) (mul (num (pos 4)) (sub (sq H) (mul (num (pos 2)) (sq K))))) refl)

pub part_touched : (c q : Point) (k h : ℤ) (part : Part) → IsReach c q k h → part_holds q part ≡ true → part_touches c h part ≡ true
part_touched c q k h (Disc a d) r e =
    let wide = first_true (int_lt (pos 0) d) (near_of q a a d) e in
    both_true (int_lt (pos 0) d) (near_of c a a (grown d h)) wide (near_centre c q a a k h d r (to_le_of_lt (pos 0) d wide) (second_true (int_lt (pos 0) d) (near_of q a a d) e))
part_touched c q k h (Capsule a b d) r e =
    let wide = first_true (int_lt (pos 0) d) (near_of q a b d) e in
    both_true (int_lt (pos 0) d) (near_of c a b (grown d h)) wide (near_centre c q a b k h d r (to_le_of_lt (pos 0) d wide) (second_true (int_lt (pos 0) d) (near_of q a b d) e))
part_touched c q k h (Area loops) r e =
    by_bool (area_near c (twice h) loops) (λ n. left_true (area_near c (twice h) loops) (area_holds c loops) n)
    (λ f. right_true (area_near c (twice h) loops) (area_holds c loops) (sym (same_side c q k h loops r f) ∙ e))

was_not : (b : Bool) → not b ≡ true → b ≡ false
was_not true e = sym e
was_not false e = refl

pub part_covered : (c q : Point) (k h : ℤ) (part : Part) → IsReach c q k h → part_covers c h part ≡ true → part_holds q part ≡ true
part_covered c q k h (Disc a d) r e =
    let wide = first_true (int_lt (twice h) d) (near_of c a a (shrunk d h)) e in
    both_true (int_lt (pos 0) d) (near_of q a a d) (above h d r.h_in wide) (near_point c q a a k h d r wide (second_true (int_lt (twice h) d) (near_of c a a (shrunk d h)) e))
part_covered c q k h (Capsule a b d) r e =
    let wide = first_true (int_lt (twice h) d) (near_of c a b (shrunk d h)) e in
    both_true (int_lt (pos 0) d) (near_of q a b d) (above h d r.h_in wide) (near_point c q a b k h d r wide (second_true (int_lt (twice h) d) (near_of c a b (shrunk d h)) e))
part_covered c q k h (Area loops) r e =
    same_side c q k h loops r (was_not (area_near c (twice h) loops) (first_true (not (area_near c (twice h) loops)) (area_holds c loops) e))
    ∙ second_true (not (area_near c (twice h) loops)) (area_holds c loops) e
