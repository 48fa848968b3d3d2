-- The test of the distance says whether some point of the segment is within half of d.
use Rattle.std.proofs.Common.{◌≡◌, zero, suc, ℤ, pos, negsuc, ◌+ℤ◌, ◌-ℤ◌, ◌*ℤ◌, ◌≤ℤ◌, ◌<ℤ◌, int_le, Bool, true, false, cond, refl, arith}
use borrow.Author.Differences.{ints, lt_out, at_most_in}
use Rattle.number_laws.proofs.Tests.{to_le, to_lt, of_le}
use Rattle.board_base.specs.declared.places.Point.{Point}
use Rattle.board_base.specs.Near.{near_of, near_vec, is_short, is_beside, fits_four_times, square, area_by, dot, cross, from_to}
use Rattle.plane_geom.specs.NearStep.{NearStep}
use Rattle.plane_geom.proofs.Segment.{IsReached, start_reached, end_reached, side_reached, start_near, end_near, side_near, reached_step, len, inner, grown}

weak : (a b : ℤ) → a <ℤ b → a ≤ℤ b
weak a b h = omega (arith, lt_out, at_most_in)

-- `cond` by its test, with what the test said
pick : (b : Bool) (P : Bool → Type 0) (x y : Bool) → (b ≡ true → P x) → (b ≡ false → P y) → P (cond b x y)
pick true P x y f g = f refl
pick false P x y f g = g refl

zero_root : (x : ℤ) → (x *ℤ x) ≤ℤ pos 0 → x ≡ pos 0
zero_root (pos zero) h = refl
zero_root (pos (suc n)) h = absurd (omega (arith, ints))
zero_root (negsuc n) h = absurd (omega (arith, ints))

left_low : (a b : ℤ) → pos 0 ≤ℤ b → (a +ℤ b) ≤ℤ pos 0 → a ≤ℤ pos 0
left_low a b h k = omega (arith, ints)

right_low : (a b : ℤ) → pos 0 ≤ℤ a → (a +ℤ b) ≤ℤ pos 0 → b ≤ℤ pos 0
right_low a b h k = omega (arith, ints)

square_in : (x : ℤ) → pos 0 ≤ℤ (x *ℤ x)
square_in (pos n) = omega (arith, ints)
square_in (negsuc n) = omega (arith, ints)

-- a vector of no length has no inner product
no_inner : (ux uy wx wy : ℤ) → len ux uy ≤ℤ pos 0 → inner wx wy ux uy ≤ℤ pos 0
no_inner ux uy wx wy h =
    let ex : ux ≡ pos 0 = zero_root ux (left_low (ux *ℤ ux) (uy *ℤ uy) (square_in uy) h) in
    let ey : uy ≡ pos 0 = zero_root uy (right_low (ux *ℤ ux) (uy *ℤ uy) (square_in ux) h) in
    none ux uy wx wy ex ey
  where
    none : (ux uy wx wy : ℤ) → ux ≡ pos 0 → uy ≡ pos 0 → inner wx wy ux uy ≤ℤ pos 0
    none ux uy wx wy e f = rw (e, f) (omega (arith, ints))

pub near_vec-reached : (ux uy wx wy d : ℤ) → near_vec ux uy wx wy (wx -ℤ ux) (wy -ℤ uy) d ≡ true → IsReached ux uy wx wy d
unfolding near_vec is_short is_beside fits_four_times square area_by dot cross
near_vec-reached ux uy wx wy d =
    pick (int_le (len ux uy) (pos 0)) (λ (b : Bool). b ≡ true → IsReached ux uy wx wy d) _ _
    (λ _ h. start_reached ux uy wx wy d (to_le _ _ h))
    (λ u. pick (int_le (inner wx wy ux uy) (pos 0)) (λ (b : Bool). b ≡ true → IsReached ux uy wx wy d) _ _
    (λ _ h. start_reached ux uy wx wy d (to_le _ _ h))
    (λ s. pick (int_le (len ux uy) (inner wx wy ux uy)) (λ (b : Bool). b ≡ true → IsReached ux uy wx wy d) _ _
    (λ _ h. end_reached ux uy wx wy d (to_le _ _ h))
    (λ t h. side_reached ux uy wx wy d (to_lt _ _ u) (weak _ _ (to_lt _ _ s)) (weak _ _ (to_lt _ _ t)) (to_le _ _ h))))

pub reached-near_vec : (ux uy wx wy d : ℤ) → IsReached ux uy wx wy d → near_vec ux uy wx wy (wx -ℤ ux) (wy -ℤ uy) d ≡ true
unfolding near_vec is_short is_beside fits_four_times square area_by dot cross
reached-near_vec ux uy wx wy d p =
    pick (int_le (len ux uy) (pos 0)) (λ (b : Bool). b ≡ true) _ _
    (λ u. of_le _ _ (start_near ux uy wx wy d (no_inner ux uy wx wy (to_le _ _ u)) p))
    (λ u. pick (int_le (inner wx wy ux uy) (pos 0)) (λ (b : Bool). b ≡ true) _ _
    (λ s. of_le _ _ (start_near ux uy wx wy d (to_le _ _ s) p))
    (λ s. pick (int_le (len ux uy) (inner wx wy ux uy)) (λ (b : Bool). b ≡ true) _ _
    (λ t. of_le _ _ (end_near ux uy wx wy d (to_le _ _ t) p))
    (λ t. of_le _ _ (side_near ux uy wx wy d p))))

same_vec : (ux uy wx wy vx vy wx' wy' vx' vy' d : ℤ) → wx ≡ wx' → wy ≡ wy' → vx ≡ vx' → vy ≡ vy' → near_vec ux uy wx wy vx vy d ≡ true → near_vec ux uy wx' wy' vx' vy' d ≡ true
same_vec ux uy wx wy vx vy wx' wy' vx' vy' d e1 e2 e3 e4 h = cc

-- the law: a step of at most h takes q from near with d to near with d + 2 h
pub near_step : NearStep
unfolding near_of from_to
near_step q q' a b d h d_in h_in e_in n =
    let ux = b.x -ℤ a.x in let uy = b.y -ℤ a.y in
    let wx = q.x -ℤ a.x in let wy = q.y -ℤ a.y in
    let before = near_vec-reached ux uy wx wy d (same_vec ux uy wx wy _ _ wx wy _ _ d refl refl (split q.x a.x b.x) (split q.y a.y b.y) n) in
    let after = reached-near_vec ux uy _ _ (grown d h) (reached_step ux uy wx wy (q'.x -ℤ q.x) (q'.y -ℤ q.y) d h d_in h_in e_in before) in
    same_vec ux uy _ _ _ _ _ _ _ _ (grown d h) (moved q.x q'.x a.x) (moved q.y q'.y a.y) (moved_end q.x q'.x a.x b.x) (moved_end q.y q'.y a.y b.y) after
  where
    split : (q a b : ℤ) → q -ℤ b ≡ (q -ℤ a) -ℤ (b -ℤ a)
    split q a b = omega (arith, ints)

    moved : (q q' a : ℤ) → (q -ℤ a) +ℤ (q' -ℤ q) ≡ q' -ℤ a
    moved q q' a = omega (arith, ints)

    moved_end : (q q' a b : ℤ) → ((q -ℤ a) +ℤ (q' -ℤ q)) -ℤ (b -ℤ a) ≡ q' -ℤ b
    moved_end q q' a b = omega (arith, ints)

pub near_from_reached : (q a b : Point) (d : ℤ) → IsReached (b.x -ℤ a.x) (b.y -ℤ a.y) (q.x -ℤ a.x) (q.y -ℤ a.y) d → near_of q a b d ≡ true
unfolding near_of from_to
near_from_reached q a b d p = same_vec (b.x -ℤ a.x) (b.y -ℤ a.y) _ _ _ _ _ _ _ _ d refl refl (joined q.x a.x b.x) (joined q.y a.y b.y) (reached-near_vec _ _ _ _ d p)
  where
    joined : (q a b : ℤ) → (q -ℤ a) -ℤ (b -ℤ a) ≡ q -ℤ b
    joined q a b = omega (arith, ints)
