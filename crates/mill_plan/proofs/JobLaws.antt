-- What is true of a job that mills a side, and of its cutting.
use Rattle.std.proofs.Common.{◌≡◌, ◌⊎◌, inl, inr, ℕ, zero, suc, ◌<◌, ◌≤◌, ℤ, pos, neg_ℤ, ◌+ℤ◌, ◌-ℤ◌, ◌*ℤ◌, ◌≤ℤ◌, ◌<ℤ◌, Bool, true, false, cond, ◌&&◌, [], ◌∷◌, Some, None, IfSome, refl, sym, ap, subst, ◌∙◌, arith}
use Rattle.std.specs.Prelude.{nat_le, int_le, max}
use Rattle.std.specs.Int.{int_div_euclid}
use Rattle.std.proofs.lemmas.Bool.{cases_lt}
use borrow.Author.Differences.{ints}
use Rattle.number_laws.proofs.Ring.{var, num, add, mul, ring}
use Rattle.number_laws.proofs.Order.{mul_le_left, le_trans_ℤ}
use Rattle.number_laws.proofs.Quotients.{rounded_low, rounded_high}
use Rattle.number_laws.proofs.Tests.{by_bool, up_to}
use Rattle.board_base.specs.Lattice.{IsPitch, half_diagonal_of, least}
use Rattle.board_base.proofs.DiagonalLaws.{least_is}
use Rattle.cell_sets.specs.Cleared.{stride_of}
use Rattle.job_file.specs.declared.job.Job.{Job}
use Rattle.job_file.specs.Checks.{radius_of}
use Rattle.job_file.specs.Ranges.{IsInRanges, IsLength}
use Rattle.mill_plan.specs.Job.{IsSideJob}
use Rattle.mill_plan.specs.Cutting.{IsCutting, side_cutting, step_of, is_wide_enough, most_passes, last_of}
use Rattle.mill_plan.specs.Passes.{IsEnough}
use Rattle.std.proofs.lemmas.Bool.{lt-leb}
use Rattle.job_file.proofs.RangeLaws.{is_pitch}
use Rattle.mill_plan.proofs.GuardLaws.{step_far}
use Rattle.mill_plan.proofs.StepLaws.{least_most, least_before, IsRadius, IsStepSize, step_size, past_of}

-- ---- lengths

pub job_radius : (d : ℤ) → IsLength (pos 20) (pos 10000) d → IsRadius (radius_of d)
unfolding radius_of
job_radius d l = record { low = low d (int_div_euclid d (pos 2)) l.low up; high = high d (int_div_euclid d (pos 2)) l.high down }
  where
    down : (pos 2 *ℤ int_div_euclid d (pos 2)) ≤ℤ d
    down = rounded_low d (pos 2) (int_div_euclid d (pos 2)) (omega (arith, ints)) refl

    up : d <ℤ (pos 2 *ℤ int_div_euclid d (pos 2) +ℤ pos 2)
    up = rounded_high d (pos 2) (int_div_euclid d (pos 2)) (omega (arith, ints)) refl

    low : (d r : ℤ) → (pos 20 *ℤ pos 1000) ≤ℤ d → d <ℤ (pos 2 *ℤ r +ℤ pos 2) → pos 10000 ≤ℤ r
    low d r h k = omega (arith, ints)

    high : (d r : ℤ) → d ≤ℤ (pos 10000 *ℤ pos 1000) → (pos 2 *ℤ r) ≤ℤ d → r ≤ℤ pos 5000000
    high d r h k = omega (arith, ints)

pub job_step : (job : Job) → IsSideJob job → IsStepSize (step_of job)
unfolding step_of
job_step job ok = step_size (radius_of job.mill_diameters) job.milling_overlap (job_radius job.mill_diameters ok.ranges.mill_diameters) ok.ranges.milling_overlap.high

-- ---- the passes

-- enough steps, and the job's passes, are the job's last pass
pub last_is : (job : Job) (enough n : ℕ) → IsEnough (job.isolation_width -ℤ pos 2 *ℤ radius_of job.mill_diameters) (step_of job) enough → enough ≤ n → job.extra_passes ≤ n → (n ≡ enough) ⊎ (n ≡ job.extra_passes) → pos 0 ≤ℤ step_of job → n ≤ most_passes → n ≡ last_of job
unfolding last_of
last_is job enough n is up extra one step_in few =
    sym (least_is (λ m. nat_le job.extra_passes m && is_wide_enough job m) most_passes n few before (inl (both (up_to job.extra_passes n extra) (wide n (subst (λ z. (job.isolation_width -ℤ pos 2 *ℤ radius_of job.mill_diameters) ≤ℤ z) refl (reaches n up))))))
  where
    both : {a b : Bool} → a ≡ true → b ≡ true → (a && b) ≡ true
    both e f = rw (e, f) refl

    reaches : (n : ℕ) → enough ≤ n → (job.isolation_width -ℤ pos 2 *ℤ radius_of job.mill_diameters) ≤ℤ (pos n *ℤ step_of job)
    reaches n h = le_trans_ℤ (job.isolation_width -ℤ pos 2 *ℤ radius_of job.mill_diameters) (pos enough *ℤ step_of job) (pos n *ℤ step_of job) is.enough (step_far (step_of job) enough n step_in h)

    wide : (n : ℕ) → (job.isolation_width -ℤ pos 2 *ℤ radius_of job.mill_diameters) ≤ℤ (pos n *ℤ step_of job) → is_wide_enough job n ≡ true
    wide n h = to_true job.isolation_width (pos 2 *ℤ radius_of job.mill_diameters +ℤ pos n *ℤ step_of job) (over job.isolation_width (pos 2 *ℤ radius_of job.mill_diameters) (pos n *ℤ step_of job) h)
      where
        over : (w r s : ℤ) → (w -ℤ r) ≤ℤ s → w ≤ℤ (r +ℤ s)
        over w r s h = omega (arith, ints)

        never : (a b : ℤ) → int_le a b ≡ false → a ≤ℤ b → ⊥
        never a b e h = omega (arith, ints)

        to_true : (a b : ℤ) → a ≤ℤ b → int_le a b ≡ true
        to_true a b h = by_bool (int_le a b) (λ t. t) (λ t. absurd (never a b t h))

    narrow : (m : ℕ) → m < enough → is_wide_enough job m ≡ false
    narrow m h = to_false job.isolation_width (pos 2 *ℤ radius_of job.mill_diameters +ℤ pos m *ℤ step_of job) (under job.isolation_width (pos 2 *ℤ radius_of job.mill_diameters) (pos m *ℤ step_of job) (is.least m h))
      where
        under : (w r s : ℤ) → s <ℤ (w -ℤ r) → (r +ℤ s) <ℤ w
        under w r s h = omega (arith, ints)

        ever : (a b : ℤ) → int_le a b ≡ true → b <ℤ a → ⊥
        ever a b e h = omega (arith, ints)

        to_false : (a b : ℤ) → b <ℤ a → int_le a b ≡ false
        to_false a b h = by_bool (int_le a b) (λ t. absurd (ever a b t h)) (λ t. t)

    first : (a b : Bool) → a ≡ false → (a && b) ≡ false
    first a b e = ap (λ x. x && b) e

    second : (a : Bool) {b : Bool} → b ≡ false → (a && b) ≡ false
    second true e = e
    second false e = refl

    before : (m : ℕ) → m < n → (nat_le job.extra_passes m && is_wide_enough job m) ≡ false
    before m h = elim one as (λ _. (nat_le job.extra_passes m && is_wide_enough job m) ≡ false) [
      | inl e ↦ second (nat_le job.extra_passes m) (narrow m (subst (λ (k : ℕ). m < k) e h))
      | inr e ↦ first (nat_le job.extra_passes m) (is_wide_enough job m) (lt-leb job.extra_passes m (subst (λ (k : ℕ). m < k) e h))
    ]

-- the greater of both is
pub last_max : (job : Job) (enough n : ℕ) → IsSideJob job → IsEnough (job.isolation_width -ℤ pos 2 *ℤ radius_of job.mill_diameters) (step_of job) enough → enough ≤ 49900 → n ≡ max enough job.extra_passes → n ≡ last_of job
last_max job enough n ok is few e =
    let extra : job.extra_passes ≤ 50 = ok.ranges.extra_passes.high in
    last_is job enough n is (omega (arith, e)) (omega (arith, e)) (one enough job.extra_passes n e) (some (step_of job) (job_step job ok).low) (omega (arith, e, few, extra))
  where
    one : (a b n : ℕ) → n ≡ max a b → (n ≡ a) ⊎ (n ≡ b)
    one a b n e = elim (cases_lt a b) as (λ _. (n ≡ a) ⊎ (n ≡ b)) [ inl l ↦ inr (omega (arith, e, l)) | inr g ↦ inl (omega (arith, e, g)) ]

    some : (s : ℤ) → pos 200 ≤ℤ s → pos 0 ≤ℤ s
    some s h = omega (arith, ints)

-- the last pass is at most half a metre out
near_last : (job : Job) → IsSideJob job → (pos (last_of job) *ℤ step_of job) ≤ℤ pos 500000000
unfolding last_of
near_last job ok =
    by_number (least (λ m. nat_le job.extra_passes m && is_wide_enough job m) most_passes) (λ m h. least_before (λ m. nat_le job.extra_passes m && is_wide_enough job m) most_passes m h)
  where
    sized : IsStepSize (step_of job)
    sized = job_step job ok

    none : (s : ℤ) → (pos 0 *ℤ s) ≤ℤ pos 500000000
    none s = subst (λ z. z ≤ℤ pos 500000000) (ring (s ∷ []) (num (pos 0)) (mul (num (pos 0)) (var 0)) refl) (omega (arith, ints))

    few : (n : ℕ) → n ≤ 50 → (pos n *ℤ step_of job) ≤ℤ pos 500000000
    few n h = by (pos n *ℤ step_of job) (step_of job *ℤ pos n) (step_of job *ℤ pos 50) (step_of job) (ring (step_of job ∷ pos n ∷ []) (mul (var 1) (var 0)) (mul (var 0) (var 1)) refl) (mul_le_left (step_of job) (pos n) (pos 50) (some (step_of job) sized.low) (up n h)) sized.high
      where
        up : (n : ℕ) → n ≤ 50 → pos n ≤ℤ pos 50
        up n h = omega (arith, ints)

        some : (s : ℤ) → pos 200 ≤ℤ s → pos 0 ≤ℤ s
        some s h = omega (arith, ints)

        by : (a b c s : ℤ) → a ≡ b → b ≤ℤ (s *ℤ pos 50) → s ≤ℤ pos 10000000 → a ≤ℤ pos 500000000
        by a b c s e h k = omega (arith, ints)

    narrow : (m : ℕ) → is_wide_enough job m ≡ false → (pos (suc m) *ℤ step_of job) ≤ℤ pos 500000000
    narrow m e =
        by (pos (suc m) *ℤ step_of job) (pos m *ℤ step_of job) (step_of job) (radius_of job.mill_diameters) job.isolation_width (ap (λ z. z *ℤ step_of job) (one_more m) ∙ ring (step_of job ∷ pos m ∷ []) (mul (add (var 1) (num (pos 1))) (var 0)) (add (mul (var 1) (var 0)) (var 0)) refl)
        (under job.isolation_width (pos 2 *ℤ radius_of job.mill_diameters +ℤ pos m *ℤ step_of job) e) (job_radius job.mill_diameters ok.ranges.mill_diameters).low ok.ranges.isolation_width.high sized.high
      where
        one_more : (m : ℕ) → pos (suc m) ≡ pos m +ℤ pos 1
        one_more m = omega (arith, ints)

        under : (a b : ℤ) → int_le a b ≡ false → b <ℤ a
        under a b e = omega (arith, ints)

        by : (a b s r w : ℤ) → a ≡ b +ℤ s → (pos 2 *ℤ r +ℤ b) <ℤ w → pos 10000 ≤ℤ r → w ≤ℤ (pos 10000 *ℤ pos 1000) → s ≤ℤ pos 10000000 → a ≤ℤ pos 500000000
        by a b s r w e h k l m = omega (arith, ints)

    by_test : (m : ℕ) → (nat_le job.extra_passes m && is_wide_enough job m) ≡ false → (pos (suc m) *ℤ step_of job) ≤ℤ pos 500000000
    by_test m e = by_bool (nat_le job.extra_passes m)
        (λ t. narrow m (subst (λ b. (b && is_wide_enough job m) ≡ false) t e))
        (λ t. few (suc m) (let a = past_of job.extra_passes m t in let b = ok.ranges.extra_passes.high in omega (arith, a, b)))

    by_number : (n : ℕ) → ((m : ℕ) → m < n → (nat_le job.extra_passes m && is_wide_enough job m) ≡ false) → (pos n *ℤ step_of job) ≤ℤ pos 500000000
    by_number zero h = none (step_of job)
    by_number (suc m) h = by_test m (h m (omega arith))

few_last : (job : Job) → last_of job ≤ most_passes
unfolding last_of
few_last job = least_most (λ m. nat_le job.extra_passes m && is_wide_enough job m) most_passes

some_stride : (p h r : ℤ) (o : ℕ) → 0 < stride_of p h r o
unfolding stride_of
some_stride p h r o = omega arith

where_cleared : (b : Bool) (n : ℕ) → 0 < n → IfSome (cond b (Some n) None) (λ m. 0 < m)
where_cleared true n h = h
where_cleared false n h = tt

-- the cutting of a side is one
pub side_is : (job : Job) → IsSideJob job → IsCutting (side_cutting job)
unfolding side_cutting
side_is job ok =
    let radius = job_radius job.mill_diameters ok.ranges.mill_diameters in
    let step = job_step job ok in
    record {
      pitch = is_pitch job.pitch ok.ranges.pitch;
      wide = ok.ranges.pitch.low;
      whole = ok.ranges.pitch.even;
      thin = radius.low;
      thick = more (radius_of job.mill_diameters) radius.high;
      some_tolerance = ok.ranges.tolerance.low;
      less_tolerance = ok.together.tolerance ok.side;
      fine = ok.together.side_fine ok.side;
      some_step = some (step_of job) step.low;
      few = few_last job;
      near = near_last job ok;
      stride = where_cleared job.clear (stride_of job.pitch (half_diagonal_of job.pitch) (radius_of job.mill_diameters) job.milling_overlap) (some_stride job.pitch (half_diagonal_of job.pitch) (radius_of job.mill_diameters) job.milling_overlap);
    }
  where
    more : (r : ℤ) → r ≤ℤ pos 5000000 → r ≤ℤ pos 10000000
    more r h = omega (arith, ints)

    some : (s : ℤ) → pos 200 ≤ℤ s → pos 0 ≤ℤ s
    some s h = omega (arith, ints)

-- ---- the job

-- what its program asks of the job
pub record IsMilling (job : Job) : Type 0 where
  pub cutting : IsCutting (side_cutting job)
  pub pitch : IsPitch job.pitch
  pub deepest : neg_ℤ (pos 10000000) ≤ℤ job.zwork
  pub deep : job.zwork ≤ℤ neg_ℤ (pos 1000)
  pub safe_low : pos 100000 ≤ℤ job.zsafe
  pub safe_high : job.zsafe ≤ℤ pos 50000000
  pub change_low : job.zsafe ≤ℤ job.zchange
  pub change_high : job.zchange ≤ℤ pos 100000000
  pub feed_low : pos 1000 ≤ℤ job.mill_feed
  pub feed_high : job.mill_feed ≤ℤ pos 6000000
  pub plunge_low : pos 1000 ≤ℤ job.mill_vertfeed
  pub plunge_high : job.mill_vertfeed ≤ℤ pos 6000000
  pub speed_high : job.mill_speed ≤ 100000

pub milling_is : (job : Job) → IsSideJob job → IsMilling job
milling_is job ok =
    let r : IsInRanges job = ok.ranges in
    record {
      cutting = side_is job ok;
      pitch = is_pitch job.pitch r.pitch;
      deepest = r.zwork.low;
      deep = r.zwork.high;
      safe_low = r.zsafe.low;
      safe_high = r.zsafe.high;
      change_low = ok.together.change;
      change_high = r.zchange.high;
      feed_low = r.mill_feed.low;
      feed_high = r.mill_feed.high;
      plunge_low = r.mill_vertfeed.low;
      plunge_high = r.mill_vertfeed.high;
      speed_high = r.mill_speed.high;
    }
