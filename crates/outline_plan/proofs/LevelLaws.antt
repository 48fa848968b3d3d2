-- The levels of an outline.
use Rattle.std.proofs.Common.{◌≡◌, ℕ, zero, suc, ◌+◌, ◌-◌, ◌*◌, ◌/◌, ◌<◌, ◌≤◌, ℤ, pos, neg_ℤ, ◌*ℤ◌, ◌≤ℤ◌, ◌<ℤ◌, int_lt, unsigned_abs, Bool, true, false, cond, refl, ap, subst, sym, arith}
use Rattle.std.specs.Int.{int_max}
use Rattle.std.proofs.lemmas.Nat.{mul-le}
use borrow.Author.Differences.{ints}
use Rattle.outline_plan.specs.Job.{count_levels, levels_count, level_at}
use Rattle.outline_plan.specs.Laws.{LevelsLaw}

-- ---- as many infeeds as reach down

quotient_low : (x i : ℕ) → 0 < i → ((x / i) * i) ≤ x
quotient_low x i h = omega (arith, h)

quotient_high : (x i : ℕ) → 0 < i → x < ((x / i) * i + i)
quotient_high x i h = omega (arith, h)

counted : (infeed depth : ℕ) → 0 < infeed → 0 < depth → 0 < count_levels infeed depth
unfolding count_levels
counted infeed depth some deep = by ((depth + infeed - 1) / infeed) (quotient_high (depth + infeed - 1) infeed some)
  where
    by : (n : ℕ) → depth + infeed - 1 < (n * infeed + infeed) → 0 < n
    by zero h = absurd (omega (arith, h, deep, some))
    by (suc n) h = omega arith

reached : (infeed depth k : ℕ) → 0 < infeed → k + 1 ≡ count_levels infeed depth → depth ≤ ((k + 1) * infeed)
unfolding count_levels
reached infeed depth k some e =
    let h = subst (λ n. depth + infeed - 1 < (n * infeed + infeed)) (sym e) (quotient_high (depth + infeed - 1) infeed some) in
    omega (arith, h, some)

unreached : (infeed depth k : ℕ) → 0 < infeed → k + 1 < count_levels infeed depth → ((k + 1) * infeed) < depth
unfolding count_levels
unreached infeed depth k some l =
    let h = quotient_low (depth + infeed - 1) infeed some in
    let m : ((k + 2) * infeed) ≤ (((depth + infeed - 1) / infeed) * infeed) = mul-le (k + 2) infeed ((depth + infeed - 1) / infeed) infeed (omega (arith, l)) (omega arith) in
    omega (arith, h, m, some)

-- ---- heights

max_first : (a b : ℤ) → b ≤ℤ a → int_max a b ≡ a
max_first a b h = pick (int_lt b a) refl
  where
    pick : (t : Bool) → int_lt b a ≡ t → cond t a b ≡ a
    pick true e = refl
    pick false e = omega (arith, ints, e, h)

max_second : (a b : ℤ) → a <ℤ b → int_max a b ≡ b
max_second a b h = pick (int_lt b a) refl
  where
    pick : (t : Bool) → int_lt b a ≡ t → cond t a b ≡ b
    pick true e = absurd (omega (arith, ints, e, h))
    pick false e = refl

size : (z : ℤ) → pos 0 ≤ℤ z → z ≡ pos (unsigned_abs z)
size z h = omega (arith, ints)

depth_of : (z : ℤ) → z ≤ℤ pos 0 → z ≡ neg_ℤ (pos (unsigned_abs z))
depth_of z h = omega (arith, ints)

product_is : (n : ℕ) (i : ℤ) (m : ℕ) → i ≡ pos m → pos n *ℤ i ≡ pos (n * m)
product_is n i m e = ap (λ x. pos n *ℤ x) e

under : (z p : ℤ) (d x : ℕ) → z ≡ neg_ℤ (pos d) → p ≡ pos x → d ≤ x → neg_ℤ p ≤ℤ z
under z p d x e f h = omega (arith, ints)

above : (z p : ℤ) (d x : ℕ) → z ≡ neg_ℤ (pos d) → p ≡ pos x → x < d → z <ℤ neg_ℤ p
above z p d x e f h = omega (arith, ints)

pub levels : LevelsLaw
unfolding level_at
levels job ok = record {
  some = counted (unsigned_abs job.cut_infeed) (unsigned_abs job.zcut) (wide job.cut_infeed ok.ranges.cut_infeed.low) (deep job.zcut ok.ranges.zcut.high);
  each = each;
  last = last;
}
  where
    wide : (i : ℤ) → (pos 10 *ℤ pos 1000) ≤ℤ i → 0 < unsigned_abs i
    wide i h = omega (arith, ints)

    deep : (z : ℤ) → z ≤ℤ neg_ℤ (pos 1000) → 0 < unsigned_abs z
    deep z h = omega (arith, ints)

    nonneg : (i : ℤ) → (pos 10 *ℤ pos 1000) ≤ℤ i → pos 0 ≤ℤ i
    nonneg i h = omega (arith, ints)

    below : (z : ℤ) → z ≤ℤ neg_ℤ (pos 1000) → z ≤ℤ pos 0
    below z h = omega (arith, ints)

    infeed_is : job.cut_infeed ≡ pos (unsigned_abs job.cut_infeed)
    infeed_is = size job.cut_infeed (nonneg job.cut_infeed ok.ranges.cut_infeed.low)

    zcut_is : job.zcut ≡ neg_ℤ (pos (unsigned_abs job.zcut))
    zcut_is = depth_of job.zcut (below job.zcut ok.ranges.zcut.high)

    each : (k : ℕ) → k + 1 < levels_count job → level_at job k ≡ neg_ℤ (pos (k + 1) *ℤ job.cut_infeed)
    each k l =
        max_second job.zcut (neg_ℤ (pos (k + 1) *ℤ job.cut_infeed))
        (above job.zcut (pos (k + 1) *ℤ job.cut_infeed) (unsigned_abs job.zcut) ((k + 1) * unsigned_abs job.cut_infeed) zcut_is (product_is (k + 1) job.cut_infeed (unsigned_abs job.cut_infeed) infeed_is)
        (unreached (unsigned_abs job.cut_infeed) (unsigned_abs job.zcut) k (wide job.cut_infeed ok.ranges.cut_infeed.low) l))

    last : (k : ℕ) → k + 1 ≡ levels_count job → level_at job k ≡ job.zcut
    last k e =
        max_first job.zcut (neg_ℤ (pos (k + 1) *ℤ job.cut_infeed))
        (under job.zcut (pos (k + 1) *ℤ job.cut_infeed) (unsigned_abs job.zcut) ((k + 1) * unsigned_abs job.cut_infeed) zcut_is (product_is (k + 1) job.cut_infeed (unsigned_abs job.cut_infeed) infeed_is)
        (reached (unsigned_abs job.cut_infeed) (unsigned_abs job.zcut) k (wide job.cut_infeed ok.ranges.cut_infeed.low) e))
