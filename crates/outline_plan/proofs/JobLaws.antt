-- What is true of a job with an outline.
use Rattle.std.proofs.Common.{◌≡◌, ℕ, ◌+◌, ℤ, pos, neg_ℤ, ◌+ℤ◌, ◌-ℤ◌, ◌*ℤ◌, ◌≤ℤ◌, ◌<ℤ◌, int_lt, Bool, true, false, cond, List, [], ◌∷◌, None, refl, sym, ap, subst, ◌∙◌, arith, rules}
use Rattle.std.specs.Int.{int_div_euclid, int_max}
use mir.Syntax.{w64}
use mir.Val.{SFits}
use borrow.Author.Differences.{ints}
use Rattle.number_laws.proofs.Ring.{var, num, sub, mul, ring}
use Rattle.number_laws.proofs.Order.{mul_le_left, mul_nonneg}
use Rattle.number_laws.proofs.Quotients.{rounded_low, rounded_high}
use Rattle.board_base.specs.declared.places.Cell.{Cell}
use Rattle.board_base.specs.declared.places.Point.{Point}
use Rattle.board_base.specs.Lattice.{IsPitch}
use Rattle.board_base.specs.Places.{IsCoordinate}
use Rattle.job_file.specs.declared.job.Job.{Job}
use Rattle.job_file.specs.Checks.{radius_of}
use Rattle.job_file.specs.Ranges.{IsLength}
use Rattle.mill_plan.specs.Cutting.{IsCutting, bite_of}
use Rattle.job_file.proofs.RangeLaws.{is_pitch}
use Rattle.outline_bridges.specs.Bridges.{bridges_of}
use Rattle.outline_plan.specs.Job.{IsOutlineJob, outline_cutting, level_at, bridge_width, listed_bridges, IsDown}

-- ---- lengths

-- a length of whole micrometres is twice its half
twice_half : (d q : ℤ) → d ≡ q *ℤ pos 1000 → pos 2 *ℤ radius_of d ≡ d
unfolding radius_of
twice_half d q whole = by d (int_div_euclid d (pos 2)) q whole (rounded_low d (pos 2) (int_div_euclid d (pos 2)) (omega (arith, ints)) refl) (rounded_high d (pos 2) (int_div_euclid d (pos 2)) (omega (arith, ints)) refl)
  where
    by : (d r q : ℤ) → d ≡ q *ℤ pos 1000 → (pos 2 *ℤ r) ≤ℤ d → d <ℤ (pos 2 *ℤ r +ℤ pos 2) → pos 2 *ℤ r ≡ d
    by d r q e h k = omega (arith, ints)

pub bridge_even : (job : Job) → IsOutlineJob job → pos 2 *ℤ radius_of (bridge_width job) ≡ bridge_width job
unfolding bridge_width
bridge_even job ok =
    twice_half (job.bridges +ℤ job.cutter_diameter) (int_div_euclid job.bridges (pos 1000) +ℤ int_div_euclid job.cutter_diameter (pos 1000))
    (sum job.bridges job.cutter_diameter (int_div_euclid job.bridges (pos 1000)) (int_div_euclid job.cutter_diameter (pos 1000)) ok.ranges.bridges.whole ok.ranges.cutter_diameter.whole)
  where
    sum : (a b p q : ℤ) → a ≡ p *ℤ pos 1000 → b ≡ q *ℤ pos 1000 → a +ℤ b ≡ (p +ℤ q) *ℤ pos 1000
    sum a b p q e f = omega (arith, ints)

-- ---- the cutting

-- the radius of the cutter
record IsRadius (r : ℤ) : Type 0 where
  low : pos 50000 ≤ℤ r
  high : r ≤ℤ pos 10000000

radius_in : (d : ℤ) → IsLength (pos 100) (pos 20000) d → IsRadius (radius_of d)
unfolding radius_of
radius_in d l = record { low = low d (int_div_euclid d (pos 2)) l.low up; high = high d (int_div_euclid d (pos 2)) l.high down }
  where
    down : (pos 2 *ℤ int_div_euclid d (pos 2)) ≤ℤ d
    down = rounded_low d (pos 2) (int_div_euclid d (pos 2)) (omega (arith, ints)) refl

    up : d <ℤ (pos 2 *ℤ int_div_euclid d (pos 2) +ℤ pos 2)
    up = rounded_high d (pos 2) (int_div_euclid d (pos 2)) (omega (arith, ints)) refl

    low : (d r : ℤ) → (pos 100 *ℤ pos 1000) ≤ℤ d → d <ℤ (pos 2 *ℤ r +ℤ pos 2) → pos 50000 ≤ℤ r
    low d r h k = omega (arith, ints)

    high : (d r : ℤ) → d ≤ℤ (pos 20000 *ℤ pos 1000) → (pos 2 *ℤ r) ≤ℤ d → r ≤ℤ pos 10000000
    high d r h k = omega (arith, ints)

pub outline_pitch : (job : Job) → IsOutlineJob job → IsPitch job.pitch
outline_pitch job ok = is_pitch job.pitch ok.ranges.pitch

-- the cutting of an outline is one
pub outline_is : (job : Job) → IsOutlineJob job → IsCutting (outline_cutting job)
unfolding outline_cutting
outline_is job ok =
    let radius = radius_in job.cutter_diameter ok.ranges.cutter_diameter in
    record {
      pitch = outline_pitch job ok;
      wide = ok.ranges.pitch.low;
      whole = ok.ranges.pitch.even;
      thin = thin (radius_of job.cutter_diameter) radius.low;
      thick = radius.high;
      some_tolerance = omega (arith, ints);
      less_tolerance = some (radius_of job.cutter_diameter) radius.low;
      fine = ok.together.outline_fine ok.outline;
      some_step = omega (arith, ints);
      few = omega arith;
      near = omega (arith, ints);
      stride = tt;
    }
  where
    thin : (r : ℤ) → pos 50000 ≤ℤ r → pos 10000 ≤ℤ r
    thin r h = omega (arith, ints)

    some : (r : ℤ) → pos 50000 ≤ℤ r → pos 0 <ℤ r
    some r h = omega (arith, ints)

-- the same by its lengths
pub cutting_by : (job : Job) (p r : ℤ) → p ≡ job.pitch → r ≡ radius_of job.cutter_diameter → IsOutlineJob job → IsCutting (record { pitch = p; radius = r; tolerance = pos 0; step = pos 0; last = 0; stride = None })
unfolding outline_cutting
cutting_by job p r e f ok = subst IsCutting (λ t. record { pitch = sym e t; radius = sym f t; tolerance = pos 0; step = pos 0; last = 0; stride = None }) (outline_is job ok)

pub outline_width : (job : Job) → (outline_cutting job).pitch ≡ job.pitch
unfolding outline_cutting
outline_width job = refl

-- the cutter's axis keeps its radius away
pub outline_bite : (job : Job) → bite_of (outline_cutting job) ≡ radius_of job.cutter_diameter
unfolding bite_of outline_cutting
outline_bite job = ring (radius_of job.cutter_diameter ∷ []) (sub (var 0) (num (pos 0))) (var 0) refl

-- ---- heights

-- a height at which the outline is cut: below the board's surface, by 50 mm at most
pub record IsDepth (z : ℤ) : Type 0 where
  pub low : neg_ℤ (pos 50000000) ≤ℤ z
  pub high : z ≤ℤ neg_ℤ (pos 1000)

pub depth_coordinate : (z : ℤ) → IsDepth z → IsCoordinate z
depth_coordinate z d = record { low = low z d.low; high = high z d.high }
  where
    low : (z : ℤ) → neg_ℤ (pos 50000000) ≤ℤ z → neg_ℤ (pos 500000000) ≤ℤ z
    low z h = omega (arith, ints)

    high : (z : ℤ) → z ≤ℤ neg_ℤ (pos 1000) → z ≤ℤ pos 500000000
    high z h = omega (arith, ints)

pub bridges_deep : (job : Job) → IsOutlineJob job → IsDepth job.zbridges
bridges_deep job ok = record { low = ok.ranges.zbridges.low; high = ok.ranges.zbridges.high }

-- a level is no deeper than the cut
pub level_deep : (job : Job) (k : ℕ) → IsOutlineJob job → IsDepth (level_at job k)
unfolding level_at
level_deep job k ok =
    let down = mul_le_left job.cut_infeed (pos 1) (pos (k + 1)) (some job.cut_infeed ok.ranges.cut_infeed.low) (one k) in
    record {
      low = low job.zcut (neg_ℤ (pos (k + 1) *ℤ job.cut_infeed)) ok.ranges.zcut.low;
      high = high job.zcut (pos (k + 1) *ℤ job.cut_infeed) (job.cut_infeed *ℤ pos (k + 1)) job.cut_infeed ok.ranges.zcut.high ok.ranges.cut_infeed.low (turned job.cut_infeed (pos (k + 1))) (by job.cut_infeed (job.cut_infeed *ℤ pos (k + 1)) down);
    }
  where
    some : (i : ℤ) → (pos 10 *ℤ pos 1000) ≤ℤ i → pos 0 ≤ℤ i
    some i h = omega (arith, ints)

    one : (k : ℕ) → pos 1 ≤ℤ pos (k + 1)
    one k = omega (arith, ints)

    turned : (a b : ℤ) → b *ℤ a ≡ a *ℤ b
    turned a b = ring (a ∷ b ∷ []) (mul (var 1) (var 0)) (mul (var 0) (var 1)) refl

    by : (i m : ℤ) → (i *ℤ pos 1) ≤ℤ m → i ≤ℤ m
    by i m h = omega (arith, ints)

    low : (z m : ℤ) → neg_ℤ (pos 50000000) ≤ℤ z → neg_ℤ (pos 50000000) ≤ℤ int_max z m
    low z m h = pick (int_lt m z) refl
      where
        pick : (t : Bool) → int_lt m z ≡ t → neg_ℤ (pos 50000000) ≤ℤ cond t z m
        pick true e = h
        pick false e = omega (arith, ints, e, h)

    high : (z a b i : ℤ) → z ≤ℤ neg_ℤ (pos 1000) → (pos 10 *ℤ pos 1000) ≤ℤ i → a ≡ b → i ≤ℤ b → int_max z (neg_ℤ a) ≤ℤ neg_ℤ (pos 1000)
    high z a b i h k e l = pick (int_lt (neg_ℤ a) z)
      where
        pick : (t : Bool) → cond t z (neg_ℤ a) ≤ℤ neg_ℤ (pos 1000)
        pick true = h
        pick false = omega (arith, ints, h, k, e, l)

-- ---- some infeeds

pub down_in : (count infeed : ℤ) → pos 0 ≤ℤ count → count ≤ℤ pos 4294967296 → pos 0 ≤ℤ infeed → infeed ≤ℤ pos 50000000 → IsDown (count *ℤ infeed)
down_in count infeed some few low high =
    let up = mul_le_left count infeed (pos 50000000) some high in
    record { low = mul_nonneg count infeed some low; high = by (count *ℤ infeed) count up few }
  where
    by : (z c : ℤ) → z ≤ℤ (c *ℤ pos 50000000) → c ≤ℤ pos 4294967296 → z ≤ℤ pos 300000000000000000
    by z c h k = omega (arith, ints)

pub down_fits : (z : ℤ) → IsDown z → SFits w64 z
down_fits z d = search rules

-- ---- bridges

pub no_bridges : (job : Job) (walks : List (List Cell)) (bridges : List Point) (some : Bool) → some ≡ int_lt (pos 0) job.bridges → some ≡ false → bridges ≡ [] → bridges ≡ listed_bridges job walks
no_bridges job walks bridges some e f g = g ∙ ap (λ (b : Bool). cond b (bridges_of job.pitch job.bridgesnum walks) []) (sym f ∙ e)

pub some_bridges : (job : Job) (p : ℤ) (walks : List (List Cell)) (bridges : List Point) (some : Bool) → some ≡ int_lt (pos 0) job.bridges → some ≡ true → p ≡ job.pitch → bridges ≡ bridges_of p job.bridgesnum walks → bridges ≡ listed_bridges job walks
some_bridges job p walks bridges some e f g h =
    h ∙ ap (λ q. bridges_of q job.bridgesnum walks) g ∙ ap (λ (b : Bool). cond b (bridges_of job.pitch job.bridgesnum walks) []) (sym f ∙ e)

-- ---- the level that the code makes

pub level_is : (job : Job) (k : ℕ) (high down count : ℤ) → high ≡ int_max job.zcut (pos 0 -ℤ down) → down ≡ count *ℤ job.cut_infeed → count ≡ pos (k + 1) → high ≡ level_at job k
unfolding level_at
level_is job k high down count e f g = e ∙ ap (int_max job.zcut) (turned down ∙ ap neg_ℤ (f ∙ ap (λ n. n *ℤ job.cut_infeed) g))
  where
    turned : (z : ℤ) → pos 0 -ℤ z ≡ neg_ℤ z
    turned z = omega (arith, ints)
