-- How far the surface can be from zero, and where corners over it stand.
use Rattle.std.proofs.Common.{◌≡◌, ℕ, ◌+◌, ◌-◌, ◌*◌, ◌<◌, ◌≤◌, ℤ, pos, neg_ℤ, ◌+ℤ◌, ◌*ℤ◌, ◌<ℤ◌, ◌≤ℤ◌, true, List, Some, sym, ap, subst, ◌∙◌, arith}
use Rattle.std.specs.Prelude.{unsigned_abs, sum, slice_get, length}
use Rattle.std.proofs.Math.Nat.{mul-le-mul_left, add-mul}
use Rattle.std.proofs.lemmas.Int.{ints, unsigned_abs-mul}
use Rattle.std.proofs.lemmas.Option.{slice_get-get_or, unwrap_or-slice_get}
use Rattle.number_laws.proofs.Tests.{of_le}
use Rattle.rs274_sim.specs.Cutter.{nanometre}
use Rattle.rs274_sim.specs.Machine.{in_reach}
use Rattle.mill_program.specs.declared.cuts.Corner.{Corner}
use Rattle.mill_program.specs.declared.probes.ProbeGrid.{ProbeGrid}
use Rattle.mill_program.specs.Probes.{IsGrid, FitGrid, located, shares, weights_of, answer_of, surface_of}
use Rattle.mill_program.proofs.ProbeLaws.{axis_across, axis_up, shares_whole, probes_within}
use Rattle.mill_program.proofs.HeightLaws.{located_is}
use Rattle.grid_runs.specs.Conditions.{IsCornerOver}
use Rattle.grid_runs.specs.Moves.{place_on}
use Rattle.grid_runs.specs.Surface.{IsInRange, SurfaceRangeLaw}

-- ---- answers

-- an answer of the list
pub answered : (answers : List ℤ) (k : ℕ) → k < length answers → slice_get answers k ≡ Some (answer_of answers k)
answered answers k h = slice_get-get_or answers k (pos 0) h ∙ ap Some (sym (unwrap_or-slice_get answers k (pos 0)))

-- it is within the range of the probes
answer_small : (g : ProbeGrid) (answers : List ℤ) → FitGrid g answers → (k : ℕ) → k < g.nx * g.ny → pos (unsigned_abs (answer_of answers k)) ≤ℤ g.range
answer_small g answers fit k h =
    let enough = fit.enough in
    let at = fit.within k (pos 0) (omega arith) in
    subst (λ (z : ℤ). pos (unsigned_abs z) ≤ℤ g.range) (sym (unwrap_or-slice_get answers k (pos 0))) at

pub answer_within : (g : ProbeGrid) (answers : List ℤ) → FitGrid g answers → (k : ℕ) → k < g.nx * g.ny → IsInRange g.range (answer_of answers k)
answer_within g answers fit k h = let small = answer_small g answers fit k h in record { low = omega (arith, ints, small); high = omega (arith, ints, small) }

-- ---- the surface

share_within : (n : ℕ) (a : ℤ) (r : ℕ) → unsigned_abs a ≤ r → unsigned_abs (pos n *ℤ a) ≤ n * r
share_within n a r h =
    let size : unsigned_abs (pos n *ℤ a) ≡ n * unsigned_abs a = unsigned_abs-mul (pos n) a in
    let most : n * unsigned_abs a ≤ n * r = mul-le-mul_left n h in
    omega arith

four_sizes : (w x y z : ℤ) (a b c d : ℕ) → unsigned_abs w ≤ a → unsigned_abs x ≤ b → unsigned_abs y ≤ c → unsigned_abs z ≤ d → unsigned_abs (w +ℤ (x +ℤ (y +ℤ (z +ℤ pos 0)))) ≤ a + b + c + d
four_sizes w x y z a b c d hw hx hy hz = omega (arith, ints, hw, hx, hy, hz)

four_parts : (a b c d r : ℕ) → a + b + c + d ≡ 1000000 → a * r + b * r + c * r + d * r ≡ 1000000 * r
four_parts a b c d r e =
    let first : (a + b) * r ≡ a * r + b * r = add-mul a b r in
    let second : (a + b + c) * r ≡ (a + b) * r + c * r = add-mul (a + b) c r in
    let third : (a + b + c + d) * r ≡ (a + b + c) * r + d * r = add-mul (a + b + c) d r in
    let whole : (a + b + c + d) * r ≡ 1000000 * r = ap (λ (t : ℕ). t * r) e in
    omega arith

four_within : (a b c d : ℕ) (w x y z : ℤ) (r : ℕ) → 0 + a + b + c + d ≡ 1000000 → unsigned_abs w ≤ r → unsigned_abs x ≤ r → unsigned_abs y ≤ r → unsigned_abs z ≤ r
    → unsigned_abs (pos a *ℤ w +ℤ (pos b *ℤ x +ℤ (pos c *ℤ y +ℤ (pos d *ℤ z +ℤ pos 0)))) ≤ 1000000 * r
four_within a b c d w x y z r e hw hx hy hz =
    let sizes = four_sizes (pos a *ℤ w) (pos b *ℤ x) (pos c *ℤ y) (pos d *ℤ z) (a * r) (b * r) (c * r) (d * r) (share_within a w r hw) (share_within b x r hx) (share_within c y r hy) (share_within d z r hz) in
    subst (λ (t : ℕ). unsigned_abs (pos a *ℤ w +ℤ (pos b *ℤ x +ℤ (pos c *ℤ y +ℤ (pos d *ℤ z +ℤ pos 0)))) ≤ t) (four_parts a b c d r (omega arith)) sizes

size_within : (range a : ℤ) → pos (unsigned_abs a) ≤ℤ range → unsigned_abs a ≤ unsigned_abs range
size_within range a h = omega (arith, ints, h)

in_range_of : (range s : ℤ) → pos 0 ≤ℤ range → unsigned_abs s ≤ 1000000 * unsigned_abs range → IsInRange (range *ℤ nanometre) s
in_range_of range s some h = record { low = omega (arith, ints, some, h); high = omega (arith, ints, some, h) }

-- the surface is within the range of the probes, everywhere
pub surface_within : SurfaceRangeLaw
unfolding weights_of surface_of
surface_within g answers q grid fit =
    let across = located g.x0 g.dx g.nx q.x in
    let up = located g.y0 g.dy g.ny q.y in
    let a = located_is g.x0 g.dx g.nx q.x (axis_across g grid) in
    let u = located_is g.y0 g.dy g.ny q.y (axis_up g grid) in
    let first = up.field * g.nx + across.field in
    let last : first + g.nx + 1 < g.nx * g.ny = probes_within g.nx g.ny across.field up.field a.field u.field in
    let whole : sum (shares across.part up.part) ≡ 1000000 = shares_whole across.part up.part a.part u.part in
    let small = λ (k : ℕ) (h : k < g.nx * g.ny). size_within g.range (answer_of answers k) (answer_small g answers fit k h) in
    in_range_of g.range (surface_of g answers q) grid.range_low
    (four_within ((1000 - across.part) * (1000 - up.part)) (across.part * (1000 - up.part)) ((1000 - across.part) * up.part) (across.part * up.part) (answer_of answers first) (answer_of answers (first + 1))
    (answer_of answers (first + g.nx)) (answer_of answers (first + g.nx + 1)) (unsigned_abs g.range) whole (small first (omega arith)) (small (first + 1) (omega arith)) (small (first + g.nx) (omega arith))
    (small (first + g.nx + 1) (omega arith)))

-- ---- corners

-- a corner over the surface is within the machine's reach
pub reach_on : (g : ProbeGrid) (answers : List ℤ) (c : Corner) → IsGrid g → FitGrid g answers → IsCornerOver g c → in_reach (place_on g answers c).z ≡ true
reach_on g answers c grid fit h =
    let s = surface_within g answers (record { x = c.x; y = c.y }) grid fit in
    by_sum (surface_of g answers (record { x = c.x; y = c.y })) s
  where
    by_sum : (s : ℤ) → IsInRange (g.range *ℤ nanometre) s → in_reach (c.z *ℤ nanometre +ℤ s) ≡ true
    by_sum s w =
        rw (
          of_le (neg_ℤ (pos 500000000000000)) (c.z *ℤ nanometre +ℤ s) (omega (arith, ints, h.lowest.low, w.low)),
          of_le (c.z *ℤ nanometre +ℤ s) (pos 500000000000000) (omega (arith, ints, h.highest.high, w.high)),
        )

-- and below the safe height
pub below_on : (g : ProbeGrid) (answers : List ℤ) (safe : ℤ) (c : Corner) → IsGrid g → FitGrid g answers → (c.z +ℤ g.range) <ℤ safe → (place_on g answers c).z <ℤ (safe *ℤ nanometre)
below_on g answers safe c grid fit h = by_sum (surface_of g answers (record { x = c.x; y = c.y })) (surface_within g answers (record { x = c.x; y = c.y }) grid fit)
  where
    by_sum : (s : ℤ) → IsInRange (g.range *ℤ nanometre) s → (c.z *ℤ nanometre +ℤ s) <ℤ (safe *ℤ nanometre)
    by_sum s w = omega (arith, ints, h, w.high)
