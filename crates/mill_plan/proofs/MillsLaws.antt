-- What a traced program does to the copper.
use Rattle.std.proofs.Common.{◌≡◌, ℕ, ℤ, pos, negsuc, neg_ℤ, ◌+ℤ◌, ◌-ℤ◌, ◌*ℤ◌, ◌≤ℤ◌, ◌<ℤ◌, true, inl, List, [], ◌∷◌, map, refl, sym, ap, subst, ◌∙◌, arith}
use Rattle.std.specs.List.{Contains}
use Rattle.std.specs.Int.{int_div_euclid}
use Rattle.std.proofs.lemmas.List.Elements.{All-contains}
use Rattle.std.proofs.lemmas.Int.{by_lt_z}
use borrow.Author.Differences.{ints}
use Rattle.number_laws.proofs.Ring.{Ex, var, num, add, sub, mul, ring}
use Rattle.number_laws.proofs.Order.{square_nonneg, mul_pos, mul_le_left}
use Rattle.number_laws.proofs.Quotients.{rounded_low, rounded_high}
use Rattle.board_base.specs.declared.places.Point.{Point}
use Rattle.board_base.specs.declared.places.Cell.{Cell}
use Rattle.board_base.specs.declared.places.Move.{Move}
use Rattle.board_base.specs.Lattice.{IsPitch, IsHalfDiagonal, half_of, middle, centre_of, cell_of, dist2, half_diagonal_of}
use Rattle.board_base.specs.Near.{near_of}
use Rattle.board_base.proofs.LatticeLaws.{pitch_positive}
use Rattle.cell_sets.specs.Contour.{IsAllowed, guard_of, reach_of}
use Rattle.cell_sets.specs.Passes.{guard_at}
use Rattle.cell_sets.proofs.Guards.{visited_allowed}
use Rattle.cell_sets.proofs.Barriers.{refl_le}
use Rattle.mill_plan.proofs.GuardLaws.{reach_nonneg}
use Rattle.mill_plan.proofs.SweptLaws.{quotient_size}
use Rattle.mill_plan.proofs.JobLaws.{IsMilling}
use Rattle.plane_geom.specs.NearStep.{length2}
use Rattle.plane_geom.proofs.NearLaws.{near_step}
use Rattle.cell_sets.specs.Reached.{IsReachedFrom, in_unit, ScaledSweep}
use Rattle.shape_parts.specs.declared.shape.Painted.{Painted}
use Rattle.shape_parts.specs.Cover.{is_dark, CoverLaw}
use Rattle.copper_cover.specs.Kept.{keeps}
use Rattle.chain_walk.specs.Walk.{IsConnected}
use Rattle.chain_walk.specs.Runs.{IsUnit, stepped, IsOnRun, CornerLaw}
use Rattle.rs274_sim.specs.Cutter.{nanometre, scaled, under, width_of, IsLow, IsDeep, Sweeps}
use Rattle.rs274_sim.specs.Runs.{RunsTo}
use Rattle.mill_program.specs.Conditions.{IsProgram, IsRunnable}
use Rattle.mill_program.specs.Lines.{lines_of}
use Rattle.mill_program.specs.Moves.{moves_of, unnumbered}
use Rattle.mill_program.specs.RunLaw.{RunLaw}
use Rattle.job_file.specs.declared.job.Job.{Job}
use Rattle.mill_plan.specs.declared.cutting.Cutting.{Cutting}
use Rattle.mill_plan.specs.Cutting.{IsCutting, bite_of, guard, kept_by, sweep_of, side_cutting, IsVisited}
use Rattle.mill_plan.specs.Mills.{Mills}
use Rattle.mill_plan.specs.Cuts.{corner_of, run_along, program_along, AreTraces}
use Rattle.plane_geom.proofs.Points.{near_point, point_near}
use Rattle.mill_plan.proofs.UnitLaws.{unscaled, in_units, width_nonneg, width_sum}
use Rattle.mill_plan.proofs.PointLaws.{same_cell, near_centre, between}
use Rattle.number_laws.proofs.Squares.{square_within}
use Rattle.plane_geom.proofs.HalfStep.{on_lattice, near_run, on_run}
use Rattle.mill_plan.proofs.MoveLaws.{numbered, from_numbered, at_corner, IsOverRun, IsGuarded, deep_step, moves_guarded, moves_there}

abbrev SQ : Ex → Ex
SQ e = mul e e

-- ---- from the cells of a run to lattice points in the machine's units

-- the centre of a cell some steps on is a lattice point
pub lattice_is : (p : ℤ) (x : Cell) (e n : ℤ) (t : ℕ) → scaled (centre_of p (stepped x e n t)) ≡ on_lattice (scaled (centre_of p x)) (p *ℤ nanometre) e n (pos t)
unfolding scaled middle
lattice_is p x e n t = λ i. record { x = axis x.i e i; y = axis x.j n i }
  where
    axis : (c v : ℤ) → ((c +ℤ pos t *ℤ v) *ℤ p +ℤ half_of p) *ℤ nanometre ≡ (c *ℤ p +ℤ half_of p) *ℤ nanometre +ℤ pos t *ℤ ((p *ℤ nanometre) *ℤ v)
    axis c v =
        ring (c ∷ v ∷ p ∷ half_of p ∷ pos t ∷ []) (mul (add (mul (add (var 0) (mul (var 4) (var 1))) (var 2)) (var 3)) (num nanometre))
        (add (mul (add (mul (var 0) (var 2)) (var 3)) (num nanometre)) (mul (var 4) (mul (mul (var 2) (num nanometre)) (var 1)))) refl

pub unit_square : (v : ℤ) → IsUnit v → (v *ℤ v) ≤ℤ pos 1
unit_square v u = square_within (pos 1) v (low v u.low) u.high
  where
    low : (v : ℤ) → negsuc 0 ≤ℤ v → neg_ℤ (pos 1) ≤ℤ v
    low v h = omega (arith, ints)

-- the diagonal in the machine's units
pub scaled_enough : (p h : ℤ) → (p *ℤ p) ≤ℤ (pos 2 *ℤ (h *ℤ h)) → ((p *ℤ nanometre) *ℤ (p *ℤ nanometre)) ≤ℤ (pos 2 *ℤ ((h *ℤ nanometre) *ℤ (h *ℤ nanometre)))
scaled_enough p h enough =
    let a : (nanometre *ℤ nanometre) *ℤ (p *ℤ p) ≡ (p *ℤ nanometre) *ℤ (p *ℤ nanometre) = ring (p ∷ []) (mul (mul (num nanometre) (num nanometre)) (SQ (var 0))) (SQ (mul (var 0) (num nanometre))) refl in
    let b : (nanometre *ℤ nanometre) *ℤ (pos 2 *ℤ (h *ℤ h)) ≡ pos 2 *ℤ ((h *ℤ nanometre) *ℤ (h *ℤ nanometre)) =
    ring (h ∷ []) (mul (mul (num nanometre) (num nanometre)) (mul (num (pos 2)) (SQ (var 0)))) (mul (num (pos 2)) (SQ (mul (var 0) (num nanometre)))) refl in
    subst (λ (z : ℤ). z ≤ℤ (pos 2 *ℤ ((h *ℤ nanometre) *ℤ (h *ℤ nanometre)))) a (subst (λ (z : ℤ). ((nanometre *ℤ nanometre) *ℤ (p *ℤ p)) ≤ℤ z) b (mul_le_left (nanometre *ℤ nanometre) (p *ℤ p) (pos 2 *ℤ (h *ℤ h)) (square_nonneg nanometre) enough))

-- a visited cell whose centre is near a point
pub record IsNearVisited (job : Job) (walks : List (List Cell)) (q : Point) (r : ℤ) : Type 0 where
  pub walk : List Cell
  pub there : Contains walks walk
  pub cell : Cell
  pub inside : Contains walk cell
  pub near : near_of q (centre_of job.pitch cell) (centre_of job.pitch cell) (pos 2 *ℤ r) ≡ true

weak : (z : ℤ) → pos 0 <ℤ z → pos 0 ≤ℤ z
weak z h = omega (arith, ints)

-- what is within r of a move over a run is within r and half a diagonal of a visited centre
pub near_visited : (job : Job) (walks : List (List Cell)) (move : Move) (q : Point) (r : ℤ) → IsHalfDiagonal job.pitch (half_diagonal_of job.pitch) → pos 0 ≤ℤ r → IsOverRun job walks move → Sweeps move q r
    → IsNearVisited job walks q (r +ℤ half_diagonal_of job.pitch)
unfolding width_of
near_visited job walks move q r diagonal low o swept =
    let p : ℤ = job.pitch in
    let h : ℤ = half_diagonal_of p in
    let k = o.run in
    let a : Point = scaled (centre_of p o.from) in
    let b_is : scaled (centre_of p o.to) ≡ on_lattice a (p *ℤ nanometre) k.east k.north (pos k.count) = ap (λ (c : Cell). scaled (centre_of p c)) k.ends ∙ lattice_is p o.from k.east k.north k.count in
    let over : near_of (scaled q) a (on_lattice a (p *ℤ nanometre) k.east k.north (pos k.count)) (width_of r) ≡ true =
    subst (λ (b : Point). near_of (scaled q) a b (width_of r) ≡ true) (o.stops ∙ b_is) (subst (λ (x : Point). near_of (scaled q) x (under move.to) (width_of r) ≡ true) o.starts swept) in
    let found = near_run (p *ℤ nanometre) (h *ℤ nanometre) (width_of r) (scaled q) a k.east k.north k.count (scaled_enough p h diagonal.enough) (in_units h (weak h diagonal.positive)) (width_nonneg r low)
    (unit_square k.east k.unit_east) (unit_square k.north k.unit_north) over in
    let c : Cell = stepped o.from k.east k.north found.at in
    let spot : near_of (scaled q) (scaled (centre_of p c)) (scaled (centre_of p c)) (width_of (r +ℤ h)) ≡ true =
    subst (λ (d : ℤ). near_of (scaled q) (scaled (centre_of p c)) (scaled (centre_of p c)) d ≡ true) (width_sum r h)
    (subst (λ (x : Point). near_of (scaled q) x x (width_of r +ℤ pos 2 *ℤ (h *ℤ nanometre)) ≡ true) (sym (lattice_is p o.from k.east k.north found.at)) found.near) in
    record { walk = o.walk; there = o.there; cell = c; inside = k.through found.at found.early; near = unscaled q (centre_of p c) (centre_of p c) (pos 2 *ℤ (r +ℤ h)) spot }

-- a low move of the run goes over cells of a walk
low_over : (job : Job) (walks : List (List Cell)) (moves : List Move) (move : Move) → IsMilling job → CornerLaw → ((w : List Cell) → Contains walks w → IsConnected w) → map unnumbered moves ≡ moves_of (program_along job walks)
    → Contains moves move → IsLow (job.zsafe *ℤ nanometre) move → IsOverRun job walks move
low_over job walks moves move ok law connected e there low =
    let o = All-contains (IsGuarded job walks) (moves_of (program_along job walks)) (unnumbered move) (moves_guarded job walks ok law connected)
    (subst (λ (steps : List Move). Contains steps (unnumbered move)) e (numbered moves move there)) low in
    record { walk = o.walk; there = o.there; from = o.from; to = o.to; run = o.run; starts = o.starts; stops = o.stops }

-- ---- the guard

-- centres that are within b and two half diagonals of one another aren't farther apart than the guard
pub off_centre : (p h b g : ℤ) (a k : Cell) → pos 0 <ℤ p → g ≡ int_div_euclid ((b +ℤ pos 2 *ℤ h) *ℤ (b +ℤ pos 2 *ℤ h)) (p *ℤ p) → g <ℤ dist2 a k
    → near_of (centre_of p k) (centre_of p a) (centre_of p a) (pos 2 *ℤ (b +ℤ h) +ℤ pos 2 *ℤ h) ≡ true → ⊥
off_centre p h b g a k wide guard far near =
    let ca : Point = centre_of p a in
    let ck : Point = centre_of p k in
    let close = near_point ck ca (pos 2 *ℤ (b +ℤ h) +ℤ pos 2 *ℤ h) near in
    let squared : (pos 2 *ℤ (b +ℤ h) +ℤ pos 2 *ℤ h) *ℤ (pos 2 *ℤ (b +ℤ h) +ℤ pos 2 *ℤ h) ≡ pos 4 *ℤ ((b +ℤ pos 2 *ℤ h) *ℤ (b +ℤ pos 2 *ℤ h)) =
    ring (b ∷ h ∷ []) (SQ (add (mul (num (pos 2)) (add (var 0) (var 1))) (mul (num (pos 2)) (var 1)))) (mul (num (pos 4)) (SQ (add (var 0) (mul (num (pos 2)) (var 1))))) refl in
    let above = rounded_high ((b +ℤ pos 2 *ℤ h) *ℤ (b +ℤ pos 2 *ℤ h)) (p *ℤ p) g (mul_pos p p wide wide) guard in
    let at_least = mul_le_left (p *ℤ p) (g +ℤ pos 1) (dist2 a k) (square_nonneg p) (next g (dist2 a k) far) in
    let spread : (p *ℤ p) *ℤ (g +ℤ pos 1) ≡ (p *ℤ p) *ℤ g +ℤ p *ℤ p = ring (p ∷ g ∷ []) (mul (SQ (var 0)) (add (var 1) (num (pos 1)))) (add (mul (SQ (var 0)) (var 1)) (SQ (var 0))) refl in
    ends (length2 (ck.x -ℤ ca.x) (ck.y -ℤ ca.y)) ((p *ℤ p) *ℤ dist2 a k) ((pos 2 *ℤ (b +ℤ h) +ℤ pos 2 *ℤ h) *ℤ (pos 2 *ℤ (b +ℤ h) +ℤ pos 2 *ℤ h)) ((b +ℤ pos 2 *ℤ h) *ℤ (b +ℤ pos 2 *ℤ h)) ((p *ℤ p) *ℤ (g +ℤ pos 1)) ((p *ℤ p) *ℤ g +ℤ p *ℤ p)
    (between p k a) squared spread close at_least above
  where
    next : (g d : ℤ) → g <ℤ d → (g +ℤ pos 1) ≤ℤ d
    next g d h = omega (arith, ints)

    ends : (l m s t u v : ℤ) → l ≡ m → s ≡ pos 4 *ℤ t → u ≡ v → (pos 4 *ℤ l) ≤ℤ s → u ≤ℤ m → t <ℤ v → ⊥
    ends l m s t u v e f g a b c = omega (arith, ints)

-- a point within b and half a diagonal of a centre lies in a cell that isn't farther than the guard
apart : (p h b g : ℤ) (a : Cell) (q : Point) → IsPitch p → IsHalfDiagonal p h → pos 0 ≤ℤ b
    → g ≡ int_div_euclid ((b +ℤ pos 2 *ℤ h) *ℤ (b +ℤ pos 2 *ℤ h)) (p *ℤ p) → g <ℤ dist2 a (cell_of p q) → near_of q (centre_of p a) (centre_of p a) (pos 2 *ℤ (b +ℤ h)) ≡ true → ⊥
apart p h b g a q pitch diagonal some guard far near =
    off_centre p h b g a (cell_of p q) (wide p pitch.low) guard far
    (near_step q (centre_of p (cell_of p q)) (centre_of p a) (centre_of p a) (pos 2 *ℤ (b +ℤ h)) h (twice b h some (weak h diagonal.positive)) (weak h diagonal.positive) (near_centre p h q pitch diagonal) near)
  where
    wide : (p : ℤ) → pos 250 ≤ℤ p → pos 0 <ℤ p
    wide p h = omega (arith, ints)

    twice : (b h : ℤ) → pos 0 ≤ℤ b → pos 0 ≤ℤ h → pos 0 ≤ℤ (pos 2 *ℤ (b +ℤ h))
    twice b h k l = omega (arith, ints)

pub bite_low : (k : Cutting) → IsCutting k → pos 0 ≤ℤ bite_of k
unfolding bite_of
bite_low k ok = by k.radius k.tolerance ok.less_tolerance
  where
    by : (r t : ℤ) → t <ℤ r → pos 0 ≤ℤ (r -ℤ t)
    by r t h = omega (arith, ints)

-- a visited cell is allowed
pub visited_in : (k : Cutting) (painted : List Painted) (c : Cell) → IsCutting k → IsVisited k painted c → IsAllowed (kept_by k painted) (guard k 0) c
unfolding guard
visited_in k painted c ok v = visited_allowed k.pitch (reach_of k.radius k.tolerance (half_diagonal_of k.pitch)) k.step k.last v.0 (kept_by k painted) (some k.pitch ok.wide) (reach_nonneg k ok) ok.some_step c v.2
  where
    some : (p : ℤ) → pos 2000 ≤ℤ p → pos 0 <ℤ p
    some p h = omega (arith, ints)

pub first_guard : (k : Cutting) → guard k 0 ≡ int_div_euclid ((bite_of k +ℤ pos 2 *ℤ half_diagonal_of k.pitch) *ℤ (bite_of k +ℤ pos 2 *ℤ half_diagonal_of k.pitch)) (k.pitch *ℤ k.pitch)
unfolding guard guard_at guard_of reach_of bite_of
first_guard k =
    let r : ℤ = (k.radius -ℤ k.tolerance) +ℤ pos 2 *ℤ half_diagonal_of k.pitch in
    ap (λ x. int_div_euclid (x *ℤ x) (k.pitch *ℤ k.pitch)) (ring (r ∷ k.step ∷ []) (add (var 0) (mul (num (pos 0)) (var 1))) (var 0) refl)

-- no dark point is within the bite and half a diagonal of an allowed centre
pub dark_apart : (k : Cutting) (painted : List Painted) (c : Cell) (q : Point) → IsCutting k → IsHalfDiagonal k.pitch (half_diagonal_of k.pitch) → CoverLaw
    → IsAllowed (kept_by k painted) (guard k 0) c → is_dark q painted ≡ true → near_of q (centre_of k.pitch c) (centre_of k.pitch c) (pos 2 *ℤ (bite_of k +ℤ half_diagonal_of k.pitch)) ≡ true → ⊥
unfolding keeps
dark_apart k painted c q ok diagonal law allowed dark near =
    apart k.pitch (half_diagonal_of k.pitch) (bite_of k) (guard k 0) c q ok.pitch diagonal (bite_low k ok) (first_guard k)
    (allowed (cell_of k.pitch q) (law k.pitch (half_diagonal_of k.pitch) painted q ok.pitch diagonal dark)) near

-- ---- cells whose centres are within half a diagonal

-- half a diagonal is less than the pitch
short_half : (p h : ℤ) → IsPitch p → IsHalfDiagonal p h → (h *ℤ h) <ℤ (p *ℤ p)
short_half p h pitch diagonal =
    by_lt_z h p
    (λ (l : h <ℤ p).
    let up = mul_le_left h h (p -ℤ pos 1) (weak h diagonal.positive) (one_less h p l) in
    let on = mul_le_left (p -ℤ pos 1) h (p -ℤ pos 1) (some p pitch.low) (one_less h p l) in
    let turned : (p -ℤ pos 1) *ℤ h ≡ h *ℤ (p -ℤ pos 1) = ring (p ∷ h ∷ []) (mul (sub (var 0) (num (pos 1))) (var 1)) (mul (var 1) (sub (var 0) (num (pos 1)))) refl in
    let spread : (p -ℤ pos 1) *ℤ (p -ℤ pos 1) ≡ p *ℤ p -ℤ pos 2 *ℤ p +ℤ pos 1 = ring (p ∷ []) (SQ (sub (var 0) (num (pos 1)))) (add (sub (SQ (var 0)) (mul (num (pos 2)) (var 0))) (num (pos 1))) refl in
    less (h *ℤ h) (h *ℤ (p -ℤ pos 1)) ((p -ℤ pos 1) *ℤ h) ((p -ℤ pos 1) *ℤ (p -ℤ pos 1)) (p *ℤ p) p up on turned spread pitch.low)
    (λ (l : p ≤ℤ h).
    let m : ℤ = h -ℤ pos 1 in
    let n : ℤ = p -ℤ pos 1 in
    let up = mul_le_left n n m (some p pitch.low) (both_less p h l) in
    let on = mul_le_left m n m (some_more p h pitch.low l) (both_less p h l) in
    let turned : m *ℤ n ≡ n *ℤ m = ring (p ∷ h ∷ []) (mul (sub (var 1) (num (pos 1))) (sub (var 0) (num (pos 1)))) (mul (sub (var 0) (num (pos 1))) (sub (var 1) (num (pos 1)))) refl in
    let spread : n *ℤ n ≡ p *ℤ p -ℤ pos 2 *ℤ p +ℤ pos 1 = ring (p ∷ []) (SQ (sub (var 0) (num (pos 1)))) (add (sub (SQ (var 0)) (mul (num (pos 2)) (var 0))) (num (pos 1))) refl in
    let large = mul_le_left p (pos 250) p (weak p (positive p pitch.low)) pitch.low in
    let by : p *ℤ pos 250 ≡ pos 250 *ℤ p = ring (p ∷ []) (mul (var 0) (num (pos 250))) (mul (num (pos 250)) (var 0)) refl in
    absurd (never (n *ℤ n) (n *ℤ m) (m *ℤ n) (m *ℤ m) (p *ℤ p) p (p *ℤ pos 250) up on turned spread diagonal.least large by pitch.low))
  where
    one_less : (h p : ℤ) → h <ℤ p → h ≤ℤ (p -ℤ pos 1)
    one_less h p l = omega (arith, ints)

    both_less : (p h : ℤ) → p ≤ℤ h → (p -ℤ pos 1) ≤ℤ (h -ℤ pos 1)
    both_less p h l = omega (arith, ints)

    some : (p : ℤ) → pos 250 ≤ℤ p → pos 0 ≤ℤ (p -ℤ pos 1)
    some p l = omega (arith, ints)

    some_more : (p h : ℤ) → pos 250 ≤ℤ p → p ≤ℤ h → pos 0 ≤ℤ (h -ℤ pos 1)
    some_more p h k l = omega (arith, ints)

    positive : (p : ℤ) → pos 250 ≤ℤ p → pos 0 <ℤ p
    positive p h = omega (arith, ints)

    less : (hh hp ph nn pp p : ℤ) → hh ≤ℤ hp → ph ≤ℤ nn → ph ≡ hp → nn ≡ pp -ℤ pos 2 *ℤ p +ℤ pos 1 → pos 250 ≤ℤ p → hh <ℤ pp
    less hh hp ph nn pp p a b e f l = omega (arith, ints)

    never : (nn nm mn mm pp p w : ℤ) → nn ≤ℤ nm → mn ≤ℤ mm → mn ≡ nm → nn ≡ pp -ℤ pos 2 *ℤ p +ℤ pos 1 → (pos 2 *ℤ mm) <ℤ pp → w ≤ℤ pp → w ≡ pos 250 *ℤ p → pos 250 ≤ℤ p → ⊥
    never nn nm mn mm pp p w a b e f l k g o = omega (arith, ints)

pub same_cell_by_half : (p h : ℤ) (a b : Cell) → IsPitch p → IsHalfDiagonal p h → near_of (centre_of p a) (centre_of p b) (centre_of p b) (pos 2 *ℤ (pos 0 +ℤ h)) ≡ true → a ≡ b
same_cell_by_half p h a b pitch diagonal near =
    let l : ℤ = length2 ((centre_of p a).x -ℤ (centre_of p b).x) ((centre_of p a).y -ℤ (centre_of p b).y) in
    let close = near_point (centre_of p a) (centre_of p b) (pos 2 *ℤ (pos 0 +ℤ h)) near in
    let squared : (pos 2 *ℤ (pos 0 +ℤ h)) *ℤ (pos 2 *ℤ (pos 0 +ℤ h)) ≡ pos 4 *ℤ (h *ℤ h) = ring (h ∷ []) (SQ (mul (num (pos 2)) (add (num (pos 0)) (var 0)))) (mul (num (pos 4)) (SQ (var 0))) refl in
    let less : ((p *ℤ p) *ℤ dist2 b a) <ℤ (p *ℤ p) = chained l ((p *ℤ p) *ℤ dist2 b a) ((pos 2 *ℤ (pos 0 +ℤ h)) *ℤ (pos 2 *ℤ (pos 0 +ℤ h))) (h *ℤ h) (p *ℤ p) (between p a b) squared close (short_half p h pitch diagonal) in
    let none : ((p *ℤ p) *ℤ dist2 b a) ≤ℤ pos 0 =
    by_lt_z (pos 0) (dist2 b a)
    (λ (m : pos 0 <ℤ dist2 b a).
    let up = mul_le_left (p *ℤ p) (pos 1) (dist2 b a) (square_nonneg p) (from_one (dist2 b a) m) in
    let one : (p *ℤ p) *ℤ pos 1 ≡ p *ℤ p = ring (p ∷ []) (mul (SQ (var 0)) (num (pos 1))) (SQ (var 0)) refl in
    absurd (turned ((p *ℤ p) *ℤ pos 1) ((p *ℤ p) *ℤ dist2 b a) (p *ℤ p) up one less))
    (λ (m : dist2 b a ≤ℤ pos 0).
    let up = mul_le_left (p *ℤ p) (dist2 b a) (pos 0) (square_nonneg p) m in
    let zero : (p *ℤ p) *ℤ pos 0 ≡ pos 0 = ring (p ∷ []) (mul (SQ (var 0)) (num (pos 0))) (num (pos 0)) refl in
    subst (λ (z : ℤ). ((p *ℤ p) *ℤ dist2 b a) ≤ℤ z) zero up) in
    same_cell p a b pitch (point_near (centre_of p a) (centre_of p b) (pos 2 *ℤ pos 0) (on l ((p *ℤ p) *ℤ dist2 b a) (between p a b) none))
  where
    chained : (l m s t u : ℤ) → l ≡ m → s ≡ pos 4 *ℤ t → (pos 4 *ℤ l) ≤ℤ s → t <ℤ u → m <ℤ u
    chained l m s t u e f a b = omega (arith, ints)

    from_one : (d : ℤ) → pos 0 <ℤ d → pos 1 ≤ℤ d
    from_one d h = omega (arith, ints)

    turned : (a b c : ℤ) → a ≤ℤ b → a ≡ c → b <ℤ c → ⊥
    turned a b c h e l = omega (arith, ints)

    on : (l m : ℤ) → l ≡ m → m ≤ℤ pos 0 → (pos 4 *ℤ l) ≤ℤ ((pos 2 *ℤ pos 0) *ℤ (pos 2 *ℤ pos 0))
    on l m e h = omega (arith, ints)

-- ---- the steps at the depth

deep_deep : (job : Job) (walks : List (List Cell)) (x y : Cell) → IsDeep (job.zwork *ℤ nanometre) (deep_step job (run_along job walks) walks x y)
unfolding corner_of
deep_deep job walks x y = (refl, refl_le (job.zwork *ℤ nanometre), refl_le (job.zwork *ℤ nanometre))

-- a cell of a run is passed by the step over it
deep_on_run : (job : Job) (walks : List (List Cell)) (w : List Cell) (x y c : Cell) → IsOnRun w x y c → Sweeps (deep_step job (run_along job walks) walks x y) (centre_of job.pitch c) (pos 0)
unfolding width_of
deep_on_run job walks w x y c o =
    let p : ℤ = job.pitch in
    let k = o.run in
    let a : Point = scaled (centre_of p x) in
    let here : scaled (centre_of p c) ≡ on_lattice a (p *ℤ nanometre) k.east k.north (pos o.at) = ap (λ (d : Cell). scaled (centre_of p d)) o.is ∙ lattice_is p x k.east k.north o.at in
    let end : scaled (centre_of p y) ≡ on_lattice a (p *ℤ nanometre) k.east k.north (pos k.count) = ap (λ (d : Cell). scaled (centre_of p d)) k.ends ∙ lattice_is p x k.east k.north k.count in
    let on = on_run (p *ℤ nanometre) a k.east k.north o.at k.count o.early in
    subst (λ (q : Point). near_of q (under (deep_step job (run_along job walks) walks x y).from) (under (deep_step job (run_along job walks) walks x y).to) (pos 0) ≡ true) (sym here)
    (subst (λ (b : Point). near_of (on_lattice a (p *ℤ nanometre) k.east k.north (pos o.at)) (under (deep_step job (run_along job walks) walks x y).from) b (pos 0) ≡ true) (sym (at_corner job y ∙ end))
    (subst (λ (b : Point). near_of (on_lattice a (p *ℤ nanometre) k.east k.north (pos o.at)) b (on_lattice a (p *ℤ nanometre) k.east k.north (pos k.count)) (pos 0) ≡ true) (sym (at_corner job x)) on))

-- a step at the depth over a visited cell
record IsStepOver (job : Job) (walks : List (List Cell)) (moves : List Move) (c : Cell) : Type 0 where
  move : Move
  there : Contains moves move
  deep : IsDeep (job.zwork *ℤ nanometre) move
  passes : Sweeps move (centre_of job.pitch c) (pos 0)

step_over : (job : Job) (painted : List Painted) (walks : List (List Cell)) (moves : List Move) (c : Cell) → CornerLaw → AreTraces (side_cutting job) painted walks → map unnumbered moves ≡ moves_of (program_along job walks)
    → IsVisited (side_cutting job) painted c → IsStepOver job walks moves c
step_over job painted walks moves c law traces e visited =
    let t = traces.all c visited in
    let w : List Cell = t.0 in
    let o = (law w (traces.connected w t.1.0)).1 c t.1.1 in
    let step : Move = deep_step job (run_along job walks) walks o.0 o.1 in
    let found = from_numbered moves step (subst (λ (steps : List Move). Contains steps step) (sym e) (moves_there job walks w o.0 o.1 t.1.0 o.2.0)) in
    record {
      move = found.0;
      there = found.1;
      deep = subst (λ (m : Move). IsDeep (job.zwork *ℤ nanometre) m) (sym found.2) (deep_deep job walks o.0 o.1);
      passes = subst (λ (m : Move). Sweeps m (centre_of job.pitch c) (pos 0)) (sym found.2) (deep_on_run job walks w o.0 o.1 c o.2.1);
    }

-- what is within r of a point that a move passes is within r of the move
passed_reaches : (p : ℤ) (v : Cell) (move : Move) (q : Point) (r : ℤ) → pos 0 ≤ℤ r → IsReachedFrom (r *ℤ nanometre) (in_unit nanometre (centre_of p v)) (in_unit nanometre q) → Sweeps move (centre_of p v) (pos 0) → Sweeps move q r
unfolding width_of scaled
passed_reaches p v move q r low reached passes =
    subst (λ (d : ℤ). near_of (scaled q) (under move.from) (under move.to) d ≡ true) (widths r)
    (near_step (scaled (centre_of p v)) (scaled q) (under move.from) (under move.to) (pos 0) (r *ℤ nanometre) (refl_le (pos 0)) (in_units r low) reached passes)
  where
    widths : (r : ℤ) → pos 0 +ℤ pos 2 *ℤ (r *ℤ nanometre) ≡ (pos 2 *ℤ r) *ℤ nanometre
    widths r = ring (r ∷ []) (add (num (pos 0)) (mul (num (pos 2)) (mul (var 0) (num nanometre)))) (mul (mul (num (pos 2)) (var 0)) (num nanometre)) refl

-- the sweep of a cutting isn't past the radius less half a diagonal
pub sweep_low : (k : Cutting) → pos 0 <ℤ k.pitch → (pos (sweep_of k) *ℤ (k.pitch *ℤ k.pitch)) ≤ℤ ((k.radius -ℤ half_diagonal_of k.pitch) *ℤ (k.radius -ℤ half_diagonal_of k.pitch))
unfolding sweep_of
sweep_low k some =
    let x : ℤ = k.radius -ℤ half_diagonal_of k.pitch in
    let d : ℤ = k.pitch *ℤ k.pitch in
    let wide : pos 0 <ℤ d = mul_pos k.pitch k.pitch some some in
    let quotient : ℤ = int_div_euclid (x *ℤ x) d in
    subst (λ z. (z *ℤ d) ≤ℤ (x *ℤ x)) (quotient_size d (x *ℤ x) wide (square_nonneg x))
    (subst (λ z. z ≤ℤ (x *ℤ x)) (ring (d ∷ quotient ∷ []) (mul (var 0) (var 1)) (mul (var 1) (var 0)) refl) (rounded_low (x *ℤ x) d quotient wide refl))

under_safe : (work safe z : ℤ) → work ≤ℤ neg_ℤ (pos 1000) → pos 100000 ≤ℤ safe → z ≤ℤ (work *ℤ nanometre) → z <ℤ (safe *ℤ nanometre)
under_safe work safe z h k l = omega (arith, ints)

radius_low : (h r : ℤ) → pos 0 <ℤ h → h <ℤ r → pos 0 ≤ℤ r
radius_low h r a b = omega (arith, ints)

-- the run of a traced program doesn't bite, passes the visited centres and no others, and sweeps what these sweep
pub mills : (job : Job) (painted : List Painted) (walks : List (List Cell)) (moves : List Move) → IsMilling job → IsHalfDiagonal job.pitch (half_diagonal_of job.pitch) → CoverLaw → ScaledSweep → CornerLaw
    → AreTraces (side_cutting job) painted walks → map unnumbered moves ≡ moves_of (program_along job walks) → Mills job painted moves
unfolding side_cutting
mills job painted walks moves ok diagonal cover sweep law traces e = record {
  no_bite = λ q dark move there low swept. (
      let o = low_over job walks moves move ok law traces.connected e there low in
      let v = near_visited job walks move q (bite_of (side_cutting job)) diagonal (bite_low (side_cutting job) ok.cutting) o swept in
      dark_apart (side_cutting job) painted v.cell q ok.cutting diagonal cover (visited_in (side_cutting job) painted v.cell ok.cutting (traces.each v.walk v.cell v.there v.inside)) dark v.near);
  visited = λ c. (
    (λ passed.
        let move : Move = passed.0 in
        let low : IsLow (job.zsafe *ℤ nanometre) move = (passed.2.0, inl (under_safe job.zwork job.zsafe (move.from).z ok.deep ok.safe_low passed.2.1)) in
        let o = low_over job walks moves move ok law traces.connected e passed.1 low in
        let v = near_visited job walks move (centre_of job.pitch c) (pos 0) diagonal (refl_le (pos 0)) o passed.3 in
        let same : c ≡ v.cell = same_cell_by_half job.pitch (half_diagonal_of job.pitch) c v.cell ok.pitch diagonal v.near in
        subst (λ (d : Cell). IsVisited (side_cutting job) painted d) (sym same) (traces.each v.walk v.cell v.there v.inside)),
    (λ visited. let s = step_over job painted walks moves c law traces e visited in (s.move, s.there, s.deep, s.passes)),
  );
  swept = λ c reached q inside. (
      let v : Cell = reached.from in
      let s = step_over job painted walks moves v law traces e reached.member in
      let near = sweep nanometre job.pitch (half_diagonal_of job.pitch) (side_cutting job).radius (sweep_of (side_cutting job)) ok.pitch diagonal ok.cutting.fine (sweep_low (side_cutting job) (pitch_positive (side_cutting job).pitch ok.cutting.pitch)) v c reached.within q inside in
      (s.move, s.there, s.deep, passed_reaches job.pitch v s.move q (side_cutting job).radius (radius_low (half_diagonal_of job.pitch) (side_cutting job).radius diagonal.positive ok.cutting.fine) near s.passes));
}

-- the run of its lines
pub runs : (job : Job) (painted : List Painted) (walks : List (List Cell)) → IsMilling job → IsHalfDiagonal job.pitch (half_diagonal_of job.pitch) → CoverLaw → ScaledSweep → CornerLaw → RunLaw
    → IsProgram (program_along job walks) → IsRunnable (program_along job walks) → AreTraces (side_cutting job) painted walks → RunsTo (lines_of (program_along job walks)) (Mills job painted)
unfolding RunsTo
runs job painted walks ok diagonal cover sweep law run valid runnable traces answers =
    let found = run answers (program_along job walks) valid runnable in
    (found.0, found.1, mills job painted walks found.0 ok diagonal cover sweep law traces found.2)
