-- The run of the probes of a grid.
use Rattle.std.proofs.Common.{◌≡◌, refl, ℕ, zero, suc, ◌+◌, ◌-◌, ◌*◌, ◌/◌, ◌%◌, ◌<◌, ◌≤◌, ℤ, pos, negsuc, neg_ℤ, ◌+ℤ◌, ◌*ℤ◌, ◌<ℤ◌, ◌≤ℤ◌, List, [], ◌∷◌, Option, Some, None, arith}
use Rattle.std.specs.List.{flat_map, range_with_len}
use Rattle.std.proofs.Math.Nat.{div-lt_iff_lt-mul, mul-le-mul_left}
use Rattle.std.proofs.lemmas.Int.{ints}
use Rattle.number_laws.proofs.Tests.{lt_false}
use Rattle.board_base.specs.Places.{IsCoordinate, IsPlace}
use Rattle.board_base.specs.declared.places.Pos.{Pos}
use Rattle.board_base.specs.declared.places.MoveKind.{MoveKind}
use Rattle.board_base.specs.declared.places.MoveKind.TheVariants.{Rapid}
use Rattle.rs274_sim.specs.Evaluation.{Parameters}
use Rattle.rs274_sim.specs.Machine.{Machine}
use Rattle.mill_program.specs.declared.cuts.ToolRun.{ToolRun}
use Rattle.mill_program.specs.declared.probes.ProbeGrid.{ProbeGrid}
use Rattle.mill_program.specs.Conditions.{IsFeed}
use Rattle.mill_program.specs.Lines.{words, height_line}
use Rattle.mill_program.specs.GridLines.{over_place, contact_line, answer_line, probe_lines}
use Rattle.mill_program.specs.Moves.{Spindle, rapid, at_height}
use Rattle.mill_program.specs.Probes.{IsGrid, FitGrid, AreInReach, probe_place, answer_of}
use Rattle.mill_program.proofs.StepLaws.{at_rapid, rapid_of, to_height, to_place, whole_nanometres, reach, feed_passes, feed_value, some_feed}
use Rattle.grid_runs.specs.Moves.{above, standing_in, probing, probe_moves, probes_moves, after_probes}
use Rattle.grid_runs.proofs.LineSteps.{contact_of, to_contact, to_answer}
use Rattle.grid_runs.proofs.SurfaceLaws.{answered, answer_within}
use Rattle.grid_runs.proofs.BlockLaws.{Makes, no_line, one_behind, one_move, one_still}
use Rattle.grid_runs.proofs.AnswerLaws.{met, probed, all_probed}

-- ---- machines

-- a machine in a tool run: its spindle, where it stands, the feed and the motion in force, parameters and answers used
abbrev pub working : Spindle → Pos → ℤ → Option MoveKind → Parameters → ℕ → Machine
working spindle p f motion ps used = record {
  at = p;
  turning = spindle.turning;
  speed = spindle.speed;
  feed_rate = f;
  tool = spindle.tool;
  pending = Some spindle.tool;
  motion = motion;
  params = ps;
  used = used;
}

-- straight up or down to a height
pub to_level : {answers : List ℤ} (z : ℤ) (m : Machine) → IsCoordinate z
    → Makes answers m (words (height_line z) ∷ []) (rapid (record { turning = m.turning; speed = m.speed; tool = m.tool }) m.at (at_height z m.at) ∷ []) (at_rapid m (at_height z m.at))
to_level {answers = answers} z m h = one_move (λ n. rapid_of n m (at_height z m.at)) refl (λ n. to_height answers n m (z *ℤ pos 1000000) (reach z h)) (λ n. refl)

-- ---- places of probes

-- the conditions under which probes meet the board
pub record CanProbe (g : ProbeGrid) (answers : List ℤ) (safe : ℤ) : Type 0 where
  pub grid : IsGrid g
  pub fit : FitGrid g answers
  pub reach : AreInReach g
  pub safe_in : IsCoordinate safe
  pub range : g.range <ℤ safe

within_axis : (i count : ℕ) (from step : ℤ) → i < count → pos 0 ≤ℤ step → neg_ℤ (pos 500000000) ≤ℤ from → (from +ℤ pos (count - 1) *ℤ step) ≤ℤ pos 500000000 → IsCoordinate (from +ℤ pos i *ℤ step)
within_axis i count from (pos s) h some low high =
    let turned : i * s ≡ s * i = omega arith in
    let last : (count - 1) * s ≡ s * (count - 1) = omega arith in
    let below : i ≤ count - 1 = omega arith in
    let least : s * i ≤ s * (count - 1) = mul-le-mul_left s below in
    record { low = omega (arith, ints, low); high = omega (arith, ints, high) }
within_axis i count from (negsuc s) h some low high = absurd (omega (arith, ints, some))

column_within : (k nx : ℕ) → 2 ≤ nx → k % nx < nx
column_within k nx h = omega arith

row_within : (k nx ny : ℕ) → 2 ≤ nx → k < nx * ny → k / nx < ny
row_within k nx ny some h = let low : 0 < nx = omega arith in let turned : nx * ny ≡ ny * nx = omega arith in (div-lt_iff_lt-mul low).1 (omega arith)

no_less : (z : ℤ) → pos 1 ≤ℤ z → pos 0 ≤ℤ z
no_less z h = omega (arith, ints, h)

probe_in : (g : ProbeGrid) (k : ℕ) → IsGrid g → AreInReach g → k < g.nx * g.ny → IsPlace (probe_place g k)
probe_in g k grid reach h = record {
  x = within_axis (k % g.nx) g.nx g.x0 g.dx (column_within k g.nx grid.across) (no_less g.dx grid.dx_low) reach.west reach.east;
  y = within_axis (k / g.nx) g.ny g.y0 g.dy (row_within k g.nx g.ny grid.across h) (no_less g.dy grid.dy_low) reach.south reach.north;
}

-- ---- one probe

feed_in : (g : ProbeGrid) → IsGrid g → IsFeed g.feed
feed_in g grid = record { low = grid.feed_low; high = grid.feed_high }

deepest_in : (range : ℤ) → pos 0 ≤ℤ range → range ≤ℤ pos 10000000 → IsCoordinate (neg_ℤ range)
deepest_in range low high = record { low = omega (arith, ints, low, high); high = omega (arith, ints, low, high) }

not_deeper : (range a : ℤ) → neg_ℤ range ≤ℤ a → (neg_ℤ range *ℤ pos 1000000) ≤ℤ (a *ℤ pos 1000000)
not_deeper range a h = omega (arith, ints, h)

not_higher : (range safe a : ℤ) → range <ℤ safe → a ≤ℤ range → (a *ℤ pos 1000000) ≤ℤ (safe *ℤ pos 1000000)
not_higher range safe a s h = omega (arith, ints, s, h)

-- over to a probe's place
go_over : {answers : List ℤ} (g : ProbeGrid) (safe : ℤ) (run : ToolRun) (p : Pos) (f : ℤ) (ps : Parameters) (k used : ℕ) → IsPlace (probe_place g k)
    → Makes answers (working (standing_in run) (at_height safe p) f (Some Rapid) ps used) (words (over_place (probe_place g k)) ∷ []) (rapid (standing_in run) (at_height safe p) (above safe (probe_place g k)) ∷ [])
    (working (standing_in run) (above safe (probe_place g k)) f (Some Rapid) ps used)
go_over {answers = answers} g safe run p f ps k used place =
    let q = probe_place g k in
    let m = working (standing_in run) (at_height safe p) f (Some Rapid) ps used in
    one_move (λ n. rapid_of n m (above safe q)) refl
    (λ n. to_place answers n m (q.x *ℤ pos 1000000) (q.y *ℤ pos 1000000) (whole_nanometres q.x) (whole_nanometres q.y) (reach q.x place.x) (reach q.y place.y)) (λ n. refl)

-- down to its answer
meet : {answers : List ℤ} (g : ProbeGrid) (safe : ℤ) (run : ToolRun) (f : ℤ) (ps : Parameters) (k : ℕ) → CanProbe g answers safe → k < g.nx * g.ny
    → Makes answers (working (standing_in run) (above safe (probe_place g k)) f (Some Rapid) ps k) (words (contact_line g) ∷ [])
    (probing g run (above safe (probe_place g k)) (above (answer_of answers k) (probe_place g k)) ∷ [])
    (working (standing_in run) (above (answer_of answers k) (probe_place g k)) g.feed None (met g answers ps k) (k + 1))
meet {answers = answers} g safe run f ps k c h =
    let q = probe_place g k in
    let a = answer_of answers k in
    let within = answer_within g answers c.fit k h in
    let feed = feed_in g c.grid in
    let enough = c.fit.enough in
    let m = working (standing_in run) (above safe q) f (Some Rapid) ps k in
    one_move (λ n. contact_of n m (above a q) g.feed) refl
    (λ n.
    to_contact answers n m a (neg_ℤ g.range *ℤ pos 1000000) (g.feed *ℤ pos 1000000000) g.feed (answered answers k (omega arith)) (reach (neg_ℤ g.range) (deepest_in g.range c.grid.range_low c.grid.range_high))
    (feed_passes g.feed feed) (feed_value g.feed feed) (some_feed g.feed feed) (lt_false (a *ℤ pos 1000000) (neg_ℤ g.range *ℤ pos 1000000) (not_deeper g.range a within.low))
    (lt_false (safe *ℤ pos 1000000) (a *ℤ pos 1000000) (not_higher g.range safe a c.range within.high)))
    (λ n. refl)

-- the answer is kept
keep : {answers : List ℤ} (g : ProbeGrid) (run : ToolRun) (p : Pos) (f : ℤ) (ps : Parameters) (k used : ℕ)
    → Makes answers (working (standing_in run) p f None (met g answers ps k) used) (answer_line k ∷ []) [] (working (standing_in run) p f None (probed g answers ps k) used)
keep {answers = answers} g run p f ps k used = one_still refl (λ n. to_answer answers n k (working (standing_in run) p f None (met g answers ps k) used))

-- over to a probe's place, down to its answer, which is kept, and up
one_probe : (g : ProbeGrid) (answers : List ℤ) (safe : ℤ) (run : ToolRun) (p : Pos) (f : ℤ) (ps : Parameters) (k : ℕ) → CanProbe g answers safe → k < g.nx * g.ny
    → Makes answers (working (standing_in run) (at_height safe p) f (Some Rapid) ps k) (probe_lines safe g k) (probe_moves g answers safe run (at_height safe p) k)
    (working (standing_in run) (above safe (probe_place g k)) g.feed (Some Rapid) (probed g answers ps k) (k + 1))
one_probe g answers safe run p f ps k c h =
    let down = above (answer_of answers k) (probe_place g k) in
    one_behind (go_over g safe run p f ps k k (probe_in g k c.grid c.reach h))
    (one_behind (meet g safe run f ps k c h)
    (one_behind (keep g run down g.feed ps k (k + 1)) (to_level safe (working (standing_in run) down g.feed None (probed g answers ps k) (k + 1)) c.safe_in)))

-- ---- all probes

-- the probes from one on; which feed is then in force, and how many answers were used, doesn't matter
pub probes_from : (g : ProbeGrid) (answers : List ℤ) (safe : ℤ) (run : ToolRun) (n a : ℕ) (p : Pos) (f : ℤ) (ps : Parameters) → CanProbe g answers safe → a + n ≤ g.nx * g.ny
    → (e : ℤ) × (used : ℕ)
    × Makes answers (working (standing_in run) (at_height safe p) f (Some Rapid) ps a) (flat_map (probe_lines safe g) (range_with_len a n)) (probes_moves g answers safe run (at_height safe p) (range_with_len a n))
    (working (standing_in run) (after_probes g safe (at_height safe p) (range_with_len a n)) e (Some Rapid) (all_probed g answers ps (range_with_len a n)) used)
probes_from g answers safe run zero a p f ps c h = (f, a, no_line)
probes_from g answers safe run (suc n) a p f ps c h =
    let rest = probes_from g answers safe run n (a + 1) (above safe (probe_place g a)) g.feed (probed g answers ps a) c (omega arith) in
    (rest.0, rest.1, one_behind (one_probe g answers safe run p f ps a c (omega arith)) rest.2)
