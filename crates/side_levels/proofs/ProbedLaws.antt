-- The grid over the frame of a side, and the levelled program over it.
use Rattle.std.proofs.Common.{◌≡◌, ◌⊎◌, inl, inr, ℕ, zero, suc, ◌+◌, ◌-◌, ◌*◌, ◌<◌, ◌≤◌, ℤ, pos, neg_ℤ, ◌+ℤ◌, ◌≤ℤ◌, ◌<ℤ◌, cond, Bool, true, false, ◌||◌, List, [], ◌∷◌, ◌++◌, map, length, Ok, Err, Result, refl, sym, ap, subst, ◌∙◌, arith}
use Rattle.std.specs.Prelude.{unsigned_abs, nat_eq, nat_lt}
use Rattle.std.specs.List.{All, AllZip, Contains}
use Rattle.std.proofs.Math.Nat.{le-max_left, max-le}
use Rattle.std.proofs.lemmas.Bool.{false≢true, cases_lt}
use Rattle.std.proofs.lemmas.Int.{ints}
use Rattle.std.proofs.lemmas.List.Elements.{All-nil, All-cons, All-map}
use Rattle.number_laws.proofs.Tests.{below}
use Rattle.board_base.specs.declared.places.Cell.{Cell}
use Rattle.board_base.specs.Lattice.{IsPitch, middle, centre_of}
use Rattle.board_base.specs.Places.{IsCoordinate, IsPlace}
use Rattle.cell_grid.specs.declared.frames.Frame.{Frame}
use Rattle.chain_walk.specs.Runs.{AreSuccessive}
use Rattle.chain_walk.specs.Walk.{IsConnected, entry}
use Rattle.shape_parts.specs.declared.shape.Painted.{Painted}
use Rattle.mill_program.specs.declared.cuts.Corner.{Corner}
use Rattle.mill_program.specs.declared.probes.ProbeGrid.{ProbeGrid}
use Rattle.mill_program.specs.Probes.{IsGrid}
use Rattle.mill_program.specs.Conditions.{IsCorner, IsCut, IsFeed, IsToolRun, AreSteps}
use Rattle.levelling.specs.declared.grids.TooManyProbes.{TooManyProbes}
use Rattle.levelling.specs.Grids.{IsInReach, HasCells, probed, over, extent, probes_along, probe_step, axis_of, grid_with, grid_or_refused, grid_of}
use Rattle.levelling.proofs.GridLaws.{over_high, one_cell, across_high, up_high, grid_sound}
use Rattle.grid_runs.specs.Conditions.{IsCornerOver, IsProgramOver, IsRunnableCutOver, IsRunnableOver}
use Rattle.job_file.specs.declared.job.Job.{Job}
use Rattle.job_file.specs.Ranges.{IsLength, IsFeed as IsJobFeed}
use Rattle.mill_plan.specs.declared.isolation.Isolation.{Isolation}
use Rattle.mill_plan.specs.Job.{IsSideJob}
use Rattle.mill_plan.specs.Cutting.{side_cutting}
use Rattle.mill_plan.specs.Cuts.{all_of, corner_of}
use Rattle.mill_plan.specs.Isolated.{IsIsolationOf}
use Rattle.mill_plan.proofs.FrameLaws.{frame_places, frame_pitch}
use Rattle.mill_plan.proofs.JobLaws.{IsMilling, milling_is}
use Rattle.mill_plan.proofs.ProgramLaws.{one, all_in}
use Rattle.side_levels.specs.Lattices.{IsCutAlong, run_with, program_over}
use Rattle.side_levels.specs.Probed.{MayBeProbed, IsGridOver, IsLevelledOver, ProbedLaw}
use Rattle.side_levels.proofs.LatticeLaws.{side_traces, visited_place, levelled_along}

-- ---- the grid

some_cells : (n : ℕ) → nat_eq n 0 ≡ false → 1 ≤ n
some_cells zero e = absurd cc
some_cells (suc n) e = omega arith

-- the frame that is probed is within reach, and has cells
pub probed_in : (f : Frame) → IsInReach f → IsInReach (probed f) × HasCells (probed f)
unfolding probed
probed_in f h = by_test (nat_eq f.width 0) (nat_eq f.height 0) refl refl
  where
    single : Frame
    single = record { pitch = f.pitch; i0 = pos 0; j0 = pos 0; width = 1; height = 1 }

    by_test : (a b : Bool) → nat_eq f.width 0 ≡ a → nat_eq f.height 0 ≡ b → IsInReach (cond (a || b) single f) × HasCells (cond (a || b) single f)
    by_test true b i j = (one_cell f h, record { wide = omega arith; high = omega arith })
    by_test false true i j = (one_cell f h, record { wide = omega arith; high = omega arith })
    by_test false false i j = (h, record { wide = some_cells f.width i; high = some_cells f.height j })

-- how many probes an axis has, and how far apart they are
record AreProbes (count step : ℕ) : Type 0 where
  some : 2 ≤ count
  low : 1 ≤ step
  high : step ≤ 1000000000

axis_is : (pitch cells close : ℕ) → 1 ≤ pitch → pitch ≤ 200000 → extent pitch cells ≤ 1000000000
    → AreProbes (probes_along (extent pitch cells) close) (probe_step pitch (extent pitch cells) (probes_along (extent pitch cells) close))
unfolding probes_along probe_step over
axis_is pitch cells close low high few =
    let count : ℕ = probes_along (extent pitch cells) close in
    let some : 2 ≤ count = le-max_left 2 (over (extent pitch cells) close + 1) in
    let near : over (extent pitch cells) (count - 1) ≤ 1000000000 = over_high (extent pitch cells) (count - 1) few (less count some) in
    record {
      some = some;
      low = (let at = le-max_left pitch (over (extent pitch cells) (count - 1)) in omega (arith, low, at));
      high = max-le (omega (arith, high)) near;
    }
  where
    less : (n : ℕ) → 2 ≤ n → 1 ≤ n - 1
    less n h = omega (arith, h)

refused : (n : ℕ) (g : ProbeGrid) → ◌≡◌ {A = Result ProbeGrid TooManyProbes} (Err (record { count = n })) (Ok g) → ⊥
refused n g e = cc

given : (x g : ProbeGrid) → ◌≡◌ {A = Result ProbeGrid TooManyProbes} (Ok x) (Ok g) → g ≡ x
given x g e = cc

few_of : (n : ℕ) → nat_lt 900 n ≡ false → n ≤ 900
few_of n e = by_case (cases_lt 900 n)
  where
    by_case : (900 < n) ⊎ (n ≤ 900) → n ≤ 900
    by_case (inl l) = absurd (false≢true (sym e ∙ below 900 n l))
    by_case (inr l) = l

-- a grid that isn't refused has few probes
pub not_refused : (x g : ProbeGrid) → grid_or_refused x ≡ Ok g → (g ≡ x) × (x.nx * x.ny ≤ 900)
not_refused x g e = by_test (nat_lt 900 (x.nx * x.ny)) refl e
  where
    by_test : (b : Bool) → nat_lt 900 (x.nx * x.ny) ≡ b → ◌≡◌ {A = Result ProbeGrid TooManyProbes} (cond b (Err (record { count = x.nx * x.ny })) (Ok x)) (Ok g) → (g ≡ x) × (x.nx * x.ny ≤ 900)
    by_test true i k = absurd (refused (x.nx * x.ny) g k)
    by_test false i k = (given x g k, few_of (x.nx * x.ny) i)

-- a grid over a frame within reach
record IsSoundGrid (g : ProbeGrid) (range : ℤ) : Type 0 where
  grid : IsGrid g
  range_is : g.range ≡ range

grid_is : (f : Frame) (dx dy range feed : ℤ) (g : ProbeGrid) → IsInReach f → pos 0 ≤ℤ range → range ≤ℤ pos 10000000 → pos 1 ≤ℤ feed → feed ≤ℤ pos 100000000 → grid_of f dx dy range feed ≡ Ok g → IsSoundGrid g range
unfolding grid_of
grid_is f dx dy range feed g h rl rh fl fh e =
    let p = probed_in f h in
    let q : Frame = probed f in
    let pitch : ℕ = unsigned_abs q.pitch in
    let low : 1 ≤ pitch = some q.pitch p.0.pitch in
    let high : pitch ≤ 200000 = most q.pitch p.0.pitch in
    let a = axis_of pitch q.width (unsigned_abs dx) in
    let u = axis_of pitch q.height (unsigned_abs dy) in
    let across = axis_is pitch q.width (unsigned_abs dx) low high (across_high q p.0 p.1) in
    let up = axis_is pitch q.height (unsigned_abs dy) low high (up_high q p.0 p.1) in
    let found = not_refused (grid_with q a u range feed) g e in
    record {
      grid = subst IsGrid (sym found.0) (grid_sound q a u range feed across.some up.some found.1 across.low across.high up.low up.high rl rh fl fh);
      range_is = ap (λ (x : ProbeGrid). x.range) found.0;
    }
  where
    some : (p : ℤ) → IsPitch p → 1 ≤ unsigned_abs p
    some p h = omega (arith, ints, h.low)

    most : (p : ℤ) → IsPitch p → unsigned_abs p ≤ 200000
    most p h = omega (arith, ints, h.low, h.high)

-- ---- the job

frame_probed : (job : Job) (painted : List Painted) (plan : Isolation) → IsSideJob job → IsIsolationOf job painted plan → MayBeProbed job plan.frame
unfolding side_cutting
frame_probed job painted plan ok i =
    let milling = milling_is job ok in
    let pitch : plan.frame.pitch ≡ job.pitch = frame_pitch (side_cutting job) painted plan.frame i.framed in
    record {
      reach = record {
        pitch = subst IsPitch (sym pitch) milling.pitch;
        centres = λ c inside. subst (λ (p : ℤ). IsPlace (centre_of p c)) (sym pitch) (frame_places (side_cutting job) painted plan.frame milling.cutting i.framed c inside);
      };
      across = far job.al_x ok.ranges.al_x;
      up = far job.al_y ok.ranges.al_y;
      range = range_in job.al_range ok.ranges.al_range;
      feed = feed_in job.al_probefeed ok.ranges.al_probefeed;
    }
  where
    far : (d : ℤ) → IsLength (pos 1000) (pos 100000) d → pos 1000000 ≤ℤ d
    far d h = omega (arith, ints, h.low)

    range_in : (r : ℤ) → IsLength (pos 10) (pos 10000) r → (pos 0 ≤ℤ r) × (r ≤ℤ pos 10000000)
    range_in r h = (omega (arith, ints, h.low), omega (arith, ints, h.high))

    feed_in : (v : ℤ) → IsJobFeed v → (pos 1 ≤ℤ v) × (v ≤ℤ pos 100000000)
    feed_in v h = (omega (arith, ints, h.low), omega (arith, ints, h.high))

-- ---- cuts along walks

-- what holds of the second of each pair of two lists
all_second : {A B : Type 0} (R : A → B → Type 0) (P : B → Type 0) (xs : List A) (ys : List B) → AllZip R xs ys → ((x : A) (y : B) → Contains xs x → R x y → P y) → All P ys
all_second R P [] [] h each = All-nil P
all_second R P [] (y ∷ ys) h each = absurd h
all_second R P (x ∷ xs) [] h each = absurd h
all_second R P (x ∷ xs) (y ∷ ys) h each =
    All-cons P y ys (each x y (0, omega arith, refl) h.0) (all_second R P xs ys h.1 (λ a b m r. each a b (suc m.0, omega (arith, m.1), m.2) r))

first_in : (w : List Cell) → IsConnected w → Contains w (entry w 0)
first_in [] h = absurd (let s = h.some in omega (arith, s))
first_in (c ∷ w) h = (0, omega arith, refl)

module _ (job : Job) (ok : IsMilling job) where
  corner_in : (c : Cell) → IsPlace (centre_of job.pitch c) → IsCorner (corner_of job c)
  unfolding corner_of
  corner_in c place = record { x_in = place.x; y_in = place.y; z_in = depth job.zwork ok.deepest ok.deep }
    where
      depth : (z : ℤ) → neg_ℤ (pos 10000000) ≤ℤ z → z ≤ℤ neg_ℤ (pos 1000) → IsCoordinate z
      depth z h k = record { low = omega (arith, ints, h); high = omega (arith, ints, k) }

  cut_is : (w : List Cell) (cut : List Corner) → IsConnected w → ((c : Cell) → Contains w c → IsPlace (centre_of job.pitch c)) → IsCutAlong job w cut → IsCut cut
  cut_is w cut connected places a = subst IsCut (sym a.is) (record {
    some = (let f = a.covers (entry w 0) (first_in w connected) in by f.0 f.1 a.cells f.2.0);
    corners = All-map IsCorner (corner_of job) a.cells (all_in (λ c. IsCorner (corner_of job c)) a.cells (λ c m. corner_in c (places c (a.inside c m))));
  })
    where
      by : (x y : Cell) (cells : List Cell) → AreSuccessive cells x y → 0 < length (map (corner_of job) cells)
      by x y [] s = absurd s
      by x y (c ∷ cells) s = omega arith

  steps_level : (cells : List Cell) → AreSteps (map (corner_of job) cells)
  unfolding corner_of
  steps_level [] = tt
  steps_level (c ∷ []) = tt
  steps_level (c ∷ d ∷ cells) = (inl refl, steps_level (d ∷ cells))

  module _ (g : ProbeGrid) (grid : IsGrid g) (under : g.range <ℤ job.zsafe) where
    reach_over : (c : Cell) → IsCornerOver g (corner_of job c)
    unfolding corner_of
    reach_over c = by job.zwork g.range ok.deepest ok.deep grid.range_low grid.range_high
      where
        by : (z r : ℤ) → neg_ℤ (pos 10000000) ≤ℤ z → z ≤ℤ neg_ℤ (pos 1000) → pos 0 ≤ℤ r → r ≤ℤ pos 10000000 → IsCornerOver g (record { x = middle job.pitch c.i; y = middle job.pitch c.j; z = z })
        by z r h k l m = record { lowest = record { low = omega (arith, ints, h, grid.range_high); high = omega (arith, ints, k, grid.range_low) }; highest = record { low = omega (arith, ints, h, grid.range_low); high = omega (arith, ints, k, grid.range_high) } }

    below_safe : (c : Cell) → ((corner_of job c).z +ℤ g.range) <ℤ job.zsafe
    unfolding corner_of
    below_safe c = by job.zwork g.range job.zsafe ok.deep under
      where
        by : (z r s : ℤ) → z ≤ℤ neg_ℤ (pos 1000) → r <ℤ s → (z +ℤ r) <ℤ s
        by z r s h k = omega (arith, ints, h, k)

    cut_over : (w : List Cell) (cut : List Corner) → IsCutAlong job w cut → All (IsCornerOver g) cut
    cut_over w cut a = subst (All (IsCornerOver g)) (sym a.is) (All-map (IsCornerOver g) (corner_of job) a.cells (all_in (λ c. IsCornerOver g (corner_of job c)) a.cells (λ c m. reach_over c)))

    cut_runnable : (w : List Cell) (cut : List Corner) → IsCutAlong job w cut → IsRunnableCutOver g job.zsafe cut
    cut_runnable w cut a = subst (IsRunnableCutOver g job.zsafe) (sym a.is) (record {
      below = All-map (λ (c : Corner). (c.z +ℤ g.range) <ℤ job.zsafe) (corner_of job) a.cells (all_in (λ c. ((corner_of job c).z +ℤ g.range) <ℤ job.zsafe) a.cells (λ c m. below_safe c));
      steps = steps_level a.cells;
    })

    module _ (walks : List (List Cell)) (cuts : List (List Corner)) (along : AllZip (IsCutAlong job) walks cuts) where
      program_is : ((w : List Cell) → Contains walks w → IsConnected w) → ((w : List Cell) (c : Cell) → Contains walks w → Contains w c → IsPlace (centre_of job.pitch c)) → IsProgramOver g (program_over job g cuts)
      program_is connected places = record {
        grid = refl;
        is_grid = grid;
        safe = height job.zsafe ok.safe_low ok.safe_high;
        change = change_in job.zsafe job.zchange ok.safe_low ok.change_low ok.change_high;
        runs = one IsToolRun (run_with job cuts) (record {
          tool = omega arith;
          speed = ok.speed_high;
          feed = feed_in job.mill_feed ok.feed_low ok.feed_high;
          plunge = feed_in job.mill_vertfeed ok.plunge_low ok.plunge_high;
          cuts = all_second (IsCutAlong job) IsCut walks cuts along (λ w cut m a. cut_is w cut (connected w m) (λ c inside. places w c m inside) a);
        });
        one = omega arith;
        range = under;
        corners = one (λ run. All (All (IsCornerOver g)) run.cuts) (run_with job cuts) (all_second (IsCutAlong job) (All (IsCornerOver g)) walks cuts along (λ w cut m a. cut_over w cut a));
      }
        where
          height : (z : ℤ) → pos 100000 ≤ℤ z → z ≤ℤ pos 50000000 → IsCoordinate z
          height z h k = record { low = omega (arith, ints, h); high = omega (arith, ints, k) }

          change_in : (s z : ℤ) → pos 100000 ≤ℤ s → s ≤ℤ z → z ≤ℤ pos 100000000 → IsCoordinate z
          change_in s z h k l = record { low = omega (arith, ints, h, k); high = omega (arith, ints, l) }

          feed_in : (v : ℤ) → pos 1000 ≤ℤ v → v ≤ℤ pos 6000000 → IsFeed v
          feed_in v h k = record { low = omega (arith, ints, h); high = omega (arith, ints, k) }

      program_runnable : IsRunnableOver g (program_over job g cuts)
      program_runnable = record {
        high = ok.change_low;
        cuts = one (λ run. All (IsRunnableCutOver g job.zsafe) run.cuts) (run_with job cuts) (all_second (IsCutAlong job) (IsRunnableCutOver g job.zsafe) walks cuts along (λ w cut m a. cut_runnable w cut a));
      }

-- ---- the law

levelled_over : (job : Job) (painted : List Painted) (plan : Isolation) (g : ProbeGrid) → IsSideJob job → IsIsolationOf job painted plan → job.al_front ≡ true → IsGridOver job plan.frame g → IsLevelledOver job plan g
levelled_over job painted plan g ok i asked e =
    let milling = milling_is job ok in
    let f = frame_probed job painted plan ok i in
    let sound = grid_is plan.frame job.al_x job.al_y job.al_range job.al_probefeed g f.reach f.range.0 f.range.1 f.feed.0 f.feed.1 e in
    let under : g.range <ℤ job.zsafe = subst (λ (r : ℤ). r <ℤ job.zsafe) (sym sound.range_is) (ok.together.probes asked) in
    let traces = side_traces job painted plan i in
    let walks : List (List Cell) = all_of i.traced.passes ++ i.traced.runs in
    let p = levelled_along job walks g plan.program milling.pitch i.traced.is traces.connected in
    record {
      grid = sound.grid;
      program = subst (IsProgramOver g) (sym p.is) (program_is job milling g sound.grid under walks p.cuts p.along traces.connected (λ w c m inside. visited_place job painted plan ok i c (traces.each w c m inside)));
      runnable = subst (IsRunnableOver g) (sym p.is) (program_runnable job milling g sound.grid under walks p.cuts p.along);
    }

pub probed_holds : ProbedLaw
probed_holds = record { frame = frame_probed; levelled_is = levelled_over }
