-- The program of a drill list can be written and run.
use Rattle.std.proofs.Common.{◌≡◌, ℕ, ◌+◌, ◌<◌, ◌≤◌, ℤ, pos, neg_ℤ, ◌≤ℤ◌, ◌<ℤ◌, List, [], ◌∷◌, ◌++◌, map, length, take, length-take, get_or, inl, refl, sym, ap, ◌∙◌, arith}
use Rattle.std.specs.List.{All, enumerate_from}
use Rattle.std.proofs.lemmas.Int.{ints}
use Rattle.std.proofs.lemmas.List.{take_more}
use Rattle.std.proofs.lemmas.List.Elements.{All-nil, All-cons, All-head, All-tail, All-map, All-weaker, All-append}
use Rattle.board_base.specs.declared.places.Point.{Point}
use Rattle.board_base.specs.Places.{IsCoordinate, IsPlace}
use Rattle.job_file.specs.declared.job.Job.{Job}
use Rattle.job_file.specs.Ranges.{IsInRanges}
use Rattle.drill_plan.specs.declared.plans.ToolPlan.{ToolPlan}
use Rattle.drill_plan.specs.Limits.{IsOnBoard, IsWithinLimits}
use Rattle.mill_program.specs.declared.cuts.Corner.{Corner}
use Rattle.mill_program.specs.declared.cuts.ToolRun.{ToolRun}
use Rattle.mill_program.specs.Conditions.{IsCorner, IsCut, IsFeed, IsToolRun, IsProgram, IsRunnableCut, IsRunnable}
use Rattle.drill_program.specs.Program.{at_depth, hole_cut, slot_cut, tool_run, program_of}

-- ---- lists

numbered_more : {T R : Type 0} (f : ℕ × T → R) (n : ℕ) (ts : List T) (t : T) → map f (enumerate_from n (ts ++ t ∷ [])) ≡ map f (enumerate_from n ts) ++ f (n + length ts, t) ∷ []
numbered_more f n [] t = let same : n ≡ n + 0 = omega arith in ap (λ k. f (k, t) ∷ []) same
numbered_more f n (u ∷ ts) t =
    let same : n + 1 + length ts ≡ n + length (u ∷ ts) = omega arith in
    ap (λ l. f (n, u) ∷ l) (numbered_more f (n + 1) ts t ∙ ap (λ k. map f (enumerate_from (n + 1) ts) ++ f (k, t) ∷ []) same)

-- what is made of numbered items, with one more
pub one_more : {T R : Type 0} (f : ℕ × T → R) (made new : List R) (ts : List T) (i n : ℕ) (t : T) (one : R) → i < length ts → t ≡ get_or ts i t → n ≡ i + 1
    → made ≡ map f (enumerate_from 1 (take i ts)) → one ≡ f (n, t) → new ≡ made ++ one ∷ [] → new ≡ map f (enumerate_from 1 (take (i + 1) ts))
one_more f made new ts i n t one inside is number before this added =
    let size : n ≡ 1 + length (take i ts) = omega (arith, length-take i ts, inside, number) in
    added ∙ ap (λ l. l ++ one ∷ []) before
    ∙ ap (λ r. map f (enumerate_from 1 (take i ts)) ++ r ∷ []) (this ∙ ap (λ k. f (k, t)) size)
    ∙ sym (numbered_more f 1 (take i ts) t)
    ∙ sym (ap (λ l. map f (enumerate_from 1 l)) (take_more ts i t inside ∙ ap (λ u. take i ts ++ u ∷ []) (sym is)))

-- ---- lengths of a job

-- a height in the reach of the machine
coordinate : (v : ℤ) → neg_ℤ (pos 50000000) ≤ℤ v → v ≤ℤ pos 100000000 → IsCoordinate v
coordinate v low high = record { low = omega (arith, ints, low); high = omega (arith, ints, high) }

module _ (job : Job) (ok : IsInRanges job) where
  safe_low : pos 100000 ≤ℤ job.zsafe
  safe_low = ok.zsafe.low

  depth_high : job.zdrill ≤ℤ neg_ℤ (pos 1000)
  depth_high = ok.zdrill.high

  safe_in : IsCoordinate job.zsafe
  safe_in = coordinate job.zsafe (under job.zsafe ok.zsafe.low) (above job.zsafe ok.zsafe.high)
    where
      under : (v : ℤ) → pos 100000 ≤ℤ v → neg_ℤ (pos 50000000) ≤ℤ v
      under v h = omega (arith, ints, h)

      above : (v : ℤ) → v ≤ℤ pos 50000000 → v ≤ℤ pos 100000000
      above v h = omega (arith, ints, h)

  change_in : IsCoordinate job.zchange
  change_in = coordinate job.zchange (under job.zchange ok.zchange.low) ok.zchange.high
    where
      under : (v : ℤ) → pos 100000 ≤ℤ v → neg_ℤ (pos 50000000) ≤ℤ v
      under v h = omega (arith, ints, h)

  depth_in : IsCoordinate job.zdrill
  depth_in = coordinate job.zdrill ok.zdrill.low (above job.zdrill ok.zdrill.high)
    where
      above : (v : ℤ) → v ≤ℤ neg_ℤ (pos 1000) → v ≤ℤ pos 100000000
      above v h = omega (arith, ints, h)

  feed_in : IsFeed job.drill_feed
  feed_in = in_range job.drill_feed ok.drill_feed.low ok.drill_feed.high
    where
      in_range : (f : ℤ) → pos 1000 ≤ℤ f → f ≤ℤ pos 6000000 → IsFeed f
      in_range f low high = record { low = omega (arith, ints, low); high = omega (arith, ints, high) }

  depth_below : job.zdrill <ℤ job.zsafe
  depth_below = under job.zdrill job.zsafe depth_high safe_low
    where
      under : (d s : ℤ) → d ≤ℤ neg_ℤ (pos 1000) → pos 100000 ≤ℤ s → d <ℤ s
      under d s h k = omega (arith, ints, h, k)

  -- ---- cuts

  corner_in : (p : Point) → IsPlace p → IsCorner (at_depth job p)
  corner_in p place = record { x_in = place.x; y_in = place.y; z_in = depth_in }

  hole_in : (p : Point) → IsPlace p → IsCut (hole_cut job p)
  hole_in p place = record { some = omega arith; corners = All-cons IsCorner (at_depth job p) [] (corner_in p place) (All-nil IsCorner) }

  slot_in : (s : Point × Point) → IsPlace s.0 × IsPlace s.1 → IsCut (slot_cut job s)
  slot_in s places = record {
    some = omega arith;
    corners = All-cons IsCorner (at_depth job s.0) (at_depth job s.1 ∷ []) (corner_in s.0 places.0) (All-cons IsCorner (at_depth job s.1) [] (corner_in s.1 places.1) (All-nil IsCorner));
  }

  below : (c : List Point) → All (λ (c : Corner). c.z <ℤ job.zsafe) (map (at_depth job) c)
  below [] = All-nil (λ (c : Corner). c.z <ℤ job.zsafe)
  below (p ∷ ps) = All-cons (λ (c : Corner). c.z <ℤ job.zsafe) (at_depth job p) (map (at_depth job) ps) depth_below (below ps)

  hole_runs : (p : Point) → IsRunnableCut job.zsafe (hole_cut job p)
  hole_runs p = record { below = below (p ∷ []); steps = tt }

  slot_runs : (s : Point × Point) → IsRunnableCut job.zsafe (slot_cut job s)
  slot_runs s = record { below = below (s.0 ∷ s.1 ∷ []); steps = (inl refl, tt) }

  all_of : {X : Type 0} (P : X → Type 0) → ((x : X) → P x) → (xs : List X) → All P xs
  all_of P h xs k d inside = h (get_or xs k d)

  -- ---- tool runs

  run_in : (number : ℕ) (t : ToolPlan) → number ≤ 9999 → IsOnBoard t → IsToolRun (tool_run job number t)
  unfolding tool_run
  run_in number t few placed = record {
    tool = few;
    speed = ok.drill_speed.high;
    feed = feed_in;
    plunge = feed_in;
    cuts =
        All-append IsCut (map (hole_cut job) t.holes) (map (slot_cut job) t.slots)
        (All-map IsCut (hole_cut job) t.holes (All-weaker IsPlace (λ p. IsCut (hole_cut job p)) hole_in t.holes placed.holes))
        (All-map IsCut (slot_cut job) t.slots (All-weaker (λ (s : Point × Point). IsPlace s.0 × IsPlace s.1) (λ s. IsCut (slot_cut job s)) slot_in t.slots placed.slots));
  }

  runs_in : (n : ℕ) (plan : List ToolPlan) → n + length plan ≤ 10000 → All IsOnBoard plan → All IsToolRun (map (λ t. tool_run job t.0 t.1) (enumerate_from n plan))
  runs_in n [] few placed = All-nil IsToolRun
  runs_in n (t ∷ plan) few placed =
      All-cons IsToolRun (tool_run job n t) (map (λ t. tool_run job t.0 t.1) (enumerate_from (n + 1) plan)) (run_in n t (omega (arith, few)) (All-head IsOnBoard t plan placed))
      (runs_in (n + 1) plan (omega (arith, few)) (All-tail IsOnBoard t plan placed))

  run_runs : (number : ℕ) (t : ToolPlan) → All (IsRunnableCut job.zsafe) (tool_run job number t).cuts
  unfolding tool_run
  run_runs number t =
      All-append (IsRunnableCut job.zsafe) (map (hole_cut job) t.holes) (map (slot_cut job) t.slots)
      (All-map (IsRunnableCut job.zsafe) (hole_cut job) t.holes (all_of (λ p. IsRunnableCut job.zsafe (hole_cut job p)) hole_runs t.holes))
      (All-map (IsRunnableCut job.zsafe) (slot_cut job) t.slots (all_of (λ s. IsRunnableCut job.zsafe (slot_cut job s)) slot_runs t.slots))

  pub program_in : (plan : List ToolPlan) → IsWithinLimits plan → IsProgram (program_of job plan)
  unfolding program_of
  program_in plan limits = record { safe = safe_in; change = change_in; runs = runs_in 1 plan (omega (arith, limits.tools)) limits.placed; grid = refl }

  pub program_runs : (plan : List ToolPlan) → job.zsafe ≤ℤ job.zchange → IsRunnable (program_of job plan)
  unfolding program_of
  program_runs plan high = record {
    high = high;
    cuts = All-map (λ (run : ToolRun). All (IsRunnableCut job.zsafe) run.cuts) (λ t. tool_run job t.0 t.1) (enumerate_from 1 plan) (all_of (λ t. All (IsRunnableCut job.zsafe) (tool_run job t.0 t.1).cuts) (λ t. run_runs t.0 t.1) (enumerate_from 1 plan));
  }
