-- The plan that cuts a board out.
use Rattle.std.proofs.Common.{◌≡◌, ℕ, ◌<◌, ℤ, pos, neg_ℤ, ◌*ℤ◌, ◌≤ℤ◌, ◌<ℤ◌, Bool, true, false, ◌&&◌, ◌||◌, List, map, length, Ok, refl, sym, subst, arith}
use Rattle.std.specs.List.{All, Contains}
use Rattle.std.proofs.lemmas.List.{length-map}
use Rattle.std.proofs.lemmas.List.Elements.{All-map, All-contains}
use borrow.Author.Differences.{ints}
use Rattle.board_base.specs.declared.places.Cell.{Cell}
use Rattle.board_base.specs.declared.places.Point.{Point}
use Rattle.board_base.specs.declared.places.Move.{Move}
use Rattle.board_base.specs.Lattice.{IsHalfDiagonal, IsBeside, centre_of, half_diagonal_of}
use Rattle.board_base.specs.Near.{near_of}
use Rattle.board_base.specs.Places.{IsPlace, IsCoordinate}
use Rattle.poly_area.specs.Area.{area_holds}
use Rattle.shape_parts.specs.declared.shape.Painted.{Painted}
use Rattle.shape_parts.specs.Cover.{is_dark, CoverLaw}
use Rattle.cell_sets.specs.Contour.{IsAllowed, IsContour}
use Rattle.chain_walk.specs.Runs.{WalkLaw}
use Rattle.rs274_sim.specs.Runs.{RunsTo}
use Rattle.mill_program.specs.declared.cuts.Corner.{Corner}
use Rattle.mill_program.specs.declared.cuts.Program.{Program}
use Rattle.mill_program.specs.Conditions.{IsCorner, IsCut, IsFeed, IsToolRun, IsProgram, IsRunnableCut, IsRunnable}
use Rattle.mill_program.specs.Lines.{lines_of}
use Rattle.mill_program.specs.Moves.{moves_of, unnumbered}
use Rattle.mill_program.specs.RunLaw.{RunLaw}
use Rattle.mill_program.specs.Strokes.{StrokeLaw}
use Rattle.outline_bridges.specs.Chains.{IsChain, centres_of}
use Rattle.outline_bridges.specs.Corners.{corner_at}
use Rattle.outline_bridges.specs.CutLaw.{IsClear, CutLaw}
use Rattle.outline_bridges.specs.OverLaw.{OverLaw}
use Rattle.job_file.specs.declared.job.Job.{Job}
use Rattle.job_file.specs.Checks.{radius_of}
use Rattle.job_file.specs.Ranges.{IsFeed as IsJobFeed}
use Rattle.mill_plan.specs.Cutting.{guard, kept_by}
use Rattle.mill_plan.specs.Frame.{IsFrameOf}
use Rattle.mill_plan.specs.Cuts.{ArePassWalks}
use Rattle.mill_plan.proofs.ProgramLaws.{one, all_in, AreTracesOf, traces}
use Rattle.outline_plan.specs.declared.plan.OutlineCut.{OutlineCut}
use Rattle.outline_plan.specs.Job.{IsOutlineJob, outline_cutting, levels_count, level_at, bridge_width, listed_bridges}
use Rattle.outline_plan.specs.Cuts.{cut_at, outline_cuts, outline_run, outline_program}
use Rattle.outline_plan.specs.CutOut.{board_of, Outlines, CutsOut}
use Rattle.outline_plan.specs.Made.{IsBoardOf}
use Rattle.outline_plan.proofs.ClearLaws.{run_clear}
use Rattle.outline_plan.proofs.CutLaws.{cut_all, cut_steps, cut_some}
use Rattle.outline_plan.proofs.JobLaws.{IsDepth, depth_coordinate, bridges_deep, level_deep, outline_is, outline_bite, bridge_even}
use Rattle.outline_plan.proofs.OverLaws.{step_cut}
use Rattle.outline_plan.proofs.StepLaws.{step_off}
use Rattle.outline_plan.proofs.WalkLaws.{walk_clear, all_cuts}

-- the program of an outline along walks
abbrev pub program_along : Job → List Point → List (List Cell) → Program
program_along job bridges walks = outline_program job (outline_cuts job bridges walks)

-- ---- the program

module _ (job : Job) (ok : IsOutlineJob job) (bridges : List Point) (walks : List (List Cell)) (chains : All (IsChain job.pitch) walks) where
  chain_in : (w : List Cell) → Contains walks w → IsChain job.pitch w
  chain_in w m = All-contains (IsChain job.pitch) walks w chains m

  centres_in : (w : List Cell) → Contains walks w → All IsPlace (centres_of job.pitch w)
  centres_in w m = All-map IsPlace (centre_of job.pitch) w (chain_in w m).places

  -- what holds of all places at all depths holds of the corners of each cut
  corners_in : (P : Corner → Type 0) → ((p : Point) (z : ℤ) → IsPlace p → IsDepth z → P (corner_at p z)) → (w : List Cell) (k : ℕ) → Contains walks w → All P (cut_at job bridges w (level_at job k))
  corners_in P at w k m =
      cut_all P IsPlace IsDepth at (record { level = level_at job k; lifted = job.zbridges; d = bridge_width job }) bridges (bridges_deep job ok) (level_deep job k ok) (centres_of job.pitch w) (centres_in w m)

  some_corner : (w : List Cell) (k : ℕ) → Contains walks w → 0 < length (cut_at job bridges w (level_at job k))
  some_corner w k m =
      cut_some (record { level = level_at job k; lifted = job.zbridges; d = bridge_width job }) bridges (centres_of job.pitch w)
      (let s = (chain_in w m).some in let n : length (centres_of job.pitch w) ≡ length w = length-map w (centre_of job.pitch) in omega (arith, s, n))

  cut_in : (w : List Cell) (k : ℕ) → Contains walks w → IsCut (cut_at job bridges w (level_at job k))
  cut_in w k m = record { some = some_corner w k m; corners = corners_in IsCorner (λ p z place deep. record { x_in = place.x; y_in = place.y; z_in = depth_coordinate z deep }) w k m }

  below_safe : (z : ℤ) → IsDepth z → z <ℤ job.zsafe
  below_safe z deep = by z job.zsafe deep.high ok.ranges.zsafe.low
    where
      by : (z s : ℤ) → z ≤ℤ neg_ℤ (pos 1000) → (pos 100 *ℤ pos 1000) ≤ℤ s → z <ℤ s
      by z s h k = omega (arith, ints)

  cut_runs : (w : List Cell) (k : ℕ) → Contains walks w → IsRunnableCut job.zsafe (cut_at job bridges w (level_at job k))
  cut_runs w k m = record { below = corners_in (λ c. c.z <ℤ job.zsafe) (λ p z place deep. below_safe z deep) w k m; steps = cut_steps _ }

  feed_in : (f : ℤ) → IsJobFeed f → IsFeed f
  feed_in f l = record { low = low f l.low; high = high f l.high }
    where
      low : (f : ℤ) → pos 1000 ≤ℤ f → pos 1 ≤ℤ f
      low f h = omega (arith, ints)

      high : (f : ℤ) → f ≤ℤ pos 6000000 → f ≤ℤ pos 100000000
      high f h = omega (arith, ints)

  height_in : (z : ℤ) → (pos 100 *ℤ pos 1000) ≤ℤ z → z ≤ℤ (pos 100000 *ℤ pos 1000) → IsCoordinate z
  height_in z h k = record { low = low z h; high = high z k }
    where
      low : (z : ℤ) → (pos 100 *ℤ pos 1000) ≤ℤ z → neg_ℤ (pos 500000000) ≤ℤ z
      low z h = omega (arith, ints)

      high : (z : ℤ) → z ≤ℤ (pos 100000 *ℤ pos 1000) → z ≤ℤ pos 500000000
      high z h = omega (arith, ints)

  safe_high : (z : ℤ) → z ≤ℤ (pos 50000 *ℤ pos 1000) → z ≤ℤ (pos 100000 *ℤ pos 1000)
  safe_high z h = omega (arith, ints)

  valid : IsProgram (program_along job bridges walks)
  valid = record {
    safe = height_in job.zsafe ok.ranges.zsafe.low (safe_high job.zsafe ok.ranges.zsafe.high);
    change = height_in job.zchange ok.ranges.zchange.low ok.ranges.zchange.high;
    runs = one IsToolRun (outline_run job (outline_cuts job bridges walks))
        (record {
          tool = omega arith;
          speed = ok.ranges.cut_speed.high;
          feed = feed_in job.cut_feed ok.ranges.cut_feed;
          plunge = feed_in job.cut_vertfeed ok.ranges.cut_vertfeed;
          cuts = all_cuts job bridges IsCut walks (λ w k m. cut_in w k m);
        });
    grid = refl;
  }

  runs : IsRunnable (program_along job bridges walks)
  runs = record {
    high = ok.together.change;
    cuts = one (λ run. All (IsRunnableCut job.zsafe) run.cuts) (outline_run job (outline_cuts job bridges walks)) (all_cuts job bridges (IsRunnableCut job.zsafe) walks (λ w k m. cut_runs w k m));
  }

-- ---- its run

board_dark : (q : Point) (loops : List (List Point)) → area_holds q loops ≡ true → is_dark q (board_of loops) ≡ true
board_dark q loops e = by (area_holds q loops) e
  where
    by : (t : Bool) → t ≡ true → (((t && true) || false) && true || false) ≡ true
    by true e = refl
    by false e = absurd (cc)

bridges_low : (job : Job) → IsOutlineJob job → job.zbridges ≤ℤ job.zsafe
bridges_low job ok = by job.zbridges job.zsafe ok.ranges.zbridges.high ok.ranges.zsafe.low
  where
    by : (z s : ℤ) → z ≤ℤ neg_ℤ (pos 1000) → (pos 100 *ℤ pos 1000) ≤ℤ s → z ≤ℤ s
    by z s h k = omega (arith, ints)

module _ (job : Job) (ok : IsOutlineJob job) (diagonal : IsHalfDiagonal job.pitch (half_diagonal_of job.pitch)) (cover : CoverLaw) (cut : CutLaw) (over : OverLaw) (loops : List (List Point)) (bridges : List Point) (walks : List (List Cell))
    (t : AreTracesOf (IsContour (kept_by (outline_cutting job) (board_of loops)) (guard (outline_cutting job) 0)) walks) where
  abbrev Allowed : Cell → Type 0
  Allowed c = IsAllowed (kept_by (outline_cutting job) (board_of loops)) (guard (outline_cutting job) 0) c

  same : (z : ℤ) → z ≤ℤ z
  same z = omega (arith, ints)

  all_run : (q : Point) (d h : ℤ) → ((w : List Cell) (k : ℕ) → Contains walks w → IsClear q d h (cut_at job bridges w (level_at job k))) → All (λ run. All (IsClear q d h) run.cuts) (program_along job bridges walks).runs
  all_run q d h each = one (λ run. All (IsClear q d h) run.cuts) (outline_run job (outline_cuts job bridges walks)) (all_cuts job bridges (IsClear q d h) walks each)

  off_board : (q : Point) → area_holds q loops ≡ true → (a b : Cell) → Allowed a → Allowed b → IsBeside a b → near_of q (centre_of job.pitch a) (centre_of job.pitch b) (pos 2 *ℤ radius_of job.cutter_diameter) ≡ true → ⊥
  unfolding outline_cutting
  off_board q holds a b pa pb beside near =
      step_off (outline_cutting job) (board_of loops) a b q (outline_is job ok) diagonal cover pa pb beside (board_dark q loops holds)
      (subst (λ r. near_of q (centre_of job.pitch a) (centre_of job.pitch b) (pos 2 *ℤ r) ≡ true) (sym (outline_bite job)) near)

  clear_board : (q : Point) → area_holds q loops ≡ true → (w : List Cell) (k : ℕ) → Contains walks w → IsClear q (pos 2 *ℤ radius_of job.cutter_diameter) job.zsafe (cut_at job bridges w (level_at job k))
  clear_board q holds w k m =
      walk_clear job.pitch Allowed q (pos 2 *ℤ radius_of job.cutter_diameter) (off_board q holds) (record { level = level_at job k; lifted = job.zbridges; d = bridge_width job }) bridges cut job.zsafe w (t.connected w m)
      (all_in Allowed w (λ c inside. (t.each w c m inside).0))

  clear_bridge : (q : Point) → Contains bridges q → (w : List Cell) (k : ℕ) → Contains walks w → IsClear q (pos 2 *ℤ radius_of (bridge_width job)) job.zbridges (cut_at job bridges w (level_at job k))
  clear_bridge q there w k m =
      subst (λ d. IsClear q d job.zbridges (cut_at job bridges w (level_at job k))) (sym (bridge_even job ok))
      (cut.stands (record { level = level_at job k; lifted = job.zbridges; d = bridge_width job }) bridges job.pitch w q there)

  run_outlines : StrokeLaw → All (IsChain job.pitch) walks → (moves : List Move) → map unnumbered moves ≡ moves_of (program_along job bridges walks) → Outlines job loops bridges walks (program_along job bridges walks) moves
  run_outlines stroke chains moves e = record {
    no_bite = run_clear (program_along job bridges walks) (λ q. area_holds q loops ≡ true) (radius_of job.cutter_diameter) job.zsafe moves (same job.zsafe) ok.together.change
        (λ q holds. all_run q (pos 2 *ℤ radius_of job.cutter_diameter) job.zsafe (clear_board q holds)) e;
    stands = run_clear (program_along job bridges walks) (Contains bridges) (radius_of (bridge_width job)) job.zbridges moves (bridges_low job ok) ok.together.change
        (λ q there. all_run q (pos 2 *ℤ radius_of (bridge_width job)) job.zbridges (clear_bridge q there)) e;
    steps = λ w k s there l on. step_cut job bridges walks moves w k s e there l (over (record { level = level_at job k; lifted = job.zbridges; d = bridge_width job }) bridges job.pitch w s on);
    cuts = stroke (program_along job bridges walks) moves (valid job ok bridges walks chains) (runs job ok bridges walks chains) e;
  }

  runs_outlines : RunLaw → StrokeLaw → All (IsChain job.pitch) walks → RunsTo (lines_of (program_along job bridges walks)) (Outlines job loops bridges walks (program_along job bridges walks))
  unfolding RunsTo
  runs_outlines law stroke chains answers =
      let found = law answers (program_along job bridges walks) (valid job ok bridges walks chains) (runs job ok bridges walks chains) in
      (found.0, found.1, run_outlines stroke chains found.0 found.2)

-- ---- the plan

module _ (job : Job) (painted board : List Painted) (walks : List (List Cell)) (plan : OutlineCut) (ok : IsOutlineJob job) (diagonal : IsHalfDiagonal job.pitch (half_diagonal_of job.pitch)) (cover : CoverLaw) (walk : WalkLaw) (cut : CutLaw) (over : OverLaw) (run : RunLaw) (stroke : StrokeLaw) where
  pub cut_out_is : IsBoardOf painted board → IsFrameOf (outline_cutting job) board (Ok plan.frame) → ArePassWalks (outline_cutting job) board 0 walks → All (IsChain job.pitch) walks
      → plan.chains ≡ length walks → plan.passes ≡ levels_count job → (plan.bridges).items ≡ listed_bridges job walks → plan.program ≡ program_along job (plan.bridges).items walks → CutsOut job painted plan
  cut_out_is made framed are chains count levels listed words =
      let is_walks : ArePassWalks (outline_cutting job) (board_of made.loops) 0 walks = subst (λ (b : List Painted). ArePassWalks (outline_cutting job) b 0 walks) made.is are in
      let t = traces (outline_cutting job) (board_of made.loops) 0 is_walks.rows walks is_walks.contour is_walks.ordered walk in
      let bridges : List Point = (plan.bridges).items in
      record {
        loops = made.loops;
        board = made.closed;
        framed = subst (λ (b : List Painted). IsFrameOf (outline_cutting job) b (Ok plan.frame)) made.is framed;
        walks = walks;
        are = is_walks;
        count = count;
        levels = levels;
        listed = listed;
        words = words;
        valid = subst IsProgram (sym words) (valid job ok bridges walks chains);
        runnable = subst IsRunnable (sym words) (runs job ok bridges walks chains);
        outlines = subst (λ (p : Program). RunsTo (lines_of p) (Outlines job made.loops bridges walks p)) (sym words) (runs_outlines job ok diagonal cover cut over made.loops bridges walks t run stroke chains);
      }
