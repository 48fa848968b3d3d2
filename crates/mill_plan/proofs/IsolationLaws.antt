-- The isolation of a side from what its grid tells and what its cuts go along.
use Rattle.std.proofs.Common.{◌≡◌, ◌↔◌, inl, ℕ, ◌+◌, ℤ, pos, ◌+ℤ◌, ◌-ℤ◌, ◌*ℤ◌, ◌≤ℤ◌, ◌<ℤ◌, unsigned_abs, cond, Bool, true, false, List, [], ◌∷◌, ◌++◌, map, length, Option, Some, None, MatchOption, Result, Ok, Err, refl, sym, ap, subst, ◌∙◌, arith}
use Rattle.std.specs.List.{count_by}
use Rattle.std.specs.Int.{int_div_euclid}
use borrow.Author.Differences.{ints}
use Rattle.number_laws.proofs.Ring.{var, num, add, mul, ring}
use Rattle.number_laws.proofs.Order.{mul_pos, square_nonneg}
use Rattle.number_laws.proofs.Quotients.{rounded_high}
use Rattle.board_base.specs.declared.places.Bounds.{Bounds}
use Rattle.board_base.specs.declared.places.Cell.{Cell}
use Rattle.board_base.specs.declared.places.CellBox.{CellBox}
use Rattle.board_base.specs.declared.places.Move.{Move}
use Rattle.board_base.specs.Lattice.{IsInBox, IsHalfDiagonal, centre_of, half_diagonal_of}
use Rattle.board_base.specs.Places.{IsPlace}
use Rattle.cell_sets.specs.Contour.{IsAllowed, IsContour, reach_of}
use Rattle.cell_sets.specs.Cleared.{stride_of}
use Rattle.cell_sets.specs.Islands.{AreMoreIslands}
use Rattle.cell_sets.specs.Passes.{ClearingRows, IsVisitedBy, RowsClear}
use Rattle.cell_sets.specs.Sweep.{IsSwept, IsUnswept}
use Rattle.cell_sets.specs.Reached.{ScaledSweep}
use Rattle.cell_sets.specs.Count.{IsCount}
use Rattle.cell_sets.proofs.Links.{linked_over}
use Rattle.cell_grid.specs.declared.frames.Frame.{Frame}
use Rattle.cell_grid.specs.Boxes.{HoldsCentres}
use Rattle.cell_grid.specs.Place.{cells_of}
use Rattle.cell_grid.specs.Cells.{in_plane, is_above}
use Rattle.cell_grid.specs.Grid.{Grid}
use Rattle.cell_grid.proofs.ListLaws.{count_of}
use Rattle.chain_walk.specs.Runs.{WalkLaw, CornerLaw}
use Rattle.chain_walk.specs.RowRuns.{RowRunLaw}
use Rattle.copper_cover.specs.Kept.{dark_rectangle}
use Rattle.shape_parts.specs.declared.shape.Painted.{Painted}
use Rattle.shape_parts.specs.Cover.{CoverLaw}
use Rattle.rs274_sim.specs.Runs.{RunsTo}
use Rattle.mill_program.specs.declared.cuts.Corner.{Corner}
use Rattle.mill_program.specs.declared.cuts.Program.{Program}
use Rattle.mill_program.specs.Lines.{lines_of}
use Rattle.mill_program.specs.RunLaw.{RunLaw}
use Rattle.mill_program.specs.Conditions.{IsProgram, IsRunnable}
use Rattle.job_file.specs.declared.job.Job.{Job}
use Rattle.job_file.specs.Checks.{radius_of}
use Rattle.mill_plan.specs.declared.cutting.Cutting.{Cutting}
use Rattle.mill_plan.specs.declared.raster.Raster.{Raster}
use Rattle.mill_plan.specs.declared.isolation.Isolation.{Isolation}
use Rattle.mill_plan.specs.declared.limits.LimitHit.{LimitHit}
use Rattle.mill_plan.specs.declared.limits.PlanError.{PlanError}
use Rattle.mill_plan.specs.declared.limits.LimitHit.TheVariants as limits
use Rattle.mill_plan.specs.Job.{IsSideJob}
use Rattle.mill_plan.specs.Cutting.{IsCutting, guard, kept_by, sweep_of, side_cutting, AreClearingRows, IsVisited}
use Rattle.mill_plan.specs.Frame.{IsFrameOf, HitsLimit}
use Rattle.mill_plan.specs.Isolated.{PartsOthers, ClearsBox, IsIsolationOf}
use Rattle.mill_plan.specs.Mills.{Mills, IsWhollySwept, IsProgramOf}
use Rattle.mill_plan.specs.Raster.{PartsSwept, IsRasterOf}
use Rattle.mill_plan.specs.Cuts.{all_of, trace_of, run_along, program_along}
use Rattle.mill_plan.specs.Passes.{IsBegun, AreSideCuts, program_of}
use Rattle.mill_plan.proofs.FrameLaws.{frame_places}
use Rattle.mill_plan.proofs.OneFrame.{rows_there}
use Rattle.mill_plan.proofs.GuardLaws.{guard_size}
use Rattle.mill_plan.proofs.JobLaws.{IsMilling, milling_is}
use Rattle.mill_plan.proofs.MeasureLaws.{above_is, plane_inside}
use Rattle.mill_plan.proofs.ProgramLaws.{traced_fits, traced_valid, traced_runs}
use Rattle.mill_plan.proofs.MillsLaws.{runs}
use Rattle.mill_plan.proofs.RasterLaws.{count_same}
use Rattle.mill_plan.proofs.SideLaws.{same_test}
use Rattle.mill_plan.proofs.SweptLaws.{quotient_size}
use Rattle.mill_plan.proofs.TraceLaws.{traces_all, placed}

-- the error of an answer
pub error_in : {T : Type 0} (e x : PlanError) → ◌≡◌ {A = Result T PlanError} (Err e) (Err x) → e ≡ x
error_in e x h = cc

-- too many islands are a limit that the side hits
pub islands_hit : (k : Cutting) (painted : List Painted) (b : Grid) (hit : LimitHit) → IsFrameOf k painted (Ok b.frame) → ((c : Cell) → in_plane b.frame b.kept c ≡ kept_by k painted c)
    → hit ≡ limits.Islands → AreMoreIslands 65535 (in_plane b.frame b.kept) → HitsLimit k painted hit
islands_hit k painted b hit framed kept is many =
    subst (HitsLimit k painted) (sym is) (record { frame = b.frame; framed = framed; many = subst (AreMoreIslands 65535) (same_test (in_plane b.frame b.kept) (kept_by k painted) kept) many })

-- ---- what stays joined

-- islands that cells not wholly swept join are listed, where those that unswept cells join are
parts : (job : Job) (painted : List Painted) (number : Cell → ℕ) (groups : List (List ℕ)) (moves : List Move) → ((c : Cell) → IsContour (kept_by (side_cutting job) painted) (guard (side_cutting job) 0) c → IsVisited (side_cutting job) painted c)
    → PartsSwept (side_cutting job) painted number groups → Mills job painted moves → PartsOthers (side_cutting job) job.zwork number groups moves
parts job painted number groups moves first swept m u v u_in v_in apart (a, b, (a_is, b_is, linked)) =
    swept u v u_in v_in apart (
      a,
      b,
      (
        a_is,
        b_is,
        linked_over (λ c. IsWhollySwept (side_cutting job) job.zwork moves c → ⊥) (IsUnswept (sweep_of (side_cutting job)) (IsContour (kept_by (side_cutting job) painted) (guard (side_cutting job) 0)))
            (λ c not_whole s. not_whole (m.swept c (record { from = s.from; member = first s.from s.member; within = s.within }))) a b linked,
      ),
    )

run_parts : (job : Job) (painted : List Painted) (number : Cell → ℕ) (groups : List (List ℕ)) (program : Program) → ((c : Cell) → IsContour (kept_by (side_cutting job) painted) (guard (side_cutting job) 0) c → IsVisited (side_cutting job) painted c)
    → PartsSwept (side_cutting job) painted number groups → RunsTo (lines_of program) (Mills job painted) → RunsTo (lines_of program) (PartsOthers (side_cutting job) job.zwork number groups)
unfolding RunsTo
run_parts job painted number groups program first swept runs answers =
    let found = runs answers in
    (found.0, found.1, parts job painted number groups found.0 first swept found.2)

-- ---- what is cleared

positive : (p : ℤ) → pos 2000 ≤ℤ p → pos 0 <ℤ p
positive p h = omega (arith, ints)

-- the cells that a centre sweeps are all that the radius less half a diagonal reaches
sweep_high : (k : Cutting) → IsCutting k → ((k.radius -ℤ half_diagonal_of k.pitch) *ℤ (k.radius -ℤ half_diagonal_of k.pitch)) <ℤ (pos (sweep_of k + 1) *ℤ (k.pitch *ℤ k.pitch))
unfolding sweep_of
sweep_high k ok =
    let x : ℤ = k.radius -ℤ half_diagonal_of k.pitch in
    let d : ℤ = k.pitch *ℤ k.pitch in
    let wide : pos 0 <ℤ d = mul_pos k.pitch k.pitch (positive k.pitch ok.wide) (positive k.pitch ok.wide) in
    let q : ℤ = int_div_euclid (x *ℤ x) d in
    subst (λ z. (x *ℤ x) <ℤ z) (ap (λ z. d *ℤ z +ℤ d) (quotient_size d (x *ℤ x) wide (square_nonneg x)) ∙ next d (pos (unsigned_abs q)) ∙ ap (λ z. z *ℤ d) (more (unsigned_abs q))) (rounded_high (x *ℤ x) d q wide refl)
  where
    next : (d q : ℤ) → d *ℤ q +ℤ d ≡ (q +ℤ pos 1) *ℤ d
    next d q = ring (d ∷ q ∷ []) (add (mul (var 0) (var 1)) (var 0)) (mul (add (var 1) (num (pos 1))) (var 0)) refl

    more : (n : ℕ) → pos n +ℤ pos 1 ≡ pos (n + 1)
    more n = omega (arith, ints)

-- the stride where rows are cleared
stride_given : (clear : Bool) (n : ℕ) (p h : ℤ) (box : Option Bounds) (rows : ClearingRows)
    → MatchOption (cond clear (Some n) None) (Some rows ≡ None) (λ m. MatchOption box (Some rows ≡ None) (λ b. (inner : CellBox) × HoldsCentres p h b inner × (Some rows ≡ Some (record { inner = inner; stride = m })))) → rows.stride ≡ n
stride_given false n p h box rows a = absurd (apart rows a)
  where
    apart : (r : ClearingRows) → ◌≡◌ {A = Option ClearingRows} (Some r) None → ⊥
    apart r e = cc
stride_given true n p h None rows a = absurd (apart rows a)
  where
    apart : (r : ClearingRows) → ◌≡◌ {A = Option ClearingRows} (Some r) None → ⊥
    apart r e = cc
stride_given true n p h (Some b) rows (inner, holds, e) = ap (λ (r : ClearingRows). r.stride) (given rows (record { inner = inner; stride = n }) e)
  where
    given : (x y : ClearingRows) → ◌≡◌ {A = Option ClearingRows} (Some x) (Some y) → x ≡ y
    given x y e = cc

stride_is : (job : Job) (painted : List Painted) (rows : ClearingRows) → AreClearingRows (side_cutting job) painted (Some rows) → rows.stride ≡ stride_of job.pitch (half_diagonal_of job.pitch) (radius_of job.mill_diameters) job.milling_overlap
unfolding side_cutting
stride_is job painted rows are = stride_given job.clear (stride_of job.pitch (half_diagonal_of job.pitch) (radius_of job.mill_diameters) job.milling_overlap) job.pitch (half_diagonal_of job.pitch) (dark_rectangle painted) rows are

-- where the rows stand by the stride of the cutter, the visited cells clear the box
cleared_by : (k : Cutting) (painted : List Painted) (g : Grid) (overlap : ℕ) (rows : ClearingRows) → IsCutting k → RowsClear → IsBegun k painted g → AreClearingRows k painted (Some rows) → rows.stride ≡ stride_of k.pitch (half_diagonal_of k.pitch) k.radius overlap
    → (c : Cell) → IsInBox rows.inner c → IsSwept (sweep_of k) (IsAllowed (kept_by k painted) (guard k 0)) c → IsSwept (sweep_of k) (IsVisited k painted) c
unfolding guard
cleared_by k painted g overlap rows ok law begun are stride c inside s =
    let n : ℕ = unsigned_abs (guard k 0) in
    let above : (d : Cell) → is_above g.frame g.clearances n d ≡ true ↔ IsAllowed (kept_by k painted) (guard k 0) d =
    subst (λ (t : Cell → Bool). (d : Cell) → is_above g.frame g.clearances n d ≡ true ↔ IsAllowed t (guard k 0) d) (same_test (in_plane g.frame g.kept) (kept_by k painted) begun.side.kept)
    (above_is k g ok begun.side.spacious begun.side.measured 0 n (omega arith) (sym (guard_size k 0 ok))) in
    let found = law k.pitch (half_diagonal_of k.pitch) k.radius (reach_of k.radius k.tolerance (half_diagonal_of k.pitch)) k.step overlap (sweep_of k) k.last rows.inner (kept_by k painted) (is_above g.frame g.clearances n) (positive k.pitch ok.wide) ok.fine (sweep_high k ok) above c inside s in
    let same : ◌≡◌ {A = ClearingRows} (record { inner = rows.inner; stride = stride_of k.pitch (half_diagonal_of k.pitch) k.radius overlap }) rows = λ i. record { inner = rows.inner; stride = sym stride i } in
    record { from = found.from; member = (Some rows, are, subst (λ (r : ClearingRows). IsVisitedBy (guard k) k.last (Some r) (kept_by k painted) found.from) same found.member); within = found.within }

side_stride : (job : Job) (rows : ClearingRows) → rows.stride ≡ stride_of job.pitch (half_diagonal_of job.pitch) (radius_of job.mill_diameters) job.milling_overlap
    → rows.stride ≡ stride_of (side_cutting job).pitch (half_diagonal_of (side_cutting job).pitch) (side_cutting job).radius job.milling_overlap
unfolding side_cutting
side_stride job rows e = e

clears_box : (job : Job) (painted : List Painted) (g : Grid) → IsCutting (side_cutting job) → RowsClear → IsBegun (side_cutting job) painted g → ClearsBox (side_cutting job) painted
clears_box job painted g ok law begun rows are c inside s = cleared_by (side_cutting job) painted g job.milling_overlap rows ok law begun are (side_stride job rows (stride_is job painted rows are)) c inside s

-- ---- all of it

visited_place : (job : Job) (painted : List Painted) (f : Frame) (visited : List Bool) → IsCutting (side_cutting job) → IsFrameOf (side_cutting job) painted (Ok f) → (c : Cell) → in_plane f visited c ≡ true → IsPlace (centre_of job.pitch c)
unfolding side_cutting
visited_place job painted f visited ok framed c on = frame_places (side_cutting job) painted f ok framed c (plane_inside f visited c on)

along_is : (job : Job) (walks : List (List Cell)) (cuts : List (List Corner)) (program : Program) → cuts ≡ map (trace_of job) walks → program ≡ program_of job cuts → program ≡ program_along job walks
unfolding program_along run_along
along_is job walks cuts program cuts_are is = is ∙ ap (program_of job) cuts_are

pub isolation_is : (job : Job) (painted : List Painted) (raster : Raster) (b0 b1 : Grid) (cuts : List (List Corner)) (plan : Isolation) → IsSideJob job → IsHalfDiagonal job.pitch (half_diagonal_of job.pitch)
    → CoverLaw → ScaledSweep → RowsClear → RunLaw → WalkLaw → RowRunLaw → CornerLaw
    → IsRasterOf (side_cutting job) painted raster → IsBegun (side_cutting job) painted b0 → b1.frame ≡ b0.frame → AreSideCuts (side_cutting job) job painted cuts plan.chains
    → ((c : Cell) → in_plane b1.frame b1.visited c ≡ true ↔ IsVisited (side_cutting job) painted c) → length b1.visited ≡ cells_of b1.frame
    → plan.frame ≡ b1.frame → plan.kept ≡ raster.kept → plan.islands ≡ raster.islands → plan.groups ≡ raster.groups → plan.centres ≡ count_by (λ on. on) b1.visited → plan.program ≡ program_of job cuts
    → IsIsolationOf job painted plan
isolation_is job painted raster b0 b1 cuts plan side diagonal cover sweep clear run walk row_run corner r begun frame_same s visited sized frame kept islands groups centres program =
    let k : Cutting = side_cutting job in
    let ok : IsMilling job = milling_is job side in
    let framed : IsFrameOf k painted (Ok b1.frame) = subst (λ (f : Frame). IsFrameOf k painted (Ok f)) (sym frame_same) begun.side.framed in
    let rows = rows_there k painted b1.frame framed in
    let walks : List (List Cell) = all_of s.passes ++ s.runs in
    let traced = traces_all k painted s.passes s.runs s.along walk row_run rows.0 rows.1 in
    let is : plan.program ≡ program_along job walks = along_is job walks cuts plan.program s.cuts_are program in
    let valid = traced_valid job walks ok (placed job k painted walks traced (λ c v. visited_place job painted b1.frame b1.visited ok.cutting framed c ((visited c).1 v))) in
    let runnable = traced_runs job walks ok in
    let mills = runs job painted walks ok diagonal cover sweep corner run valid runnable traced in
    let counted : IsCount (λ c. in_plane b1.frame b1.visited c ≡ true) plan.centres = count_of b1.frame b1.visited plan.centres sized centres in
    record {
      framed = subst (λ (f : Frame). IsFrameOf k painted (Ok f)) (sym frame) framed;
      kept = rw kept r.kept;
      number = r.number;
      islands = rw islands r.islands;
      few = rw islands r.few;
      centres = count_same plan.centres (λ c. in_plane b1.frame b1.visited c ≡ true) (IsVisited k painted) visited counted;
      groups = rw groups r.groups;
      lists = rw groups r.lists;
      clears = clears_box job painted b0 ok.cutting clear begun;
      words = subst (IsProgramOf job) (sym is) (traced_fits job walks);
      traced = record { passes = s.passes; runs = s.runs; along = s.along; is = is; size = s.size };
      program = subst IsProgram (sym is) valid;
      runnable = subst IsRunnable (sym is) runnable;
      mills = subst (λ p. RunsTo (lines_of p) (Mills job painted)) (sym is) mills;
      parts = rw groups (subst (λ p. RunsTo (lines_of p) (PartsOthers k job.zwork r.number raster.groups.items)) (sym is)
          (run_parts job painted r.number raster.groups.items (program_along job walks) (λ c h. (rows.0, rows.1, inl (0, (omega arith, h)))) r.parts mills));
    }
