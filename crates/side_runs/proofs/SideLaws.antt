-- The program of a side is one of those that pass the check.
use Rattle.std.proofs.Common.{◌≡◌, ◌↔◌, ℕ, ◌≤◌, ℤ, pos, ◌*ℤ◌, ◌≤ℤ◌, ◌<ℤ◌, Bool, true, not, List, ◌++◌, map, None, Ok, Option, sym, ap, subst, ◌∙◌, arith}
use Rattle.std.specs.List.{Contains}
use Rattle.std.proofs.lemmas.List.Elements.{All-contains}
use borrow.Author.Differences.{ints}
use Rattle.board_base.specs.declared.places.Cell.{Cell}
use Rattle.board_base.specs.declared.places.Move.{Move}
use Rattle.board_base.specs.Lattice.{centre_of, half_diagonal_of}
use Rattle.cell_sets.specs.Barrier.{IsBarrier}
use Rattle.cell_sets.specs.Contour.{IsAllowed, reach_of}
use Rattle.cell_sets.specs.Passes.{ClearingRows, IsVisitedBy}
use Rattle.cell_sets.proofs.Guards.{passes}
use Rattle.cell_sets.proofs.Sweeps.{scaled_sweep}
use Rattle.chain_walk.specs.Runs.{stepped}
use Rattle.chain_walk.proofs.Traces.{walk_law}
use Rattle.chain_walk.proofs.RowRunLaws.{row_run_law}
use Rattle.chain_walk.proofs.CornerRuns.{corner_law}
use Rattle.cell_sets.proofs.Counts.{numbered_kept}
use Rattle.cell_grid.specs.declared.frames.Frame.{Frame}
use Rattle.shape_parts.specs.declared.shape.Painted.{Painted}
use Rattle.shape_parts.proofs.CoverLaws.{cover_law_holds}
use Rattle.rs274_sim.specs.Cutter.{nanometre, scaled, IsLow}
use Rattle.rs274_sim.specs.Machine.{run_of}
use Rattle.rs274_sim.proofs.FoundLaws.{same_ok}
use Rattle.mill_program.specs.Lines.{lines_of}
use Rattle.mill_program.specs.Moves.{moves_of, unnumbered}
use Rattle.mill_program.specs.Probes.{surface}
use Rattle.mill_program.proofs.RunLaws.{run_moves}
use Rattle.job_file.specs.declared.job.Job.{Job}
use Rattle.mill_plan.specs.declared.cutting.Cutting.{Cutting}
use Rattle.mill_plan.specs.declared.isolation.Isolation.{Isolation}
use Rattle.mill_plan.specs.Job.{IsSideJob}
use Rattle.mill_plan.specs.Cutting.{IsCutting, guard, kept_by, side_cutting, AreClearingRows, IsVisited}
use Rattle.mill_plan.specs.Cuts.{all_of, program_along, AreTraces}
use Rattle.mill_plan.specs.Isolated.{IsIsolationOf, AreJoinedGroups}
use Rattle.mill_plan.specs.Mills.{Mills}
use Rattle.mill_plan.proofs.GuardLaws.{reach_nonneg}
use Rattle.mill_plan.proofs.JobLaws.{IsMilling, milling_is}
use Rattle.mill_plan.proofs.MillsLaws.{mills}
use Rattle.mill_plan.proofs.MoveLaws.{IsOverRun, IsGuarded, moves_guarded, numbered}
use Rattle.mill_plan.proofs.OneFrame.{one_frame, rows_there, one_rows}
use Rattle.mill_plan.proofs.TraceLaws.{traces_all}
use Rattle.program_check.specs.Cutters.{IsCutter}
use Rattle.program_check.specs.Deep.{IsDeepOver}
use Rattle.program_check.specs.Marks.{ArePrinted}
use Rattle.program_check.specs.Own.{IsAlong, Follows}
use Rattle.program_check.proofs.AlongLaws.{along_holds}
use Rattle.program_check.proofs.OwnLaws.{own_holds}
use Rattle.program_check.proofs.PlaneLaws.{flat_holds}
use Rattle.program_check.proofs.RunLaws.{one_value}
use Rattle.program_check.proofs.SoundLaws.{cutter_of}
use Rattle.side_runs.specs.OwnSide.{AreSideTests, SideTestsLaw, IsOwnSide, OwnSideLaw, OwnMovesLaw, OwnCheckLaw}
use Rattle.side_runs.proofs.TestLaws.{near_one, counted_test, allowed_test}
use Rattle.side_runs.proofs.DiagonalLaws.{half_diagonal_is}
use Rattle.side_runs.proofs.FrameLaws.{border_free, outside_free, kept_inside, visited_inside}
use Rattle.side_runs.proofs.NumberLaws.{one_numbering}

-- ---- what is visited parts what is allowed

-- the visited cells by the rows of the side
by_rows : (k : Cutting) (painted : List Painted) (rows : Option ClearingRows) → AreClearingRows k painted rows → (c : Cell) → IsVisited k painted c ↔ IsVisitedBy (guard k) k.last rows (kept_by k painted) c
by_rows k painted rows are c = (
  (λ v. subst (λ (r : Option ClearingRows). IsVisitedBy (guard k) k.last r (kept_by k painted) c) (one_rows k painted v.0 rows v.1 are) v.2),
  (λ v. (rows, are, v)),
)

barrier_of : (k : Cutting) (painted : List Painted) (rows : Option ClearingRows) (allowed visited : Cell → Bool) → IsCutting k → AreClearingRows k painted rows
    → ((c : Cell) → allowed c ≡ true ↔ IsAllowed (kept_by k painted) (guard k 0) c) → ((c : Cell) → visited c ≡ true ↔ IsVisited k painted c) → IsBarrier allowed visited (kept_by k painted)
unfolding guard
barrier_of k painted rows allowed visited ok are allowed_are visited_are =
    passes k.pitch (reach_of k.radius k.tolerance (half_diagonal_of k.pitch)) k.step k.last rows (kept_by k painted) allowed visited (positive k.pitch ok.wide) (reach_nonneg k ok) ok.some_step allowed_are
    (λ c. ((λ e. (by_rows k painted rows are c).0 ((visited_are c).0 e)), (λ v. (visited_are c).1 ((by_rows k painted rows are c).1 v))))
  where
    positive : (p : ℤ) → pos 2000 ≤ℤ p → pos 0 <ℤ p
    positive p h = omega (arith, ints)

-- ---- low moves

-- a move over a run of visited cells leads along them
along_run : (job : Job) (painted : List Painted) (walks : List (List Cell)) (visited : Cell → Bool) (move : Move) → AreTraces (side_cutting job) painted walks
    → ((c : Cell) → visited c ≡ true ↔ IsVisited (side_cutting job) painted c) → IsOverRun job walks move → IsAlong (side_cutting job) (λ c. visited c ≡ true) move
unfolding side_cutting
along_run job painted walks visited move traces are o = record {
  first = o.from;
  east = o.run.east;
  north = o.run.north;
  count = o.run.count;
  unit_east = o.run.unit_east;
  unit_north = o.run.unit_north;
  from = o.starts;
  to = o.stops ∙ ap (λ (c : Cell). scaled (centre_of job.pitch c)) o.run.ends;
  each = λ n early. (are (stepped o.from o.run.east o.run.north n)).1 (traces.each o.walk (stepped o.from o.run.east o.run.north n) o.there (o.run.through n early));
}

-- ---- the side

-- what the moves of a side's program are
pub record AreSideMoves (job : Job) (painted : List Painted) (walks : List (List Cell)) (moves : List Move) : Type 0 where
  pub traces : AreTraces (side_cutting job) painted walks
  pub are : map unnumbered moves ≡ moves_of (program_along job walks)

-- those that a run made
pub side_moves : (job : Job) (painted : List Painted) (plan : Isolation) (moves : List Move) (i : IsIsolationOf job painted plan) → map unnumbered moves ≡ moves_of plan.program
    → AreSideMoves job painted (all_of i.traced.passes ++ i.traced.runs) moves
side_moves job painted plan moves i e =
    let rows = rows_there (side_cutting job) painted plan.frame i.framed in
    record {
      traces = traces_all (side_cutting job) painted i.traced.passes i.traced.runs i.traced.along walk_law row_run_law rows.0 rows.1;
      are = e ∙ ap moves_of i.traced.is;
    }

pub ran : (answers : List ℤ) (plan : Isolation) (moves : List Move) (job : Job) (painted : List Painted) → IsIsolationOf job painted plan → run_of answers (lines_of plan.program) ≡ Ok moves → map unnumbered moves ≡ moves_of plan.program
ran answers plan moves job painted i e =
    let found = run_moves answers plan.program i.program i.runnable in
    subst (λ (ms : List Move). map unnumbered ms ≡ moves_of plan.program) (one_value found.0 moves (run_of answers (lines_of plan.program)) found.1 e) found.2

module _ (job : Job) (painted : List Painted) (plan : Isolation) (ok : IsSideJob job) (i : IsIsolationOf job painted plan) where
  abbrev k : Cutting
  k = side_cutting job

  milling : IsMilling job
  milling = milling_is job ok

  pub cutter : IsCutter k
  cutter = cutter_of k milling.cutting (half_diagonal_is k.pitch milling.cutting.pitch)

  abbrev allowed : Cell → Bool
  allowed c = not (near_one (guard k 0) i.kept.cells c)

  abbrev visited : Cell → Bool
  visited c = near_one (pos 0) i.centres.cells c

  allowed_are : (c : Cell) → allowed c ≡ true ↔ IsAllowed (kept_by k painted) (guard k 0) c
  allowed_are c = allowed_test (kept_by k painted) (guard k 0) i.kept.cells i.kept.all.each c

  visited_are : (c : Cell) → visited c ≡ true ↔ IsVisited k painted c
  visited_are c = counted_test (IsVisited k painted) i.centres.cells i.centres.all.each c

  first : 0 ≤ k.last
  first = omega arith

  tests : AreSideTests k painted plan.frame allowed visited
  tests = record {
    allowed_are = allowed_are;
    visited_are = visited_are;
    barrier = (let rows = rows_there k painted plan.frame i.framed in barrier_of k painted rows.0 allowed visited milling.cutting rows.1 allowed_are visited_are);
    inside = λ c seen. visited_inside k painted plan.frame milling.cutting i.framed c ((visited_are c).0 seen);
    border = λ c border. (allowed_are c).1 (border_free k painted plan.frame milling.cutting i.framed 0 c first border);
    outside = λ c out. (allowed_are c).1 (outside_free k painted plan.frame milling.cutting i.framed 0 c first out);
  }

  module _ (answers : List ℤ) (moves : List Move) (walks : List (List Cell)) (side : AreSideMoves job painted walks moves) where
    follows_visited : (move : Move) → Contains moves move → IsLow (job.zsafe *ℤ nanometre) move → Follows k (λ c. visited c ≡ true) move
    follows_visited move there low =
        let o = All-contains (IsGuarded job walks) (moves_of (program_along job walks)) (unnumbered move) (moves_guarded job walks milling corner_law side.traces.connected)
        (subst (λ (steps : List Move). Contains steps (unnumbered move)) side.are (numbered moves move there)) low in
        along_holds k visited move cutter (along_run job painted walks visited move side.traces visited_are (record { walk = o.walk; there = o.there; from = o.from; to = o.to; run = o.run; starts = o.starts; stops = o.stops }))

    pub milled : Mills job painted moves
    milled = mills job painted walks moves milling (half_diagonal_is job.pitch milling.pitch) cover_law_holds scaled_sweep corner_law side.traces side.are

    pub own_side : IsOwnSide job painted plan answers moves
    unfolding side_cutting
    own_side = record {
      allowed = allowed;
      visited = visited;
      tests = tests;
      own = record {
        allowed_are = tests.allowed_are;
        barrier = tests.barrier;
        inside = tests.inside;
        outside = tests.outside;
        follows = λ move there low q r r_in swept. (
            let f = follows_visited move there low q r r_in swept in
            (f.0, tests.barrier.within f.0 f.1, f.2));
        passes = λ v seen. (
            let p = (milled.visited v).1 ((visited_are v).0 seen) in
            (p.0, p.1, (flat_holds.deep answers job.zwork p.0).1 p.2, p.3));
      };
      along = follows_visited;
    }

pub side_tests_holds : SideTestsLaw
side_tests_holds job painted plan ok i = (allowed job painted plan ok i, visited job painted plan ok i, tests job painted plan ok i)

pub own_side_holds : OwnSideLaw
own_side_holds job painted plan answers moves ok i e =
    own_side job painted plan ok i answers moves (all_of i.traced.passes ++ i.traced.runs) (side_moves job painted plan moves i (ran answers plan moves job painted i e))

pub own_moves_holds : OwnMovesLaw
own_moves_holds job painted plan over moves may seen frame number count printed ok i own framed islands printed_are =
    let k : Cutting = side_cutting job in
    let one : frame ≡ plan.frame = same_ok frame plan.frame (one_frame k painted (Ok frame) (Ok plan.frame) framed i.framed) in
    let inside = kept_inside k painted plan.frame (milling_is job ok).cutting i.framed in
    let same = one_numbering (kept_by k painted) plan.frame inside number i.number count plan.islands islands i.islands in
    own_holds k painted plan.frame job.zsafe over job.zwork moves may seen number printed plan.groups.items (cutter job painted plan ok i) own (numbered_kept (kept_by k painted) number count islands)
    (subst (λ (f : Frame). ArePrinted k f (IsDeepOver over job.zwork) moves number printed) one printed_are)
    (subst (λ (n : Cell → ℕ). AreJoinedGroups k painted n plan.groups.items) (λ t c. sym (same c) t) i.groups)

pub own_check_holds : OwnCheckLaw
own_check_holds job painted plan answers moves frame number count printed ok i e framed islands printed_are =
    let o = own_side_holds job painted plan answers moves ok i e in
    own_moves_holds job painted plan (surface None answers) moves o.allowed o.visited frame number count printed ok i o.own framed islands printed_are
