-- Each tile's stretch of a side's program mills the board.
use Rattle.std.proofs.Common.{◌≡◌, ℕ, ◌<◌, ℤ, pos, ◌*ℤ◌, true, List, ◌++◌, map, length, ap, subst, ◌∙◌, arith}
use Rattle.std.proofs.lemmas.List.{append-nil, length-map}
use Rattle.board_base.specs.declared.places.Cell.{Cell}
use Rattle.board_base.specs.declared.places.Point.{Point}
use Rattle.board_base.specs.declared.places.Move.{Move}
use Rattle.cell_sets.proofs.Barriers.{refl_le}
use Rattle.cell_sets.proofs.Links.{linked_over}
use Rattle.shape_parts.specs.declared.shape.Painted.{Painted}
use Rattle.shape_parts.specs.Cover.{is_dark}
use Rattle.rs274_sim.specs.Cutter.{nanometre, IsDeep, IsPassed, Sweeps}
use Rattle.rs274_sim.specs.Machine.{run_of}
use Rattle.rs274_sim.specs.Runs.{RunsTo}
use Rattle.mill_program.specs.declared.cuts.Program.{Program}
use Rattle.mill_program.specs.Lines.{lines_of}
use Rattle.mill_program.specs.Strokes.{Wanted, CutsExactly, wanted_cut, wanted}
use Rattle.mill_program.proofs.RunLaws.{run_moves}
use Rattle.mill_program.proofs.StrokeLaws.{stroke_law}
use Rattle.tiling.specs.Alike.{CutAlike, CutsAlikeLaw, HaveLowOf, LowAlikeLaw, StretchLaw}
use Rattle.tiling.specs.Copies.{Tile, shift_in}
use Rattle.tiling.proofs.RunsLaws.{no_bite_alike, runs_in_tiles}
use Rattle.job_file.specs.declared.job.Job.{Job}
use Rattle.mill_plan.specs.declared.isolation.Isolation.{Isolation}
use Rattle.mill_plan.specs.Cutting.{bite_of, side_cutting}
use Rattle.mill_plan.specs.Cuts.{all_of, trace_of, run_along, program_along}
use Rattle.mill_plan.specs.Isolated.{PartsOthers, IsIsolationOf}
use Rattle.mill_plan.specs.Mills.{Mills, IsWhollySwept}
use Rattle.mill_plan.proofs.JobLaws.{IsMilling, milling_is}
use Rattle.program_check.proofs.RunLaws.{one_value}
use Rattle.side_runs.specs.SideStrokes.{wanted_walk}
use Rattle.side_runs.specs.TileStretches.{MillsBoard, TileStretchesLaw}
use Rattle.side_runs.proofs.RunLaws.{cuts_wanted}
use Rattle.side_runs.proofs.TileLaws.{deep_low}

-- ---- what passes to moves whose low ones are the same

module _ (job : Job) (painted : List Painted) (ok : IsMilling job) where
  -- what the deep moves of the one pass the others pass
  passed_alike : (a b : List Move) (q : Point) (r : ℤ) → HaveLowOf (job.zsafe *ℤ nanometre) a b → IsPassed (job.zwork *ℤ nanometre) a q r → IsPassed (job.zwork *ℤ nanometre) b q r
  passed_alike a b q r have p =
      let n = have p.0 p.1 (deep_low job.zwork job.zsafe p.0 ok.deep ok.safe_low p.2) in
      (n.0, n.1, subst (λ (m : Move). IsDeep (job.zwork *ℤ nanometre) m) n.2 p.2, subst (λ (m : Move). Sweeps m q r) n.2 p.3)

  mills_alike : (plain moves : List Move) → HaveLowOf (job.zsafe *ℤ nanometre) moves plain → HaveLowOf (job.zsafe *ℤ nanometre) plain moves → Mills job painted plain → Mills job painted moves
  mills_alike plain moves there back m = record {
    no_bite = no_bite_alike (job.zsafe *ℤ nanometre) (job.zsafe *ℤ nanometre) (λ q. is_dark q painted ≡ true) (bite_of (side_cutting job)) plain moves (refl_le (job.zsafe *ℤ nanometre)) there m.no_bite;
    visited = λ c. ((λ p. (m.visited c).0 (passed_alike moves plain _ (pos 0) there p)), (λ v. passed_alike plain moves _ (pos 0) back ((m.visited c).1 v)));
    swept = λ c swept q inside. passed_alike plain moves q (side_cutting job).radius back (m.swept c swept q inside);
  }

  parts_alike : (number : Cell → ℕ) (groups : List (List ℕ)) (plain moves : List Move) → HaveLowOf (job.zsafe *ℤ nanometre) plain moves
      → PartsOthers (side_cutting job) job.zwork number groups plain → PartsOthers (side_cutting job) job.zwork number groups moves
  parts_alike number groups plain moves back parts u v su sv ne (a, b, (a_is, b_is, link)) =
      parts u v su sv ne (
        a,
        b,
        (
          a_is,
          b_is,
          linked_over (λ c. IsWhollySwept (side_cutting job) job.zwork moves c → ⊥) (λ c. IsWhollySwept (side_cutting job) job.zwork plain c → ⊥)
              (λ c left whole. left (λ q inside. passed_alike plain moves q (side_cutting job).radius back (whole q inside))) a b link,
        ),
      )

-- ---- the plain run

board_wanted : (job : Job) (walks : List (List Cell)) → wanted (program_along job walks).runs ≡ map (wanted_walk job) walks
unfolding program_along run_along
board_wanted job walks = append-nil (map (wanted_cut (run_along job walks)) (map (trace_of job) walks)) ∙ cuts_wanted job walks walks

board_milled : (job : Job) (painted : List Painted) (plan : Isolation) (i : IsIsolationOf job painted plan)
    → RunsTo (lines_of plan.program) (MillsBoard job painted i.number plan.groups.items (all_of i.traced.passes ++ i.traced.runs))
unfolding RunsTo
board_milled job painted plan i answers =
    let walks : List (List Cell) = all_of i.traced.passes ++ i.traced.runs in
    let found = run_moves answers plan.program i.program i.runnable in
    let mills = i.mills answers in
    let parts = i.parts answers in
    let wants : wanted plan.program.runs ≡ map (wanted_walk job) walks = ap (λ (q : Program). wanted q.runs) i.traced.is ∙ board_wanted job walks in (
      found.0,
      found.1,
      record {
        mills = subst (Mills job painted) (one_value mills.0 found.0 (run_of answers (lines_of plan.program)) mills.1 found.1) mills.2;
        parts = subst (PartsOthers (side_cutting job) job.zwork i.number plan.groups.items) (one_value parts.0 found.0 (run_of answers (lines_of plan.program)) parts.1 found.1) parts.2;
        strokes = subst (λ (safe : ℤ). CutsExactly safe (map (wanted_walk job) walks) found.0) i.words.safe
            (subst (λ (ws : List Wanted). CutsExactly plan.program.safe ws found.0) wants (stroke_law plan.program found.0 i.program i.runnable found.2));
      },
    )

-- ---- the run in tiles

some_shifts : (p : ℤ) (tiles : List Tile) → 0 < length tiles → 0 < length (map (shift_in p) tiles)
some_shifts p tiles h = let e : length (map (shift_in p) tiles) ≡ length tiles = length-map tiles (shift_in p) in omega (arith, h, e)

pub tile_stretches_holds : StretchLaw → CutsAlikeLaw → LowAlikeLaw → TileStretchesLaw
tile_stretches_holds stretch cuts low job painted plan tiles ok i some program =
    let walks : List (List Cell) = all_of i.traced.passes ++ i.traced.runs in
    let one : length plan.program.runs ≡ 1 = ap length i.words.only in
    runs_in_tiles run_moves stretch (map (shift_in job.pitch) tiles) plan.program (MillsBoard job painted i.number plan.groups.items walks) (some_shifts job.pitch tiles some) one i.program i.runnable program
    (λ plain moves alike m.
    let same : CutAlike (job.zsafe *ℤ nanometre) plain moves = subst (λ (safe : ℤ). CutAlike (safe *ℤ nanometre) plain moves) i.words.safe alike in
    let lows = low (job.zsafe *ℤ nanometre) plain moves same in
    record {
      mills = mills_alike job painted (milling_is job ok) plain moves lows.0 lows.1 m.mills;
      parts = parts_alike job painted (milling_is job ok) i.number plan.groups.items plain moves lows.1 m.parts;
      strokes = cuts job.zsafe (map (wanted_walk job) walks) plain moves same m.strokes;
    })
    (board_milled job painted plan i)
