-- What the run of a side's levelled program does.
use Rattle.std.proofs.Common.{◌≡◌, ℕ, ◌<◌, ℤ, pos, ◌*ℤ◌, ◌<ℤ◌, Bool, true, List, ◌++◌, map, sym, ap, subst, ◌∙◌}
use Rattle.std.specs.List.{Contains}
use Rattle.std.proofs.lemmas.List.Elements.{All-contains}
use Rattle.board_base.specs.declared.places.Point.{Point}
use Rattle.board_base.specs.declared.places.Cell.{Cell}
use Rattle.board_base.specs.declared.places.Move.{Move}
use Rattle.board_base.specs.Lattice.{centre_of, half_diagonal_of}
use Rattle.board_base.specs.Near.{near_of}
use Rattle.cell_sets.specs.Barrier.{IsPast}
use Rattle.cell_sets.specs.Islands.{AreIslands}
use Rattle.cell_sets.proofs.Barriers.{refl_le}
use Rattle.cell_sets.proofs.Counts.{numbered_kept}
use Rattle.cell_sets.proofs.Links.{linked_over}
use Rattle.chain_walk.specs.Runs.{stepped, IsOnRun}
use Rattle.plane_geom.proofs.HalfStep.{on_lattice, on_run}
use Rattle.separation_check.proofs.Pairs.{pair_law_holds}
use Rattle.shape_parts.specs.declared.shape.Painted.{Painted}
use Rattle.rs274_sim.specs.Cutter.{nanometre, scaled, under, width_of, IsLow, Sweeps}
use Rattle.mill_program.specs.declared.probes.ProbeGrid.{ProbeGrid}
use Rattle.mill_program.specs.Moves.{unnumbered}
use Rattle.mill_program.specs.Probes.{IsGrid, FitGrid}
use Rattle.levelling.specs.Pieces.{levelled}
use Rattle.grid_runs.specs.Moves.{moves_over}
use Rattle.grid_runs.specs.RunLaw.{GridRunLaw}
use Rattle.job_file.specs.declared.job.Job.{Job}
use Rattle.mill_plan.specs.declared.cutting.Cutting.{Cutting}
use Rattle.mill_plan.specs.declared.isolation.Isolation.{Isolation}
use Rattle.mill_plan.specs.Job.{IsSideJob}
use Rattle.mill_plan.specs.Cutting.{kept_by, sweep_of, side_cutting, IsVisited}
use Rattle.mill_plan.specs.Cuts.{all_of, AreTraces}
use Rattle.mill_plan.specs.Isolated.{IsIsolationOf, IsLeft, AreJoinedGroups}
use Rattle.mill_plan.proofs.JobLaws.{IsMilling, milling_is}
use Rattle.mill_plan.proofs.MillsLaws.{lattice_is, near_visited, same_cell_by_half}
use Rattle.mill_plan.proofs.MoveLaws.{IsOverRun, IsGuarded, numbered, from_numbered}
use Rattle.program_check.specs.Cutters.{IsCutter}
use Rattle.program_check.specs.Hits.{IsClear}
use Rattle.program_check.specs.Marks.{IsPassedBy, IsWhollySweptBy, PartsOthersBy}
use Rattle.program_check.specs.Own.{Follows, MarksSwept, IsOwn}
use Rattle.program_check.proofs.AlongLaws.{along_holds}
use Rattle.program_check.proofs.OwnLaws.{own_clear_holds, passed_swept, past_allowed}
use Rattle.program_check.proofs.SoundLaws.{clear_holds}
use Rattle.side_runs.specs.OwnSide.{AreSideTests}
use Rattle.side_runs.proofs.FrameLaws.{kept_inside}
use Rattle.side_runs.proofs.NumberLaws.{one_numbering}
use Rattle.side_runs.proofs.SideLaws.{cutter, side_tests_holds}
use Rattle.side_levels.specs.Lattices.{IsProgramAlong, run_with, program_over}
use Rattle.side_levels.specs.LevelledSide.{IsDeepOn, PassesOver, MillsOver, LevelledSideLaw, LevelledRunLaw}
use Rattle.side_levels.proofs.LatticeLaws.{side_traces, levelled_along}
use Rattle.side_levels.proofs.OverLaws.{deep_low, step_on, step_deep, step_from, step_to, moves_guarded, moves_there}
use Rattle.side_levels.proofs.ProbedLaws.{probed_holds}

-- a cell of a run is passed by a move over the run
sweeps_on : (job : Job) (w : List Cell) (x y c : Cell) (move : Move) → IsOnRun w x y c → under move.from ≡ scaled (centre_of job.pitch x) → under move.to ≡ scaled (centre_of job.pitch y) → Sweeps move (centre_of job.pitch c) (pos 0)
unfolding width_of
sweeps_on job w x y c move o starts stops =
    let p : ℤ = job.pitch in
    let k = o.run in
    let a : Point = scaled (centre_of p x) in
    let here : scaled (centre_of p c) ≡ on_lattice a (p *ℤ nanometre) k.east k.north (pos o.at) = ap (λ (d : Cell). scaled (centre_of p d)) o.is ∙ lattice_is p x k.east k.north o.at in
    let end : under move.to ≡ on_lattice a (p *ℤ nanometre) k.east k.north (pos k.count) = stops ∙ ap (λ (d : Cell). scaled (centre_of p d)) k.ends ∙ lattice_is p x k.east k.north k.count in
    subst (λ (q : Point). near_of q (under move.from) (under move.to) (pos 0) ≡ true) (sym here)
    (subst (λ (b : Point). near_of (on_lattice a (p *ℤ nanometre) k.east k.north (pos o.at)) (under move.from) b (pos 0) ≡ true) (sym end)
    (subst (λ (b : Point). near_of (on_lattice a (p *ℤ nanometre) k.east k.north (pos o.at)) b (on_lattice a (p *ℤ nanometre) k.east k.north (pos k.count)) (pos 0) ≡ true) (sym starts)
    (on_run (p *ℤ nanometre) a k.east k.north o.at k.count o.early)))

-- ---- the side

module _ (job : Job) (painted : List Painted) (plan : Isolation) (ok : IsSideJob job) (i : IsIsolationOf job painted plan) where
  abbrev k : Cutting
  k = side_cutting job

  abbrev walks : List (List Cell)
  walks = all_of i.traced.passes ++ i.traced.runs

  milling : IsMilling job
  milling = milling_is job ok

  traces : AreTraces k painted walks
  traces = side_traces job painted plan i

  cuts : IsCutter k
  cuts = cutter job painted plan ok i

  module _ (g : ProbeGrid) (answers : List ℤ) (moves : List Move) (p : IsProgramAlong job walks g (levelled g job.pitch plan.program)) (are : map unnumbered moves ≡ moves_over g answers (levelled g job.pitch plan.program)) where
    abbrev Deep : Move → Type 0
    Deep = IsDeepOn job g answers

    same : map unnumbered moves ≡ moves_over g answers (program_over job g p.cuts)
    same = are ∙ ap (moves_over g answers) p.is

    low_over : (move : Move) → Contains moves move → IsLow (job.zsafe *ℤ nanometre) move → IsOverRun job walks move
    low_over move there low =
        let o = All-contains (IsGuarded job walks) (moves_over g answers (program_over job g p.cuts)) (unnumbered move) (moves_guarded job g answers walks p.cuts milling p.along)
        (subst (λ (steps : List Move). Contains steps (unnumbered move)) same (numbered moves move there)) low in
        record { walk = o.walk; there = o.there; from = o.from; to = o.to; run = o.run; starts = o.starts; stops = o.stops }

    passed : (c : Cell) → IsVisited k painted c → IsPassedBy Deep moves (centre_of job.pitch c) (pos 0)
    passed c seen =
        let t = traces.all c seen in
        let s = moves_there job g answers walks p.cuts milling p.along t.0 c t.1.0 t.1.1 in
        let step : Move = step_on job g answers walks (run_with job p.cuts) s.from s.to in
        let found = from_numbered moves step (subst (λ (steps : List Move). Contains steps step) (sym same) s.there) in (
          found.0,
          found.1,
          subst Deep (sym found.2) (step_deep job g answers walks (run_with job p.cuts) s.from s.to),
          subst (λ (m : Move). Sweeps m (centre_of job.pitch c) (pos 0)) (sym found.2)
              (sweeps_on job s.walk s.from s.to c step s.on (step_from job g answers walks (run_with job p.cuts) s.from s.to)
              (step_to job g answers walks (run_with job p.cuts) s.from s.to)),
        )

    module _ (grid : IsGrid g) (range : g.range <ℤ job.zsafe) (fit : FitGrid g answers) where
      passes : PassesOver job painted g answers moves
      unfolding side_cutting
      passes c = (
        (λ by.
            let low = deep_low job g answers by.0 milling grid range fit by.2 in
            let v = near_visited job walks by.0 (centre_of job.pitch c) (pos 0) cuts.diagonal (refl_le (pos 0)) (low_over by.0 by.1 low) by.3 in
            let one : c ≡ v.cell = same_cell_by_half job.pitch (half_diagonal_of job.pitch) c v.cell milling.pitch cuts.diagonal v.near in
            subst (IsVisited k painted) (sym one) (traces.each v.walk v.cell v.there v.inside)),
        passed c,
      )

      module _ (allowed visited : Cell → Bool) (tests : AreSideTests k painted plan.frame allowed visited) where
        follows_visited : (move : Move) → Contains moves move → IsLow (job.zsafe *ℤ nanometre) move → Follows k (λ c. visited c ≡ true) move
        unfolding side_cutting
        follows_visited move there low =
            let o = low_over move there low in
            along_holds k visited move cuts (record {
              first = o.from;
              east = o.run.east;
              north = o.run.north;
              count = o.run.count;
              unit_east = o.run.unit_east;
              unit_north = o.run.unit_north;
              from = o.starts;
              to = o.stops ∙ ap (λ (c : Cell). scaled (centre_of job.pitch c)) o.run.ends;
              each = λ n early. (tests.visited_are (stepped o.from o.run.east o.run.north n)).1 (traces.each o.walk (stepped o.from o.run.east o.run.north n) o.there (o.run.through n early));
            })

        own : IsOwn k painted plan.frame job.zsafe Deep moves allowed visited
        unfolding side_cutting
        own = record {
          allowed_are = tests.allowed_are;
          barrier = tests.barrier;
          inside = tests.inside;
          outside = tests.outside;
          follows = λ move there low q r r_in swept. (let f = follows_visited move there low q r r_in swept in (f.0, tests.barrier.within f.0 f.1, f.2));
          passes = λ v seen. passed v ((tests.visited_are v).0 seen);
        }

        clear : IsClear k painted job.zsafe moves
        clear = own_clear_holds k painted job.zsafe moves cuts (λ move there low q r r_in swept. (let f = own.follows move there low q r r_in swept in (f.0, (own.allowed_are f.0).0 f.1, f.2)))

        parts : (number : Cell → ℕ) (count : ℕ) → AreIslands (kept_by k painted) number count → PartsOthersBy k Deep number plan.groups.items moves
        parts number count islands u v su sv ne joined =
            let one = one_numbering (kept_by k painted) plan.frame (kept_inside k painted plan.frame milling.cutting i.framed) number i.number count plan.islands islands i.islands in
            let listed : AreJoinedGroups k painted number plan.groups.items = subst (λ (n : Cell → ℕ). AreJoinedGroups k painted n plan.groups.items) (λ t c. sym (one c) t) i.groups in
            let on : kept_by k painted joined.0 ≡ true = numbered_kept (kept_by k painted) number count islands joined.0 (subst (λ (n : ℕ). 0 < n) (sym joined.2.0) su) in
            let marks : MarksSwept (sweep_of k) allowed visited plan.frame (IsWhollySweptBy k Deep moves) = record {
              inside = own.inside;
              outside = own.outside;
              unmarked = λ c inside free swept. free (passed_swept k Deep moves (λ v. visited v ≡ true) c cuts own.passes swept);
            } in
            let past = past_allowed (sweep_of k) allowed visited (kept_by k painted) plan.frame (IsWhollySweptBy k Deep moves) own.barrier marks joined.0 joined.1 on joined.2.2 in
            (pair_law_holds (IsLeft k painted) number plan.groups.items listed u v su sv ne).1 (
              joined.0,
              joined.1,
              (
                joined.2.0,
                joined.2.1,
                linked_over (IsPast (sweep_of k) allowed) (IsLeft k painted) (λ c left swept. left (record { from = swept.from; member = (own.allowed_are swept.from).1 swept.member; within = swept.within })) joined.0 joined.1 past,
              ),
            )

        pub mills_over : MillsOver job painted plan g answers moves
        unfolding side_cutting
        mills_over = record {
          own = record { allowed = allowed; visited = visited; tests = tests; own = own; along = follows_visited };
          clear = clear;
          no_bite = clear_holds k painted job.zsafe moves cuts clear;
          passes = passes;
          swept = λ c. passed_swept k Deep moves (IsVisited k painted) c cuts passed;
          parts = parts;
        }

pub levelled_side_holds : LevelledSideLaw
unfolding levelled
levelled_side_holds job painted plan g answers moves ok i asked over fit are =
    let l = probed_holds.levelled_is job painted plan g ok i asked over in
    let range : g.range <ℤ job.zsafe = subst (λ (s : ℤ). g.range <ℤ s) i.words.safe l.program.range in
    let walks : List (List Cell) = all_of i.traced.passes ++ i.traced.runs in
    let p = levelled_along job walks g plan.program (milling_is job ok).pitch i.traced.is (side_traces job painted plan i).connected in
    let t = side_tests_holds job painted plan ok i in
    mills_over job painted plan ok i g answers moves p are l.grid range fit t.0 t.1 t.2

pub levelled_run_holds : GridRunLaw → LevelledRunLaw
levelled_run_holds law job painted plan g answers ok i asked over fit reach =
    let l = probed_holds.levelled_is job painted plan g ok i asked over in
    let found = law g answers (levelled g job.pitch plan.program) l.program l.runnable fit reach in
    (found.0, found.1, found.2, levelled_side_holds job painted plan g answers found.0 ok i asked over fit found.2)
