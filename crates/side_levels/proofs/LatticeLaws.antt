-- The program of a side may be levelled, and goes then along the same walks.
use Rattle.std.proofs.Common.{◌≡◌, inl, inr, ◌+◌, ◌*◌, ◌≤◌, ℤ, ◌+ℤ◌, ◌*ℤ◌, List, [], ◌∷◌, ◌++◌, map, refl, sym, ap, subst, ◌∙◌, arith}
use Rattle.std.specs.Prelude.{unsigned_abs}
use Rattle.std.specs.List.{All, Contains}
use Rattle.std.proofs.Math.Nat.{mul-le-mul_left}
use Rattle.std.proofs.lemmas.Int.{ints, unsigned_abs-mul}
use Rattle.std.proofs.lemmas.List.Elements.{All-map}
use Rattle.board_base.specs.declared.places.Cell.{Cell}
use Rattle.board_base.specs.Lattice.{IsPitch, middle, half_of, centre_of}
use Rattle.board_base.specs.Places.{IsCoordinate, IsPlace}
use Rattle.cell_grid.proofs.CellsLaws.{in_frame_is}
use Rattle.chain_walk.specs.Walk.{IsConnected}
use Rattle.chain_walk.specs.Runs.{IsRun, AreSuccessive}
use Rattle.chain_walk.proofs.CornerRuns.{corner_law}
use Rattle.chain_walk.proofs.RowRunLaws.{row_run_law}
use Rattle.chain_walk.proofs.Traces.{walk_law}
use Rattle.shape_parts.specs.declared.shape.Painted.{Painted}
use Rattle.mill_program.specs.declared.cuts.Program.{Program}
use Rattle.mill_program.specs.declared.probes.ProbeGrid.{ProbeGrid}
use Rattle.levelling.specs.Pieces.{IsColumn, IsCentre, IsRun as IsLatticeRun, AreRunsFrom, IsLatticeCut, IsLatticeProgram, piece_of, in_pieces, levelled}
use Rattle.job_file.specs.declared.job.Job.{Job}
use Rattle.mill_plan.specs.declared.isolation.Isolation.{Isolation}
use Rattle.mill_plan.specs.Job.{IsSideJob}
use Rattle.mill_plan.specs.Cutting.{side_cutting, IsVisited}
use Rattle.mill_plan.specs.Cuts.{all_of, corner_of, trace_of, run_along, program_along, AreTraces}
use Rattle.mill_plan.specs.Isolated.{IsIsolationOf}
use Rattle.mill_plan.proofs.FrameLaws.{frame_places}
use Rattle.mill_plan.proofs.JobLaws.{milling_is}
use Rattle.mill_plan.proofs.OneFrame.{rows_there}
use Rattle.mill_plan.proofs.ProgramLaws.{one, all_in}
use Rattle.mill_plan.proofs.TraceLaws.{traces_all}
use Rattle.side_runs.proofs.FrameLaws.{visited_inside}
use Rattle.side_levels.specs.Lattices.{program_over, IsProgramAlong, LatticeLaw}
use Rattle.side_levels.proofs.StepCells.{steps_to, run_steps}
use Rattle.side_levels.proofs.CutCells.{runs_inside, has_corners, cuts_along}

-- ---- the walks of a side

-- what the walks of a side's passes and its clearing runs go over
pub side_traces : (job : Job) (painted : List Painted) (plan : Isolation) (i : IsIsolationOf job painted plan) → AreTraces (side_cutting job) painted (all_of i.traced.passes ++ i.traced.runs)
side_traces job painted plan i =
    let rows = rows_there (side_cutting job) painted plan.frame i.framed in
    traces_all (side_cutting job) painted i.traced.passes i.traced.runs i.traced.along walk_law row_run_law rows.0 rows.1

-- the centres of visited cells are places
pub visited_place : (job : Job) (painted : List Painted) (plan : Isolation) → IsSideJob job → IsIsolationOf job painted plan → (c : Cell) → IsVisited (side_cutting job) painted c → IsPlace (centre_of job.pitch c)
unfolding side_cutting
visited_place job painted plan ok i c seen =
    let cutting = (milling_is job ok).cutting in
    frame_places (side_cutting job) painted plan.frame cutting i.framed c (in_frame_is plan.frame c (visited_inside (side_cutting job) painted plan.frame cutting i.framed c seen))

-- ---- corners

few_columns : (p i : ℤ) → IsPitch p → IsCoordinate (middle p i) → unsigned_abs i ≤ 2147483648
unfolding middle half_of
few_columns p i h at =
    let half : unsigned_abs (half_of p) ≤ 200000 = omega (arith, ints, h.even, h.low, h.high) in
    let size : unsigned_abs (i *ℤ p) ≤ 500000000 + 200000 = by (i *ℤ p) (half_of p) half at in
    let product : unsigned_abs (i *ℤ p) ≡ unsigned_abs i * unsigned_abs p = unsigned_abs-mul i p in
    let low : 250 ≤ unsigned_abs p = omega (arith, ints, h.low) in
    let more : unsigned_abs i * 250 ≤ unsigned_abs i * unsigned_abs p = mul-le-mul_left (unsigned_abs i) low in
    omega arith
  where
    by : (x k : ℤ) → unsigned_abs k ≤ 200000 → IsCoordinate (x +ℤ k) → unsigned_abs x ≤ 500000000 + 200000
    by x k h at = omega (arith, ints, h, at.low, at.high)

column_at : (p i : ℤ) → IsPitch p → IsCoordinate (middle p i) → IsColumn p (middle p i)
column_at p i h at = record { index = i; few = few_columns p i h at; middle_is = refl }

corner_centre : (job : Job) (c : Cell) → IsPitch job.pitch → IsPlace (centre_of job.pitch c) → IsCentre job.pitch (corner_of job c)
unfolding corner_of
corner_centre job c h place = record { x = column_at job.pitch c.i h place.x; y = column_at job.pitch c.j h place.y }

module _ (job : Job) (w : List Cell) (h : IsPitch job.pitch) where
  run_there : (x y : Cell) → IsRun w x y → IsLatticeRun job.pitch (corner_of job x) (corner_of job y)
  run_there x y r =
      let are = run_steps job x y h r in
      are.at (steps_to job x y) (omega arith) ∙ ap (corner_of job) (sym are.ends)

  runs_there : (c : Cell) (cells : List Cell) → ((x y : Cell) → AreSuccessive (c ∷ cells) x y → IsRun w x y) → AreRunsFrom job.pitch (corner_of job c) (map (corner_of job) cells)
  runs_there c [] runs = tt
  runs_there c (d ∷ cells) runs = (run_there c d (runs c d (inl (refl, refl))), runs_there d cells (λ x y k. runs x y (inr k)))

-- the trace of a walk is a cut of the lattice
trace_cut : (job : Job) (w : List Cell) → IsPitch job.pitch → IsConnected w → ((c : Cell) → Contains w c → IsPlace (centre_of job.pitch c)) → IsLatticeCut job.pitch (trace_of job w)
unfolding trace_of
trace_cut job w h connected places =
    let k = has_corners w connected in
    let runs = subst (λ (cells : List Cell). (x y : Cell) → AreSuccessive cells x y → IsRun w x y) k.is (corner_law w connected).0 in
    subst (λ (cells : List Cell). IsLatticeCut job.pitch (map (corner_of job) cells)) (sym k.is) (record {
      centres = All-map (IsCentre job.pitch) (corner_of job) (k.first ∷ k.rest)
          (all_in (λ c. IsCentre job.pitch (corner_of job c)) (k.first ∷ k.rest) (λ c m. corner_centre job c h (places c (runs_inside w k.first k.rest runs k.inside c m))));
      runs = runs_there job w h k.first k.rest runs;
    })

traced_lattice : (job : Job) (walks : List (List Cell)) → IsPitch job.pitch → ((w : List Cell) → Contains walks w → IsConnected w) → ((w : List Cell) (c : Cell) → Contains walks w → Contains w c → IsPlace (centre_of job.pitch c))
    → IsLatticeProgram job.pitch (program_along job walks)
unfolding program_along run_along
traced_lattice job walks h connected places =
    one (λ run. All (IsLatticeCut job.pitch) run.cuts) (run_along job walks)
    (All-map (IsLatticeCut job.pitch) (trace_of job) walks (all_in (λ w. IsLatticeCut job.pitch (trace_of job w)) walks (λ w m. trace_cut job w h (connected w m) (λ c inside. places w c m inside))))

-- ---- the levelled program

levelled_is : (job : Job) (walks : List (List Cell)) (g : ProbeGrid) → levelled g job.pitch (program_along job walks) ≡ program_over job g (map (in_pieces job.pitch (piece_of g job.pitch)) (map (trace_of job) walks))
unfolding program_along run_along levelled
levelled_is job walks g = refl

pub levelled_along : (job : Job) (walks : List (List Cell)) (g : ProbeGrid) (p : Program) → IsPitch job.pitch → p ≡ program_along job walks → ((w : List Cell) → Contains walks w → IsConnected w) → IsProgramAlong job walks g (levelled g job.pitch p)
levelled_along job walks g p h is connected = record {
  cuts = map (in_pieces job.pitch (piece_of g job.pitch)) (map (trace_of job) walks);
  is = ap (levelled g job.pitch) is ∙ levelled_is job walks g;
  along = cuts_along job (piece_of g job.pitch) walks h connected;
}

pub lattice_holds : LatticeLaw
lattice_holds job painted plan ok i =
    let walks : List (List Cell) = all_of i.traced.passes ++ i.traced.runs in
    let traces = side_traces job painted plan i in
    let pitch = (milling_is job ok).pitch in (
      subst (IsLatticeProgram job.pitch) (sym i.traced.is)
          (traced_lattice job walks pitch traces.connected (λ w c m inside. visited_place job painted plan ok i c (traces.each w c m inside))),
      (λ g. levelled_along job walks g plan.program pitch i.traced.is traces.connected),
    )
