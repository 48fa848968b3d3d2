-- The walks of all passes and the clearing runs go over the visited cells.
use Rattle.std.proofs.Common.{◌≡◌, ◌⊎◌, inl, inr, ℕ, zero, suc, ◌<◌, ◌≤◌, true, List, [], ◌∷◌, ◌++◌, length, Option, arith}
use Rattle.std.specs.Prelude.{slice_index_or}
use Rattle.std.specs.List.{Contains}
use Rattle.std.proofs.lemmas.List.Elements.{Contains-append_left, Contains-append_right, Contains-append_cases}
use Rattle.board_base.specs.declared.places.Cell.{Cell}
use Rattle.board_base.specs.Lattice.{centre_of}
use Rattle.board_base.specs.Places.{IsPlace}
use Rattle.cell_sets.specs.Contour.{IsContour}
use Rattle.cell_sets.specs.Passes.{ClearingRows, IsVisitedBy}
use Rattle.chain_walk.specs.Walk.{IsConnected}
use Rattle.chain_walk.specs.Runs.{WalkLaw}
use Rattle.chain_walk.specs.RowRuns.{RowRunLaw}
use Rattle.shape_parts.specs.declared.shape.Painted.{Painted}
use Rattle.job_file.specs.declared.job.Job.{Job}
use Rattle.mill_plan.specs.declared.cutting.Cutting.{Cutting}
use Rattle.mill_plan.specs.Cutting.{guard, kept_by, AreClearingRows, IsVisited}
use Rattle.mill_plan.specs.Cuts.{all_of, ArePassWalks, AreSideWalks, AreTraces}
use Rattle.mill_plan.proofs.ProgramLaws.{AreTracesOf, traces, run_traces, ArePlaced, all_in}

-- what one of the lists has all have
in_some : (passes : List (List (List Cell))) (w : List Cell) → Contains (all_of passes) w → (n : ℕ) × ((n < length passes) × Contains (slice_index_or passes n []) w)
in_some [] w m = absurd (omega (arith, m.1))
in_some (walks ∷ passes) w m = elim (Contains-append_cases walks (all_of passes) w m) as (λ _. (n : ℕ) × ((n < length (walks ∷ passes)) × Contains (slice_index_or (walks ∷ passes) n []) w)) [
  | inl a ↦ (0, (omega arith, a))
  | inr b ↦ let r = in_some passes w b in (suc r.0, (let l = r.1.0 in omega (arith, l), r.1.1))
]

in_all : (passes : List (List (List Cell))) (n : ℕ) (w : List Cell) → n < length passes → Contains (slice_index_or passes n []) w → Contains (all_of passes) w
in_all [] n w l m = absurd (omega (arith, l))
in_all (walks ∷ passes) zero w l m = Contains-append_left walks (all_of passes) w m
in_all (walks ∷ passes) (suc n) w l m = Contains-append_right walks (all_of passes) w (in_all passes n w (omega (arith, l)) m)

module _ (k : Cutting) (painted : List Painted) (passes : List (List (List Cell))) (runs : List (List Cell)) (s : AreSideWalks k painted passes runs) (law : WalkLaw) (run_law : RowRunLaw) where
  early : (n : ℕ) → n < length passes → n ≤ k.last
  early n l = let e = s.count in omega (arith, l, e)

  there : (n : ℕ) → n ≤ k.last → n < length passes
  there n l = let e = s.count in omega (arith, l, e)

  of_pass : (n : ℕ) → n ≤ k.last → AreTracesOf (IsContour (kept_by k painted) (guard k n)) (slice_index_or passes n [])
  of_pass n l =
      let w : ArePassWalks k painted n (slice_index_or passes n []) = s.walks n l in
      traces k painted n w.rows (slice_index_or passes n []) w.contour w.ordered law

  of_runs : AreTracesOf (λ c. s.cleared.member c ≡ true) runs
  of_runs = run_traces s.cleared.member runs s.cleared.are run_law

  connected_in : (w : List Cell) → Contains (all_of passes) w ⊎ Contains runs w → IsConnected w
  connected_in w (inl m) = let r = in_some passes w m in (of_pass r.0 (early r.0 r.1.0)).connected w r.1.1
  connected_in w (inr m) = of_runs.connected w m

  visited_by : (rows : Option ClearingRows) → AreClearingRows k painted rows → (w : List Cell) (c : Cell) → Contains (all_of passes) w ⊎ Contains runs w → Contains w c → IsVisited k painted c
  visited_by rows are w c (inl m) inside =
      let r = in_some passes w m in
      (rows, are, inl (r.0, (early r.0 r.1.0, (of_pass r.0 (early r.0 r.1.0)).each w c r.1.1 inside)))
  visited_by rows are w c (inr m) inside = let v = (s.cleared.is_cleared c).0 (of_runs.each w c m inside) in (v.0, v.1, inr v.2)

  on_walk : (rows : Option ClearingRows) → AreClearingRows k painted rows → (c : Cell) → IsVisitedBy (guard k) k.last rows (kept_by k painted) c → (w : List Cell) × (Contains (all_of passes ++ runs) w × Contains w c)
  on_walk rows are c (inl b) =
      let f = (of_pass b.0 b.1.0).all c b.1.1 in
      (f.0, (Contains-append_left (all_of passes) runs f.0 (in_all passes b.0 f.0 (there b.0 b.1.0) f.1.0), f.1.1))
  on_walk rows are c (inr r) =
      let f = of_runs.all c ((s.cleared.is_cleared c).1 (rows, are, r)) in
      (f.0, (Contains-append_right (all_of passes) runs f.0 f.1.0, f.1.1))

  pub traces_all : (rows : Option ClearingRows) → AreClearingRows k painted rows → AreTraces k painted (all_of passes ++ runs)
  traces_all rows are = record {
    connected = λ w m. connected_in w (Contains-append_cases (all_of passes) runs w m);
    each = λ w c m inside. visited_by rows are w c (Contains-append_cases (all_of passes) runs w m) inside;
    all = λ c v. on_walk v.0 v.1 c v.2;
  }

-- the walks over visited cells have cells, and their centres are places
pub placed : (job : Job) (k : Cutting) (painted : List Painted) (walks : List (List Cell)) → AreTraces k painted walks → ((c : Cell) → IsVisited k painted c → IsPlace (centre_of job.pitch c)) → ArePlaced job walks
placed job k painted walks t places w m = ((t.connected w m).some, all_in (λ c. IsPlace (centre_of job.pitch c)) w (λ c inside. places c (t.each w c m inside)))
