-- What the program of a side does, from the plan to the bytes.
use Rattle.std.proofs.Common.{◌≡◌, ◌⊎◌, inl, inr, ℤ, true, List, ◌++◌, map, Option, Some, None, refl, sym, ap, subst, ◌∙◌}
use Rattle.board_base.specs.declared.places.Cell.{Cell}
use Rattle.board_base.specs.declared.places.Move.{Move}
use Rattle.shape_parts.specs.declared.shape.Painted.{Painted}
use Rattle.rs274_sim.specs.Runs.{RunsTo}
use Rattle.mill_program.specs.declared.cuts.Program.{Program}
use Rattle.mill_program.specs.declared.probes.ProbeGrid.{ProbeGrid}
use Rattle.mill_program.specs.GridLines.{lines_over}
use Rattle.mill_program.specs.Lines.{lines_of}
use Rattle.mill_program.specs.Strokes.{Wanted, CutsExactly}
use Rattle.tiling.specs.Copies.{Tile, shift_in, tiled_in}
use Rattle.levelling.specs.Pieces.{levelled}
use Rattle.grid_writer.specs.Conditions.{IsPlaced}
use Rattle.grid_writer.specs.Laws.{SpellingOverLaw}
use Rattle.job_file.specs.declared.job.Job.{Job}
use Rattle.mill_plan.specs.declared.isolation.Isolation.{Isolation}
use Rattle.mill_plan.specs.Job.{IsSideJob}
use Rattle.mill_plan.specs.Cutting.{side_cutting}
use Rattle.mill_plan.specs.Mills.{IsProgramOf}
use Rattle.mill_plan.specs.Cuts.{all_of}
use Rattle.mill_plan.specs.Isolated.{IsIsolationOf}
use Rattle.program_check.proofs.OwnLaws.{passed_swept}
use Rattle.side_runs.specs.Alone.{alone}
use Rattle.side_runs.specs.Sides.{AreApart, IsVisitedCopy, NoBiteIn, MillsTiles, TiledSideLaw}
use Rattle.side_runs.specs.SideStrokes.{wants_along, TiledStrokesLaw}
use Rattle.side_runs.proofs.SideLaws.{cutter}
use Rattle.side_runs.proofs.ValueLaws.{words_tiled}
use Rattle.side_levels.specs.Probed.{IsGridOver}
use Rattle.side_surfaces.specs.Runs.{InReach, RunsToOver, RunsOver}
use Rattle.side_surfaces.specs.Sides.{IsDeepBy, PassesBy, PartsBy, MillsBy}
use Rattle.side_surfaces.specs.Strokes.{wants_by}
use Rattle.side_surfaces.specs.Flat.{FlatSideLaw}
use Rattle.side_surfaces.specs.Levelled.{IsLevelledSide, LevelledSidesLaw}
use Rattle.mill_outputs.specs.Written.{tiles_by}
use Rattle.mill_outputs.specs.Mill.{program_text}
use Rattle.mill_outputs.specs.Headline.{milled_side, IsTextOf, NeverBites, PassesVisited, SweepsVisited, FollowsWalks, Clears, Counts, Separates}
use Rattle.mill_outputs.proofs.TileLaws.{IsTiled, in_text}
use Rattle.mill_outputs.proofs.TextLaws.{text_runs_over, flat_runs, runs_weaker}

-- ---- the program of a side in its tiles

-- the program over the grid of the side's frame, of a job that levels it and has one tile
pub record IsOverGrid (job : Job) (tiles : List Tile) (plan : Isolation) (q : Program) : Type 0 where
  pub grid : ProbeGrid
  pub asked : job.al_front ≡ true
  pub over : IsGridOver job plan.frame grid
  pub one : tiles ≡ alone
  pub is : q ≡ levelled grid job.pitch plan.program

-- a side that was milled in tiles, and its program: as it was planned, or levelled
pub record IsSideIn (job : Job) (tiles : List Tile) (image : List Painted) (plan : Isolation) (q : Program) : Type 0 where
  pub job_ok : IsSideJob job
  pub by : Tile
  pub rows : tiles ≡ tiles_by job by
  pub isolates : IsIsolationOf job image plan
  pub apart : AreApart plan.frame tiles
  pub made : IsTiled job.pitch tiles plan.program q ⊎ IsOverGrid job tiles plan q

-- the laws of its run
pub record SideRunLaws : Type 0 where
  pub spelled : SpellingOverLaw
  pub side : TiledSideLaw
  pub strokes : TiledStrokesLaw
  pub flat : FlatSideLaw
  pub levels : LevelledSidesLaw

-- a program as it was planned has no grid
pub no_grid : (pitch : ℤ) (tiles : List Tile) (p q : Program) → IsTiled pitch tiles p q → q.grid ≡ None
no_grid pitch tiles p q t = ap (λ (r : Program). r.grid) t.is ∙ t.valid.grid

pub levelled_grid : (g : ProbeGrid) (pitch : ℤ) (p : Program) → (levelled g pitch p).grid ≡ Some g
unfolding levelled
levelled_grid g pitch p = refl

-- a levelled one has that of its probes
pub its_grid : (job : Job) (tiles : List Tile) (plan : Isolation) (q : Program) → (o : IsOverGrid job tiles plan q) → q.grid ≡ Some o.grid
its_grid job tiles plan q o = ap (λ (r : Program). r.grid) o.is ∙ levelled_grid o.grid job.pitch plan.program

-- ---- runs

module _ (laws : SideRunLaws) (job : Job) (tiles : List Tile) (image : List Painted) (plan : Isolation) (q : Program) (s : IsSideIn job tiles image plan q) where
  abbrev walks : List (List Cell)
  walks = all_of s.isolates.traced.passes ++ s.isolates.traced.runs

  abbrev Bits : Option ProbeGrid → List ℤ → List Move → Type 0
  Bits grid answers = MillsBy job image s.isolates.number plan.groups.items tiles grid answers

  abbrev Cuts : Option ProbeGrid → List ℤ → List Move → Type 0
  Cuts grid answers = CutsExactly job.zsafe (wants_by job grid answers tiles walks)

  placed : (g : ProbeGrid) → IsLevelledSide job image s.isolates.number plan.groups.items walks g (levelled g job.pitch plan.program) → IsPlaced g
  placed g l = record { is_grid = l.program.is_grid; x0 = l.first_x; y0 = l.first_y }

  levels : (o : IsOverGrid job tiles plan q) → IsLevelledSide job image s.isolates.number plan.groups.items walks o.grid (levelled o.grid job.pitch plan.program)
  levels o = laws.levels.side job image plan o.grid s.job_ok s.isolates o.asked o.over

  -- what a levelled program's lines do, its text does
  levelled_does : (P : Option ProbeGrid → List ℤ → List Move → Type 0) (o : IsOverGrid job tiles plan q) → (InReach (Some o.grid) → RunsToOver (Some o.grid) (lines_over (levelled o.grid job.pitch plan.program)) (P (Some o.grid)))
      → RunsOver q.grid (program_text q) (P q.grid)
  levelled_does P o runs =
      let l = levels o in
      subst (λ (g : Option ProbeGrid). RunsOver g (program_text q) (P g)) (sym (its_grid job tiles plan q o))
      (subst (λ (r : Program). RunsOver (Some o.grid) (program_text r) (P (Some o.grid))) (sym o.is)
      (text_runs_over laws.spelled o.grid (levelled o.grid job.pitch plan.program) (P (Some o.grid)) l.program (placed o.grid l) runs))

  -- and what those of a program as it was planned do
  plain_does : (P : Option ProbeGrid → List ℤ → List Move → Type 0) (Q : List Move → Type 0) → IsTiled job.pitch tiles plan.program q → RunsTo (lines_of (tiled_in job.pitch tiles plan.program)) Q
      → ((answers : List ℤ) (moves : List Move) → Q moves → P None answers moves) → RunsOver q.grid (program_text q) (P q.grid)
  plain_does P Q t runs more =
      subst (λ (g : Option ProbeGrid). RunsOver g (program_text q) (P g)) (sym (no_grid job.pitch tiles plan.program q t))
      (flat_runs q (P None) Q more (in_text laws.spelled job.pitch tiles plan.program q Q t runs))

  mills_in : RunsOver q.grid (program_text q) (Bits q.grid)
  mills_in = by_case s.made
    where
      by_case : IsTiled job.pitch tiles plan.program q ⊎ IsOverGrid job tiles plan q → RunsOver q.grid (program_text q) (Bits q.grid)
      by_case (inl t) =
          plain_does Bits (MillsTiles job image s.isolates.number plan.groups.items tiles) t (laws.side job image plan tiles s.job_ok s.isolates s.apart t.valid t.runnable)
          (λ answers moves mills. laws.flat.mills job image s.isolates.number plan.groups.items tiles answers moves mills)
      by_case (inr o) =
          levelled_does Bits o
          (subst (λ (ts : List Tile). InReach (Some o.grid) → RunsToOver (Some o.grid) (lines_over (levelled o.grid job.pitch plan.program)) (MillsBy job image s.isolates.number plan.groups.items ts (Some o.grid))) (sym o.one)
          (levels o).mills)

  strokes_in : RunsOver q.grid (program_text q) (Cuts q.grid)
  strokes_in = by_case s.made
    where
      by_case : IsTiled job.pitch tiles plan.program q ⊎ IsOverGrid job tiles plan q → RunsOver q.grid (program_text q) (Cuts q.grid)
      by_case (inl t) =
          plain_does Cuts (CutsExactly job.zsafe (wants_along job tiles walks)) t (laws.strokes job image plan tiles s.isolates t.valid t.runnable)
          (λ answers moves cuts. subst (λ (wants : List Wanted). CutsExactly job.zsafe wants moves) (sym (laws.flat.wants job tiles walks answers)) cuts)
      by_case (inr o) =
          levelled_does Cuts o
          (subst (λ (ts : List Tile). InReach (Some o.grid) → RunsToOver (Some o.grid) (lines_over (levelled o.grid job.pitch plan.program)) (λ answers. CutsExactly job.zsafe (wants_by job (Some o.grid) answers ts walks))) (sym o.one)
          (levels o).strokes)

  -- what follows from it
  weaker : (P : List ℤ → List Move → Type 0) → ((answers : List ℤ) (moves : List Move) → Bits q.grid answers moves → P answers moves) → RunsOver q.grid (program_text q) P
  unfolding RunsOver
  weaker P more = (mills_in.0, mills_in.1, λ reach answers fit. let found = mills_in.2 reach answers fit in (found.0, found.1, more answers found.0 found.2))

  -- ---- what holds of each side

  pub side_text : IsTextOf (milled_side job tiles image plan q)
  side_text = (q, by_case s.made, refl, refl)
    where
      by_case : IsTiled job.pitch tiles plan.program q ⊎ IsOverGrid job tiles plan q → IsProgramOf job q
      by_case (inl t) = subst (IsProgramOf job) (sym t.is) (words_tiled job (map (shift_in job.pitch) tiles) plan.program s.isolates.words)
      by_case (inr o) = subst (IsProgramOf job) (sym o.is) (levels o).words

  pub side_never_bites : NeverBites (milled_side job tiles image plan q)
  side_never_bites = weaker (λ answers. NoBiteIn job image tiles) (λ answers moves mills. mills.no_bite)

  pub side_passes : PassesVisited (milled_side job tiles image plan q)
  side_passes = weaker (PassesBy job image tiles q.grid) (λ answers moves mills. mills.passes)

  pub side_sweeps : SweepsVisited (milled_side job tiles image plan q)
  unfolding side_cutting
  side_sweeps = weaker _ (λ answers moves mills c. passed_swept (side_cutting job) (IsDeepBy job q.grid answers) moves (IsVisitedCopy (side_cutting job) image tiles) c (cutter job image plan s.job_ok s.isolates) (λ v. (mills.passes v).1))

  pub side_follows : FollowsWalks (milled_side job tiles image plan q)
  side_follows = record {
    passes = s.isolates.traced.passes;
    runs = s.isolates.traced.runs;
    along = s.isolates.traced.along;
    strokes = strokes_in;
    chains = s.isolates.traced.size;
  }

  pub side_separates : Separates (milled_side job tiles image plan q)
  side_separates = record {
    number = s.isolates.number;
    islands = s.isolates.islands;
    groups = s.isolates.groups;
    lists = s.isolates.lists;
    apart = s.apart;
    parts = weaker (λ answers. PartsBy (side_cutting job) (IsDeepBy job q.grid answers) s.isolates.number plan.groups.items tiles) (λ answers moves mills. mills.parts);
  }

pub side_clears : (job : Job) (tiles : List Tile) (image : List Painted) (plan : Isolation) (q : Program) → IsSideIn job tiles image plan q → Clears (milled_side job tiles image plan q)
side_clears job tiles image plan q s = s.isolates.clears

pub side_counts : (job : Job) (tiles : List Tile) (image : List Painted) (plan : Isolation) (q : Program) → IsSideIn job tiles image plan q → Counts (milled_side job tiles image plan q)
side_counts job tiles image plan q s = record { framed = s.isolates.framed; kept = s.isolates.kept; centres = s.isolates.centres }
