-- What the levelled program of a side is, and what its run does over each surface.
use Rattle.std.proofs.Common.{◌≡◌, ℤ, List, ◌++◌, map, Some, subst}
use Rattle.board_base.specs.declared.places.Cell.{Cell}
use Rattle.board_base.specs.declared.places.Move.{Move}
use Rattle.shape_parts.specs.declared.shape.Painted.{Painted}
use Rattle.mill_program.specs.declared.cuts.Program.{Program}
use Rattle.mill_program.specs.declared.probes.ProbeGrid.{ProbeGrid}
use Rattle.mill_program.specs.Moves.{unnumbered}
use Rattle.mill_program.specs.Probes.{FitGrid}
use Rattle.mill_program.specs.Strokes.{Wanted, CutsExactly}
use Rattle.levelling.specs.Pieces.{levelled}
use Rattle.grid_runs.specs.Moves.{moves_over}
use Rattle.grid_runs.specs.RunLaw.{GridStrokeLaw}
use Rattle.job_file.specs.declared.job.Job.{Job}
use Rattle.mill_plan.specs.declared.isolation.Isolation.{Isolation}
use Rattle.mill_plan.specs.declared.cutting.Cutting.{Cutting}
use Rattle.mill_plan.specs.Cutting.{side_cutting}
use Rattle.mill_plan.specs.Cuts.{all_of}
use Rattle.mill_plan.specs.Isolated.{IsIsolationOf}
use Rattle.program_check.specs.Marks.{IsWhollySweptBy}
use Rattle.side_runs.specs.Alone.{alone, AloneLaw}
use Rattle.side_runs.proofs.AloneLaws.{visited_copy}
use Rattle.side_levels.specs.Lattices.{LatticeLaw}
use Rattle.side_levels.specs.LevelledSide.{MillsOver, LevelledRunLaw}
use Rattle.side_levels.specs.Probed.{IsLevelledOver, ProbedLaw}
use Rattle.side_surfaces.specs.Sides.{IsDeepBy, MillsBy}
use Rattle.side_surfaces.specs.Strokes.{wants_by}
use Rattle.side_surfaces.specs.Levelled.{LevelledSidesLaw}
use Rattle.side_surfaces.proofs.AloneTiles.{only_tile, parted_alone}
use Rattle.side_surfaces.proofs.GridPlaces.{first_placed}
use Rattle.side_surfaces.proofs.LevelledWords.{words_along, levelled_wanted}

module _ (job : Job) (painted : List Painted) (plan : Isolation) (i : IsIsolationOf job painted plan) (g : ProbeGrid) (answers : List ℤ) (moves : List Move) where
  abbrev k : Cutting
  k = side_cutting job

  abbrev walks : List (List Cell)
  walks = all_of i.traced.passes ++ i.traced.runs

  abbrev p : Program
  p = levelled g job.pitch plan.program

  -- what mills the board mills it in its one tile, with the numbering and the groups of the plan
  mills_alone : AloneLaw → MillsOver job painted plan g answers moves → MillsBy job painted i.number plan.groups.items alone (Some g) answers moves
  mills_alone law m = record {
    no_bite = (law.no_bite job painted moves).1 m.no_bite;
    passes = λ c. ((λ by. (visited_copy k painted c).0 ((m.passes c).0 by)), (λ v. (m.passes c).1 ((visited_copy k painted c).1 v)));
    parts = parted_alone (λ c. IsWhollySweptBy k (IsDeepBy job (Some g) answers) moves c → ⊥) i.number plan.groups.items (m.parts i.number plan.islands i.islands);
  }

  -- the strokes are the walks
  strokes_alone : GridStrokeLaw → IsLevelledOver job plan g → FitGrid g answers → map unnumbered moves ≡ moves_over g answers p → CutsExactly job.zsafe (wants_by job (Some g) answers alone walks) moves
  unfolding levelled
  strokes_alone law over fit are =
      subst (λ (s : ℤ). CutsExactly s (wants_by job (Some g) answers alone walks) moves) i.words.safe
      (subst (λ (wants : List Wanted). CutsExactly plan.program.safe wants moves) (levelled_wanted job g answers walks plan.program i.traced.is) (law g answers p moves over.program over.runnable fit are))

-- ---- the law

pub levelled_sides_holds : AloneLaw → LatticeLaw → ProbedLaw → LevelledRunLaw → GridStrokeLaw → LevelledSidesLaw
levelled_sides_holds tiles lattice probed runs cuts = record {
  side = λ job painted plan g ok i asked e.
      let over = probed.levelled_is job painted plan g ok i asked e in
      let at = first_placed plan.frame job.al_x job.al_y job.al_range job.al_probefeed g (probed.frame job painted plan ok i).reach e in
      record {
        words = words_along job (all_of i.traced.passes ++ i.traced.runs) g (levelled g job.pitch plan.program) ((lattice job painted plan ok i).1 g);
        first_x = at.x;
        first_y = at.y;
        program = over.program;
        runnable = over.runnable;
        mills = λ reach answers fit. (let run = runs job painted plan g answers ok i asked e fit reach in (run.0, run.1, mills_alone job painted plan i g answers run.0 tiles run.3));
        strokes = λ reach answers fit. (let run = runs job painted plan g answers ok i asked e fit reach in (run.0, run.1, strokes_alone job painted plan i g answers run.0 cuts over fit run.2));
      };
  tiles = only_tile;
}
