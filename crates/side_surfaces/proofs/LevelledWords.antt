-- The words and the strokes of the levelled program of a side.
use Rattle.std.proofs.Common.{◌≡◌, ℤ, List, [], ◌∷◌, ◌++◌, map, Some, refl, sym, ap, subst, ◌∙◌}
use Rattle.std.specs.List.{All, AllZip}
use Rattle.std.proofs.lemmas.List.Elements.{All-nil, All-cons}
use Rattle.board_base.specs.declared.places.Cell.{Cell}
use Rattle.mill_program.specs.declared.cuts.Corner.{Corner}
use Rattle.mill_program.specs.declared.cuts.ToolRun.{ToolRun}
use Rattle.mill_program.specs.declared.cuts.Program.{Program}
use Rattle.mill_program.specs.declared.probes.ProbeGrid.{ProbeGrid}
use Rattle.tiling.specs.Copies.{first_tile}
use Rattle.levelling.specs.Pieces.{piece_of, in_pieces, levelled}
use Rattle.grid_runs.specs.Moves.{place_on}
use Rattle.grid_runs.specs.RunLaw.{wanted_on, wanted_over}
use Rattle.job_file.specs.declared.job.Job.{Job}
use Rattle.mill_plan.specs.Cuts.{corner_of, trace_of, run_along, program_along}
use Rattle.mill_plan.specs.Mills.{IsProgramOf}
use Rattle.side_runs.specs.Alone.{alone}
use Rattle.side_levels.specs.Lattices.{IsCutAlong, IsProgramAlong, run_with}
use Rattle.side_surfaces.specs.Strokes.{wanted_by, wants_by}
use Rattle.side_surfaces.proofs.AloneTiles.{cut_alone}

-- ---- the words of the job

cells_deep : (job : Job) (cells : List Cell) → All (λ (c : Corner). c.z ≡ job.zwork) (map (corner_of job) cells)
unfolding corner_of
cells_deep job [] = All-nil (λ (c : Corner). c.z ≡ job.zwork)
cells_deep job (c ∷ cells) = All-cons (λ (c : Corner). c.z ≡ job.zwork) (corner_of job c) (map (corner_of job) cells) refl (cells_deep job cells)

cuts_deep : (job : Job) (walks : List (List Cell)) (cuts : List (List Corner)) → AllZip (IsCutAlong job) walks cuts → All (All (λ (c : Corner). c.z ≡ job.zwork)) cuts
cuts_deep job [] [] along = All-nil (All (λ (c : Corner). c.z ≡ job.zwork))
cuts_deep job [] (cut ∷ cuts) along = absurd along
cuts_deep job (w ∷ walks) [] along = absurd along
cuts_deep job (w ∷ walks) (cut ∷ cuts) along =
    All-cons (All (λ (c : Corner). c.z ≡ job.zwork)) cut cuts (subst (All (λ (c : Corner). c.z ≡ job.zwork)) (sym along.0.is) (cells_deep job along.0.cells)) (cuts_deep job walks cuts along.1)

-- a program along the walks has the words of the job
pub words_along : (job : Job) (walks : List (List Cell)) (g : ProbeGrid) (p : Program) → IsProgramAlong job walks g p → IsProgramOf job p
words_along job walks g p a = subst (IsProgramOf job) (sym a.is) (record {
  safe = refl;
  change = refl;
  run = run_with job a.cuts;
  only = refl;
  fits = record { tool = refl; speed = refl; feed = refl; plunge = refl; depth = cuts_deep job walks a.cuts a.along };
})

-- ---- the strokes

walks_wanted : (job : Job) (g : ProbeGrid) (answers : List ℤ) (run : ToolRun) (walks : List (List Cell)) → run.tool ≡ 1
    → map (wanted_on g answers run) (map (in_pieces job.pitch (piece_of g job.pitch)) (map (trace_of job) walks)) ≡ map (wanted_by job (Some g) answers first_tile) walks
walks_wanted job g answers run [] tool = refl
walks_wanted job g answers run (w ∷ walks) tool = λ i.
    record { tool = tool i; places = map (place_on g answers) (sym (cut_alone job.pitch (in_pieces job.pitch (piece_of g job.pitch) (trace_of job w))) i) } ∷ walks_wanted job g answers run walks tool i

along_wanted : (job : Job) (g : ProbeGrid) (answers : List ℤ) (walks : List (List Cell)) → wanted_over g answers (levelled g job.pitch (program_along job walks)).runs ≡ wants_by job (Some g) answers alone walks
unfolding levelled program_along run_along
along_wanted job g answers walks = ap (λ wants. wants ++ []) (walks_wanted job g answers (run_along job walks) walks refl)

-- what the levelled program has to cut is each walk, over the surface
pub levelled_wanted : (job : Job) (g : ProbeGrid) (answers : List ℤ) (walks : List (List Cell)) (p : Program) → p ≡ program_along job walks → wanted_over g answers (levelled g job.pitch p).runs ≡ wants_by job (Some g) answers alone walks
levelled_wanted job g answers walks p is = ap (λ (q : Program). wanted_over g answers (levelled g job.pitch q).runs) is ∙ along_wanted job g answers walks
