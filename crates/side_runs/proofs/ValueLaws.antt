-- The answer of `tile` for a side's program.
use Rattle.std.proofs.Common.{◌≡◌, ◌<◌, ℤ, List, ◌++◌, map, length, None, sym, ap, subst, ◌∙◌, arith}
use Rattle.std.specs.List.{All}
use Rattle.std.proofs.lemmas.List.{length-map}
use Rattle.std.proofs.lemmas.List.Elements.{All-map}
use Rattle.board_base.specs.declared.places.Point.{Point}
use Rattle.mill_program.specs.declared.cuts.Corner.{Corner}
use Rattle.mill_program.specs.declared.cuts.ToolRun.{ToolRun}
use Rattle.mill_program.specs.declared.cuts.Program.{Program}
use Rattle.tiling.specs.Copies.{Tile, shift_in, tiled_in, tiles_of}
use Rattle.tiling.specs.Laws.{ShiftsLaw, SomeShiftsLaw, TileValueLaw}
use Rattle.tiling.specs.Stretches.{TiledProgramLaw}
use Rattle.tiling.specs.Tiles.{corner_in, run_in, tiled, shifts_of, first_past}
use Rattle.tiling.proofs.ProgramLaws.{copies_all}
use Rattle.job_file.specs.declared.job.Job.{Job}
use Rattle.mill_plan.specs.Mills.{IsRunOf, IsProgramOf}
use Rattle.mill_plan.specs.Cuts.{all_of}
use Rattle.side_runs.specs.Alone.{ApartLaw}
use Rattle.side_runs.specs.Sides.{TiledSideLaw}
use Rattle.side_runs.specs.SideStrokes.{TiledStrokesLaw}
use Rattle.side_runs.specs.TileStretches.{TileStretchesLaw}
use Rattle.side_runs.specs.TiledSide.{IsTiledSide, TiledValueLaw}

-- ---- the words of the job

run_fits : (job : Job) (shifts : List Point) (run : ToolRun) → IsRunOf job run → IsRunOf job (run_in shifts run)
run_fits job shifts run fits = record {
  tool = fits.tool;
  speed = fits.speed;
  feed = fits.feed;
  plunge = fits.plunge;
  depth = copies_all (All (λ (c : Corner). c.z ≡ job.zwork)) (λ by cut deep. All-map (λ (c : Corner). c.z ≡ job.zwork) (corner_in by) cut deep) run.cuts shifts fits.depth;
}

-- a program in tiles has the words of the program
pub words_tiled : (job : Job) (shifts : List Point) (p : Program) → IsProgramOf job p → IsProgramOf job (tiled shifts p)
unfolding tiled
words_tiled job shifts p words = record {
  safe = words.safe;
  change = words.change;
  run = run_in shifts words.run;
  only = ap (map (run_in shifts)) words.only;
  fits = run_fits job shifts words.run words.fits;
}

-- ---- the answer

some_tiles : (p : ℤ) (tiles : List Tile) (shifts : List Point) → shifts ≡ map (shift_in p) tiles → 0 < length shifts → 0 < length tiles
some_tiles p tiles shifts same some =
    let e : length shifts ≡ length (map (shift_in p) tiles) = ap length same in
    let f : length (map (shift_in p) tiles) ≡ length tiles = length-map tiles (shift_in p) in
    omega (arith, some, e, f)

pub tiled_value_holds : TileValueLaw → ShiftsLaw → SomeShiftsLaw → TiledProgramLaw → ApartLaw → TiledSideLaw → TiledStrokesLaw → TileStretchesLaw → TiledValueLaw
tiled_value_holds value cells some program apart side strokes stretches job painted plan across up step answer ok i a u east north e =
    let p : Program = plan.program in
    let tiles : List Tile = tiles_of across up step in
    let v = value across up (shift_in job.pitch step) p answer e in
    let same : shifts_of across up (shift_in job.pitch step) ≡ map (shift_in job.pitch) tiles = cells across up job.pitch step in
    let is : tiled_in job.pitch tiles p ≡ answer = ap (λ (s : List Point). tiled s p) (sym same) ∙ sym v.0 in
    let none : first_past (tiled_in job.pitch tiles p).runs ≡ None = subst (λ (s : List Point). first_past (tiled s p).runs ≡ None) same v.1 in
    let both = program (map (shift_in job.pitch) tiles) p i.program i.runnable none in
    subst (IsTiledSide job painted i.number plan.groups.items (all_of i.traced.passes ++ i.traced.runs) tiles) is (record {
      words = words_tiled job (map (shift_in job.pitch) tiles) p i.words;
      program = both.0;
      runnable = both.1;
      mills = side job painted plan tiles ok i (apart plan.frame across up step east north) both.0 both.1;
      strokes = strokes job painted plan tiles i both.0 both.1;
      stretches = stretches job painted plan tiles ok i (some_tiles job.pitch tiles (shifts_of across up (shift_in job.pitch step)) same (some across up (shift_in job.pitch step) a u)) both.0;
    })
