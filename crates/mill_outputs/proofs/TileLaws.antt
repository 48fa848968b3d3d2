-- The programs in tiles: which they are, and that they can be written and run.
use Rattle.std.proofs.Common.{◌≡◌, ℕ, ◌≤◌, ℤ, unsigned_abs, List, [], ◌∷◌, map, Option, Some, None, Result, Ok, Err, refl, sym, ap, ◌∙◌, subst}
use Rattle.std.specs.Prelude.{max}
use Rattle.std.specs.Option.{option_map}
use Rattle.std.proofs.Math.Nat.{le-max_left, le-max_right, le_trans}
use Rattle.board_base.specs.declared.places.Move.{Move}
use Rattle.cell_grid.specs.declared.frames.Frame.{Frame}
use Rattle.rs274_sim.specs.Runs.{Runs, RunsTo}
use Rattle.rs274_sim.proofs.TextLaws.{size_neg}
use Rattle.mill_program.specs.declared.cuts.Program.{Program}
use Rattle.mill_program.specs.declared.probes.ProbeGrid.{ProbeGrid}
use Rattle.mill_program.specs.Conditions.{IsProgram, IsRunnable}
use Rattle.mill_program.specs.Lines.{lines_of}
use Rattle.grid_writer.specs.Laws.{SpellingOverLaw}
use Rattle.tiling.specs.declared.TileError.{TileError}
use Rattle.tiling.specs.Tiles.{tiled, shifts_of, first_past}
use Rattle.tiling.specs.Copies.{Tile, tiles_of, shift_in, tiled_in}
use Rattle.tiling.specs.Stretches.{TiledProgramLaw}
use Rattle.tiling.specs.Laws.{OneShiftLaw, OneTileLaw, ShiftsLaw, SomeShiftsLaw, TileValueLaw}
use Rattle.tile_steps.specs.Steps.{columns, rows, drilled_columns, drilled_rows, drilled_in, step_of}
use Rattle.job_file.specs.declared.job.Job.{Job}
use Rattle.job_file.proofs.FitLaws.{step}
use Rattle.mill_plan.specs.declared.isolation.Isolation.{Isolation}
use Rattle.side_runs.specs.Alone.{alone, ApartLaw}
use Rattle.mill_inputs.proofs.ContentLaws.{ok_is}
use Rattle.board_base.specs.Places.{origin}
use Rattle.mill_outputs.specs.declared.plans.Plans.{Plans}
use Rattle.mill_outputs.specs.declared.plans.Programs.{Programs}
use Rattle.mill_outputs.specs.Written.{frames_of, step_by, tiles_by, seen_in_front, seen_behind, front_step, back_step, or_refused, front_grid, levelled_if, in_tiles, in_tiles_if, Plain, all_in_tiles}
use Rattle.mill_outputs.specs.Mill.{program_text}
use Rattle.mill_outputs.proofs.TextLaws.{text_runs}

-- ---- each program

-- one program is the other in these tiles, and can be written and run there
pub record IsTiled (pitch : ℤ) (tiles : List Tile) (p q : Program) : Type 0 where
  pub is : q ≡ tiled_in pitch tiles p
  pub valid : IsProgram (tiled_in pitch tiles p)
  pub runnable : IsRunnable (tiled_in pitch tiles p)

-- the laws of programs in tiles, and of the tiles themselves
pub record TilingLaws : Type 0 where
  pub value : TileValueLaw
  pub shifts : ShiftsLaw
  pub some : SomeShiftsLaw
  pub program : TiledProgramLaw
  pub apart : ApartLaw
  pub one_shift : OneShiftLaw
  pub one_tile : OneTileLaw
  pub one : (step : Tile) → tiles_of 1 1 step ≡ alone

told : (r : Result Program TileError) (q : Program) → or_refused r ≡ Ok q → r ≡ Ok q
told (Ok p) q e = ap Ok (ok_is p q e)
told (Err error) q e = absurd (cc)

pub made_tiled : TilingLaws → (job : Job) (by : Tile) (p q : Program) → IsProgram p → IsRunnable p → in_tiles job (shift_in job.pitch by) p ≡ Ok q → IsTiled job.pitch (tiles_by job by) p q
unfolding in_tiles
made_tiled laws job by p q program runnable e =
    let value = laws.value job.tile_x job.tile_y (shift_in job.pitch by) p q (told _ q e) in
    let shifts : shifts_of job.tile_x job.tile_y (shift_in job.pitch by) ≡ map (shift_in job.pitch) (tiles_by job by) = laws.shifts job.tile_x job.tile_y job.pitch by in
    let ready = laws.program (map (shift_in job.pitch) (tiles_by job by)) p program runnable (subst (λ s. first_past (tiled s p).runs ≡ None) shifts value.1) in
    record { is = value.0 ∙ ap (λ s. tiled s p) shifts; valid = ready.0; runnable = ready.1 }

-- what the run of the lines does, the run of their text does
pub in_text : SpellingOverLaw → (pitch : ℤ) (tiles : List Tile) (p q : Program) (P : List Move → Type 0) → IsTiled pitch tiles p q → RunsTo (lines_of (tiled_in pitch tiles p)) P → Runs (program_text q) P
in_text spelled pitch tiles p q P t runs = subst (λ (r : Program). Runs (program_text r) P) (sym t.is) (text_runs spelled (tiled_in pitch tiles p) P t.valid runs)

-- in one tile a program is as it stands
pub in_one_tile : TilingLaws → (job : Job) (tiles : List Tile) (by : Tile) (p q : Program) → job.tile_x ≡ 1 → job.tile_y ≡ 1 → tiles ≡ tiles_by job by → q ≡ tiled_in job.pitch tiles p → q ≡ p
in_one_tile laws job tiles by p q across up rows is =
    let step = shift_in job.pitch by in
    let shifts : map (shift_in job.pitch) tiles ≡ origin ∷ [] =
    ap (map (shift_in job.pitch)) rows ∙ sym (laws.shifts job.tile_x job.tile_y job.pitch by) ∙ ap (λ n. shifts_of n job.tile_y step) across ∙ ap (λ n. shifts_of 1 n step) up ∙ laws.one_shift step in
    is ∙ ap (λ s. tiled s p) shifts ∙ laws.one_tile p

-- the answer of one tile is the program as it stands
pub told_one_tile : TilingLaws → (job : Job) (by : Tile) (p q : Program) → job.tile_x ≡ 1 → job.tile_y ≡ 1 → in_tiles job (shift_in job.pitch by) p ≡ Ok q → q ≡ p
unfolding in_tiles
told_one_tile laws job by p q across up e =
    let value = laws.value job.tile_x job.tile_y (shift_in job.pitch by) p q (told _ q e) in
    in_one_tile laws job (tiles_by job by) by p q across up refl (value.0 ∙ ap (λ s. tiled s p) (laws.shifts job.tile_x job.tile_y job.pitch by))

-- and its tile is the board's own
pub tiles_alone : TilingLaws → (job : Job) (by : Tile) → job.tile_x ≡ 1 → job.tile_y ≡ 1 → tiles_by job by ≡ alone
tiles_alone laws job by across up = ap (λ n. tiles_of n job.tile_y by) across ∙ ap (λ n. tiles_of 1 n by) up ∙ laws.one by

-- ---- all programs

-- each of them in its tiles, and the front's over its grid
pub record AreEachTiled (job : Job) (plain : Plain) (programs : Programs) : Type 0 where
  pub grid : Option ProbeGrid
  pub probed : front_grid job plain.frame ≡ Ok grid
  pub front : in_tiles_if job (front_step job plain.step) (option_map (levelled_if grid job.pitch) plain.front) ≡ Ok programs.front
  pub back : in_tiles_if job (back_step job plain.step) plain.back ≡ Ok programs.back
  pub drill : in_tiles_if job (front_step job plain.step) plain.drill ≡ Ok programs.drill
  pub outline : in_tiles_if job (front_step job plain.step) plain.outline ≡ Ok programs.outline

pub each_tiled : (job : Job) (plain : Plain) (programs : Programs) → all_in_tiles job plain ≡ Ok programs → AreEachTiled job plain programs
unfolding all_in_tiles
each_tiled job plain programs e =
    let g = step (front_grid job plain.frame) _ programs e in
    let f = step (in_tiles_if job (front_step job plain.step) (option_map (levelled_if g.0 job.pitch) plain.front)) _ programs g.2 in
    let b = step (in_tiles_if job (back_step job plain.step) plain.back) _ programs f.2 in
    let d = step (in_tiles_if job (front_step job plain.step) plain.drill) _ programs b.2 in
    let o = step (in_tiles_if job (front_step job plain.step) plain.outline) _ programs d.2 in
    let is : record { front = f.0; back = b.0; drill = d.0; outline = o.0 } ≡ programs = ok_is (record { front = f.0; back = b.0; drill = d.0; outline = o.0 }) programs o.2 in
    record {
      grid = g.0;
      probed = g.1;
      front = f.1 ∙ ap (λ (p : Programs). Ok p.front) is;
      back = b.1 ∙ ap (λ (p : Programs). Ok p.back) is;
      drill = d.1 ∙ ap (λ (p : Programs). Ok p.drill) is;
      outline = o.1 ∙ ap (λ (p : Programs). Ok p.outline) is;
    }

-- ---- the step holds each frame

-- the frame is no wider than the step, and no higher
pub record IsHeldBy (by : Tile) (f : Frame) : Type 0 where
  pub wide : f.width ≤ unsigned_abs by.east
  pub high : f.height ≤ unsigned_abs by.north

first_in : (a b c d : ℕ) → a ≤ max 1 (max (max a b) (max c d))
first_in a b c d = le_trans (le-max_left a b) (le_trans (le-max_left (max a b) (max c d)) (le-max_right 1 (max (max a b) (max c d))))

second_in : (a b c d : ℕ) → b ≤ max 1 (max (max a b) (max c d))
second_in a b c d = le_trans (le-max_right a b) (le_trans (le-max_left (max a b) (max c d)) (le-max_right 1 (max (max a b) (max c d))))

-- the step of the front holds its frame
pub front_held : (job : Job) (plans : Plans) (plan : Isolation) → plans.front ≡ Some plan → IsHeldBy (seen_in_front (step_by job plans)) plan.frame
unfolding step_of
front_held job plans plan there =
    let frames = frames_of plans in
    let same : frames.front ≡ Some plan.frame = ap (option_map (λ (p : Isolation). p.frame)) there in
    let box = drilled_in plans.drill in
    record {
      wide = subst (λ n. n ≤ max 1 (max (max (columns frames.front) (columns frames.back)) (max (columns frames.outline) (drilled_columns job.pitch box)))) (ap columns same)
          (first_in (columns frames.front) (columns frames.back) (columns frames.outline) (drilled_columns job.pitch box));
      high = subst (λ n. n ≤ max 1 (max (max (rows frames.front) (rows frames.back)) (max (rows frames.outline) (drilled_rows job.pitch box)))) (ap rows same)
          (first_in (rows frames.front) (rows frames.back) (rows frames.outline) (drilled_rows job.pitch box));
    }

-- and that of the back holds the back's
pub back_held : (job : Job) (plans : Plans) (plan : Isolation) → plans.back ≡ Some plan → IsHeldBy (seen_behind (step_by job plans)) plan.frame
unfolding step_of
back_held job plans plan there =
    let frames = frames_of plans in
    let same : frames.back ≡ Some plan.frame = ap (option_map (λ (p : Isolation). p.frame)) there in
    let box = drilled_in plans.drill in
    record {
      wide = subst (λ n. plan.frame.width ≤ n) (sym (size_neg (max 1 (max (max (columns frames.front) (columns frames.back)) (max (columns frames.outline) (drilled_columns job.pitch box))))))
          (subst (λ n. n ≤ max 1 (max (max (columns frames.front) (columns frames.back)) (max (columns frames.outline) (drilled_columns job.pitch box)))) (ap columns same)
          (second_in (columns frames.front) (columns frames.back) (columns frames.outline) (drilled_columns job.pitch box)));
      high = subst (λ n. n ≤ max 1 (max (max (rows frames.front) (rows frames.back)) (max (rows frames.outline) (drilled_rows job.pitch box)))) (ap rows same)
          (second_in (rows frames.front) (rows frames.back) (rows frames.outline) (drilled_rows job.pitch box));
    }
