-- Done, in plain steps.
use Rattle.std.proofs.Common.{◌≡◌, ◌⊎◌, inl, inr, ℕ, ◌<◌, ℤ, List, length, map, Option, Some, None, Result, Ok, refl, sym, ap, ◌∙◌, subst}
use Rattle.std.specs.Prelude.{is_some, IfSome}
use Rattle.std.specs.Option.{option_map}
use Rattle.std.specs.List.{All, AllByRecursion}
use Rattle.std.proofs.lemmas.List.Elements.{All-append, All-from_recursion}
use Rattle.board_base.specs.Files.{Files}
use Rattle.board_base.specs.declared.places.Point.{Point}
use Rattle.board_base.specs.Binds.{◌>>=◌}
use Rattle.shape_parts.specs.declared.shape.Painted.{Painted}
use Rattle.excellon.specs.declared.file.DrillFile.{DrillFile}
use Rattle.drill_plan.specs.declared.plans.ToolPlan.{ToolPlan}
use Rattle.drill_plan.specs.Plan.{IsDrillPlan}
use Rattle.drill_plan.specs.Limits.{IsWithinLimits}
use Rattle.drill_program.specs.Program.{program_of}
use Rattle.drill_program.proofs.ProgramLaws.{program_in, program_runs}
use Rattle.levelling.specs.Pieces.{levelled}
use Rattle.mill_program.specs.declared.cuts.Program.{Program}
use Rattle.mill_program.specs.declared.probes.ProbeGrid.{ProbeGrid}
use Rattle.tiling.specs.Copies.{Tile, shift_in}
use Rattle.job_file.specs.declared.job.Job.{Job}
use Rattle.job_file.specs.Ranges.{IsInRanges}
use Rattle.job_file.specs.Together.{GoTogether}
use Rattle.job_file.proofs.FitLaws.{step}
use Rattle.mill_plan.specs.declared.isolation.Isolation.{Isolation}
use Rattle.mill_plan.specs.Isolated.{IsIsolationOf}
use Rattle.outline_plan.specs.declared.plan.OutlineCut.{OutlineCut}
use Rattle.outline_plan.specs.CutOut.{CutsOut}
use Rattle.endings.specs.declared.status.Status.{Status}
use Rattle.endings.specs.declared.status.Status.TheVariants.{Done}
use Rattle.endings.specs.Answers.{IfTold}
use Rattle.endings.specs.Outputs.{all_stored}
use Rattle.endings.specs.Reads.{Reading, held_in}
use Rattle.endings.specs.Ending.{Ending, Reaches}
use Rattle.endings.specs.Run.{Leaves}
use Rattle.mill_inputs.specs.Accepted.{accepted}
use Rattle.mill_outputs.specs.Written.{step_by, seen_in_front, seen_behind, tiles_by, front_step, back_step, front_grid, levelled_if, in_tiles, in_tiles_if, plain_of, AreMade}
use Rattle.mill_outputs.specs.declared.plans.Plans.{Plans}
use Rattle.mill_outputs.specs.Mill.{files_of, Milled, Ends}
use Rattle.mill_outputs.specs.Headline.{Wrote, made_if, front_tiles, back_tiles, Side, milled_side, front_of, back_of, OfSides, IsProbed, LevelsFront, drilling, OfHoles, DrillsHoles, CutBoard, cut_board, OfOutline}
use Rattle.mill_outputs.specs.Done.{AfterDone}
use Rattle.mill_outputs.proofs.PlanLaws.{IsFor, planned_isolate, planned_drill, planned_outline}
use Rattle.mill_outputs.proofs.MadeLaws.{made_is}
use Rattle.mill_outputs.proofs.MillLaws.{of_done}
use Rattle.mill_outputs.proofs.TileLaws.{TilingLaws, IsTiled, made_tiled, told_one_tile, tiles_alone, AreEachTiled, each_tiled, front_held, back_held}
use Rattle.mill_outputs.proofs.GridLaws.{IsGridFor, probed_is, asked_for, both_one}
use Rattle.mill_outputs.proofs.SideLaws.{IsOverGrid, IsSideIn, no_grid, levelled_grid}
use Rattle.mill_outputs.proofs.HoleLaws.{HoleLaws, drills_holes, planned_within}
use Rattle.mill_outputs.proofs.BoardLaws.{IsBoardIn}
use Rattle.mill_outputs.proofs.AcceptedLaws.{IsAccepted, accepted_stands, side_job}
use Rattle.mill_outputs.proofs.StoredLaws.{all_in, stored_in, each_held}
use Rattle.mill_outputs.proofs.FileLaws.{files_apart}

-- ---- an input, its plan and its program

pub some_tiled : (r : Result Program Status) (q : Program) → (r >>= (λ p. Ok (Some p))) ≡ Ok (Some q) → r ≡ Ok q
some_tiled r q e =
    let s = step r (λ p. Ok (Some p)) (Some q) e in
    s.1 ∙ ap Ok (same s.0 q s.2)
  where
    same : (p q : Program) → ◌≡◌ {A = Result (Option Program) Status} (Ok (Some p)) (Ok (Some q)) → p ≡ q
    same p q e = cc

-- what holds of each of them holds of what they make
of_made : {A B C : Type 0} (R : A → B → Type 0) (P : C → Type 0) (make : A → B → Program → C) (plain : B → Program) (job : Job) (by : Point) (given : Option A) (plan : Option B) (program : Option Program)
    → ((g : A) (p : B) (q : Program) → given ≡ Some g → plan ≡ Some p → R g p → in_tiles job by (plain p) ≡ Ok q → P (make g p q)) → IsFor R given plan
    → in_tiles_if job by (option_map plain plan) ≡ Ok program → AllByRecursion P (made_if make given plan program)
of_made R P make plain job by None None None each h e = tt
of_made R P make plain job by None None (Some q) each h e = tt
of_made R P make plain job by None (Some p) program each h e = absurd h
of_made R P make plain job by (Some g) None program each h e = absurd h
of_made R P make plain job by (Some g) (Some p) None each h e = tt
of_made R P make plain job by (Some g) (Some p) (Some q) each h e = (each g p q refl refl h (some_tiled (in_tiles job by (plain p)) q e), tt)

-- the programs of what was milled, each in its tiles
tiled_of : (m : Milled) → AreMade m.accepts (Ok m.made) → AreEachTiled m.accepts.job (plain_of m.accepts.job m.made.plans) m.made.programs
tiled_of m made = each_tiled m.accepts.job (plain_of m.accepts.job m.made.plans) m.made.programs (made_is m.accepts m.made made).programs

-- ---- each side

-- the front's program, over its grid, if any, of a plan that is there
levelled_twice : (grid : Option ProbeGrid) (pitch : ℤ) (plan : Option Isolation) → option_map (levelled_if grid pitch) (option_map (λ (p : Isolation). p.program) plan) ≡ option_map (λ (p : Isolation). levelled_if grid pitch p.program) plan
levelled_twice grid pitch None = refl
levelled_twice grid pitch (Some plan) = refl

-- the front in its tiles, as it was planned or levelled
pub front_made : TilingLaws → (job : Job) (by : Tile) (image : List Painted) (plan : Isolation) (q : Program) (grid : Option ProbeGrid) → IsInRanges job → GoTogether None job → IsIsolationOf job image plan → IsGridFor job plan.frame grid
    → in_tiles job (shift_in job.pitch by) (levelled_if grid job.pitch plan.program) ≡ Ok q → IsTiled job.pitch (tiles_by job by) plan.program q ⊎ IsOverGrid job (tiles_by job by) plan q
front_made laws job by image plan q None ranges together isolates is e = inl (made_tiled laws job by plan.program q isolates.program isolates.runnable e)
front_made laws job by image plan q (Some g) ranges together isolates is e =
    let asked = asked_for job plan.frame g is in
    let one = both_one job.tile_x job.tile_y ranges.tile_x.low ranges.tile_y.low (together.levelled asked.0) in
    inr (record {
      grid = g;
      asked = asked.0;
      over = asked.1;
      one = tiles_alone laws job by one.0 one.1;
      is = told_one_tile laws job by (levelled g job.pitch plan.program) q one.0 one.1 e;
    })

-- the grid of the front's frame
frame_grid : (job : Job) (plans : Plans) (plan : Isolation) (grid : Option ProbeGrid) → plans.front ≡ Some plan → front_grid job (option_map (λ (p : Isolation). p.frame) plans.front) ≡ Ok grid → IsGridFor job plan.frame grid
frame_grid job plans plan grid there e = probed_is job plan.frame grid (subst (λ (o : Option Isolation). front_grid job (option_map (λ (p : Isolation). p.frame) o) ≡ Ok grid) there e)

-- what holds of each front holds of the front, where it was milled
of_front : TilingLaws → (P : Side → Type 0) (m : Milled)
    → ((job : Job) (tiles : List Tile) (image : List Painted) (plan : Isolation) (q : Program) (grid : Option ProbeGrid) → IsSideIn job tiles image plan q → IsGridFor job plan.frame grid → q.grid ≡ grid → P (milled_side job tiles image plan q))
    → IsAccepted m.accepts → AreMade m.accepts (Ok m.made) → All P (front_of m)
of_front laws P m each ok made =
    let job = m.accepts.job in
    let plans = m.made.plans in
    let isolate = planned_isolate m.accepts plans (made_is m.accepts m.made made).planned in
    let tiled = tiled_of m made in
    let by = seen_in_front (step_by job plans) in
    let plain : Isolation → Program = λ p. levelled_if tiled.grid job.pitch p.program in
    let same = levelled_twice tiled.grid job.pitch plans.front in
    All-from_recursion P _
    (of_made (IsIsolationOf job) P (milled_side job (front_tiles m)) plain job (front_step job (step_by job plans)) m.accepts.front plans.front m.made.programs.front
    (λ image plan q given there isolates e.
    let grid = frame_grid job plans plan tiled.grid there tiled.probed in
    let its = front_made laws job by image plan q tiled.grid ok.ranges ok.together isolates grid e in
    each job (front_tiles m) image plan q tiled.grid
    (record {
      job_ok = (side_job m.accepts ok).0 (ap is_some given);
      by = by;
      rows = refl;
      isolates = isolates;
      apart = let held = front_held job plans plan there in laws.apart plan.frame job.tile_x job.tile_y by held.wide held.high;
      made = its;
    })
    grid (made_grid laws job by image plan q tiled.grid ok.ranges ok.together isolates grid e)) isolate.0
    (subst (λ (p : Option Program). in_tiles_if job (front_step job (step_by job plans)) p ≡ Ok m.made.programs.front) same tiled.front))
  where
    made_grid : TilingLaws → (job : Job) (by : Tile) (image : List Painted) (plan : Isolation) (q : Program) (grid : Option ProbeGrid) → IsInRanges job → GoTogether None job → IsIsolationOf job image plan → IsGridFor job plan.frame grid
        → in_tiles job (shift_in job.pitch by) (levelled_if grid job.pitch plan.program) ≡ Ok q → q.grid ≡ grid
    made_grid laws job by image plan q None ranges together isolates is e = no_grid job.pitch (tiles_by job by) plan.program q (made_tiled laws job by plan.program q isolates.program isolates.runnable e)
    made_grid laws job by image plan q (Some g) ranges together isolates is e =
        let asked = asked_for job plan.frame g is in
        let one = both_one job.tile_x job.tile_y ranges.tile_x.low ranges.tile_y.low (together.levelled asked.0) in
        ap (λ (r : Program). r.grid) (told_one_tile laws job by (levelled g job.pitch plan.program) q one.0 one.1 e) ∙ levelled_grid g job.pitch plan.program

of_back : TilingLaws → (P : Side → Type 0) (m : Milled)
    → ((job : Job) (tiles : List Tile) (image : List Painted) (plan : Isolation) (q : Program) → IsSideIn job tiles image plan q → q.grid ≡ None → P (milled_side job tiles image plan q))
    → IsAccepted m.accepts → AreMade m.accepts (Ok m.made) → All P (back_of m)
of_back laws P m each ok made =
    let job = m.accepts.job in
    let plans = m.made.plans in
    let isolate = planned_isolate m.accepts plans (made_is m.accepts m.made made).planned in
    let by = seen_behind (step_by job plans) in
    All-from_recursion P _
    (of_made (IsIsolationOf job) P (milled_side job (back_tiles m)) (λ (p : Isolation). p.program) job (back_step job (step_by job plans)) m.accepts.back plans.back m.made.programs.back
    (λ image plan q given there isolates e.
    let tiled = made_tiled laws job by plan.program q isolates.program isolates.runnable e in
    each job (back_tiles m) image plan q
    (record {
      job_ok = (side_job m.accepts ok).1 (ap is_some given);
      by = by;
      rows = refl;
      isolates = isolates;
      apart = let held = back_held job plans plan there in laws.apart plan.frame job.tile_x job.tile_y by held.wide held.high;
      made = inl tiled;
    })
    (no_grid job.pitch (tiles_by job by) plan.program q tiled)) isolate.1 (tiled_of m made).back)

of_sides : TilingLaws → (P : Side → Type 0) (m : Milled)
    → ((job : Job) (tiles : List Tile) (image : List Painted) (plan : Isolation) (q : Program) → IsSideIn job tiles image plan q → P (milled_side job tiles image plan q))
    → IsAccepted m.accepts → AreMade m.accepts (Ok m.made) → OfSides P m
of_sides laws P m each ok made =
    All-append P (front_of m) (back_of m) (of_front laws P m (λ job tiles image plan q grid s is its. each job tiles image plan q s) ok made)
    (of_back laws P m (λ job tiles image plan q s none. each job tiles image plan q s) ok made)

-- ---- the holes

of_holes : TilingLaws → HoleLaws → (m : Milled) → IsAccepted m.accepts → AreMade m.accepts (Ok m.made) → OfHoles DrillsHoles m
of_holes laws holes m ok made =
    let job = m.accepts.job in
    let plans = m.made.plans in
    let planned = (made_is m.accepts m.made made).planned in
    let within = planned_within holes.few holes.limits m.accepts plans ok.drilled ok.stands planned in
    All-from_recursion DrillsHoles _
    (of_made (λ (file : DrillFile) (plan : List ToolPlan). IsDrillPlan file job.drills_available plan) DrillsHoles (drilling job (front_tiles m)) (program_of job) job (front_step job (step_by job plans))
    m.accepts.drill plans.drill m.made.programs.drill
    (λ file plan q given there drills e. drills_holes laws holes job (record { ranges = ok.ranges; change = ok.together.change }) (seen_in_front (step_by job plans)) file plan q drills (held plans.drill plan there within) e)
    (planned_drill m.accepts plans planned) (tiled_of m made).drill)
  where
    held : (o : Option (List ToolPlan)) (plan : List ToolPlan) → o ≡ Some plan → IfSome o IsWithinLimits → IsWithinLimits plan
    held o plan there within = subst (λ o. IfSome o IsWithinLimits) there within

-- ---- the outline

some_tiles : TilingLaws → (job : Job) → IsInRanges job → (by : Tile) → 0 < length (map (shift_in job.pitch) (tiles_by job by))
some_tiles laws job ranges by =
    subst (λ shifts. 0 < length shifts) (laws.shifts job.tile_x job.tile_y job.pitch by) (laws.some job.tile_x job.tile_y (shift_in job.pitch by) ranges.tile_x.low ranges.tile_y.low)

of_outline : TilingLaws → (P : CutBoard → Type 0) (m : Milled)
    → ((job : Job) (tiles : List Tile) (image : List Painted) (plan : OutlineCut) (q : Program) → IsBoardIn job tiles image plan q → P (cut_board job tiles image plan q))
    → IsAccepted m.accepts → AreMade m.accepts (Ok m.made) → OfOutline P m
of_outline laws P m each ok made =
    let job = m.accepts.job in
    let plans = m.made.plans in
    All-from_recursion P _
    (of_made (CutsOut job) P (cut_board job (front_tiles m)) (λ (p : OutlineCut). p.program) job (front_step job (step_by job plans)) m.accepts.outline plans.outline m.made.programs.outline
    (λ image plan q given there cuts e. each job (front_tiles m) image plan q (record {
      ranges = ok.ranges;
      some = some_tiles laws job ok.ranges (seen_in_front (step_by job plans));
      cuts = cuts;
      tiled = made_tiled laws job (seen_in_front (step_by job plans)) plan.program q cuts.valid cuts.runnable e;
    })) (planned_outline m.accepts plans (made_is m.accepts m.made made).planned) (tiled_of m made).outline)

-- ---- the surface

-- a program in tiles has no grid where the plain one has none
none_had : {A B : Type 0} (R : A → B → Type 0) (plain : B → Program) (job : Job) (by : Point) (given : Option A) (plan : Option B) (program : Option Program)
    → ((g : A) (p : B) (q : Program) → R g p → plan ≡ Some p → in_tiles job by (plain p) ≡ Ok q → q.grid ≡ None) → IsFor R given plan → in_tiles_if job by (option_map plain plan) ≡ Ok program → IfSome program (λ q. q.grid ≡ None)
none_had R plain job by given plan None each h e = tt
none_had R plain job by None None (Some q) each h e = absurd (none_made q e)
  where
    none_made : (q : Program) → ◌≡◌ {A = Result (Option Program) Status} (Ok None) (Ok (Some q)) → ⊥
    none_made q e = cc
none_had R plain job by None (Some p) (Some q) each h e = absurd h
none_had R plain job by (Some g) None (Some q) each h e = absurd h
none_had R plain job by (Some g) (Some p) (Some q) each h e = each g p q h refl (some_tiled (in_tiles job by (plain p)) q e)

levels_front : TilingLaws → HoleLaws → (m : Milled) → IsAccepted m.accepts → AreMade m.accepts (Ok m.made) → LevelsFront m
levels_front laws holes m ok made =
    let job = m.accepts.job in
    let plans = m.made.plans in
    let planned = (made_is m.accepts m.made made).planned in
    let within = planned_within holes.few holes.limits m.accepts plans ok.drilled ok.stands planned in
    let by = seen_in_front (step_by job plans) in
    let tiled = tiled_of m made in
    record {
      front = of_front laws IsProbed m (λ job tiles image plan q grid s is its. subst (λ (g : Option ProbeGrid). IsGridFor job plan.frame g) (sym its) is) ok made;
      back = of_back laws (λ side. side.grid ≡ None) m (λ job tiles image plan q s none. none) ok made;
      drill = none_had (λ (file : DrillFile) (plan : List ToolPlan). IsDrillPlan file job.drills_available plan) (program_of job) job (front_step job (step_by job plans)) m.accepts.drill plans.drill m.made.programs.drill
          (λ file plan q drills there e.
          no_grid job.pitch (tiles_by job by) (program_of job plan) q
          (made_tiled laws job by (program_of job plan) q (program_in job ok.ranges plan (held plans.drill plan there within)) (program_runs job ok.ranges plan ok.together.change) e))
          (planned_drill m.accepts plans planned) tiled.drill;
      outline = none_had (CutsOut job) (λ (p : OutlineCut). p.program) job (front_step job (step_by job plans)) m.accepts.outline plans.outline m.made.programs.outline
          (λ image plan q cuts there e. no_grid job.pitch (tiles_by job by) plan.program q (made_tiled laws job by plan.program q cuts.valid cuts.runnable e))
          (planned_outline m.accepts plans planned) tiled.outline;
    }
  where
    held : (o : Option (List ToolPlan)) (plan : List ToolPlan) → o ≡ Some plan → IfSome o IsWithinLimits → IsWithinLimits plan
    held o plan there within = subst (λ o. IfSome o IsWithinLimits) there within

-- ---- what was written

wrote : (P : Milled → Type 0) (words : List (List ℕ)) (files : Files) (now : Option Files) (m : Milled) → accepted words (held_in files) ≡ Ok m.accepts → AreMade m.accepts (Ok m.made)
    → now ≡ all_stored (files_of (m.accepts).job m.made) (Some files) → P m → Wrote P words files now
wrote P words files now m given is_made stored holds =
    let outputs = files_of (m.accepts).job m.made in
    record {
      accepts = m.accepts;
      given = given;
      made = m.made;
      is_made = is_made;
      after = all_in outputs files;
      told = stored ∙ stored_in outputs files;
      stored = sym (stored_in outputs files);
      each = λ file. each_held outputs files file (files_apart (m.accepts).job m.made);
      holds = holds;
    }

done_told : (P : Milled → Type 0) (words : List (List ℕ)) (before now : Option Files) → ((m : Milled) → IsAccepted m.accepts → AreMade m.accepts (Ok m.made) → P m)
    → Reaches (Ends words) before (λ e. (e.status ≡ Done) × (now ≡ all_stored e.outputs before)) → IfTold before (λ files. Wrote P words files now)
done_told P words None now holds r = tt
done_told P words (Some files) now holds r =
    let p = of_done words (held_in files) r.2 (subst (λ (given : Reading). Ends words given r.2) r.1 r.3) (r.4).0 in
    wrote P words files now p.0 (p.1).0 (p.1).1 ((r.4).1 ∙ ap (λ (e : Ending). all_stored e.outputs (Some files)) p.2) (holds p.0 (accepted_stands words (held_in files) (p.0).accepts (p.1).0) (p.1).1)

-- after Done the files of what was made are stored, and what holds of all that is made holds of it
pub after_done : (P : Milled → Type 0) → ((m : Milled) → IsAccepted m.accepts → AreMade m.accepts (Ok m.made) → P m) → AfterDone P
after_done P holds words result before now leaves done = done_told P words before.files now.files holds (subst (λ s. Leaves (Ends words) s before now) done leaves)

-- the same of what holds of each side in its tiles
pub sides_after_done : TilingLaws → (P : Side → Type 0)
    → ((job : Job) (tiles : List Tile) (image : List Painted) (plan : Isolation) (q : Program) → IsSideIn job tiles image plan q → P (milled_side job tiles image plan q)) → AfterDone (OfSides P)
sides_after_done laws P each = after_done (OfSides P) (λ m. of_sides laws P m each)

-- the front alone is levelled, and exactly where the job asks for it
pub levels_after_done : TilingLaws → HoleLaws → AfterDone LevelsFront
levels_after_done laws holes = after_done LevelsFront (levels_front laws holes)

-- the same of the holes
pub holes_after_done : TilingLaws → HoleLaws → AfterDone (OfHoles DrillsHoles)
holes_after_done laws holes = after_done (OfHoles DrillsHoles) (of_holes laws holes)

-- the same of the outline
pub outline_after_done : TilingLaws → (P : CutBoard → Type 0)
    → ((job : Job) (tiles : List Tile) (image : List Painted) (plan : OutlineCut) (q : Program) → IsBoardIn job tiles image plan q → P (cut_board job tiles image plan q)) → AfterDone (OfOutline P)
outline_after_done laws P each = after_done (OfOutline P) (λ m. of_outline laws P m each)
