-- What the making of files asks of plans and of programs.
use Rattle.std.proofs.Common.{◌≡◌, ◌⊎◌, inl, inr, true, List, Option, Some, None, Result, Ok, refl, sym, subst}
use Rattle.std.specs.Prelude.{is_some, IfSome}
use Rattle.std.specs.Option.{option_map}
use Rattle.board_base.specs.Lattice.{IsPitch}
use Rattle.shape_parts.specs.declared.shape.Painted.{Painted}
use Rattle.drill_plan.specs.declared.plans.ToolPlan.{ToolPlan}
use Rattle.drill_plan.specs.Limits.{IsWithinLimits}
use Rattle.drill_program.specs.Program.{program_of}
use Rattle.drill_program.proofs.ProgramLaws.{program_in, program_runs}
use Rattle.mill_program.specs.declared.cuts.Program.{Program}
use Rattle.mill_program.specs.declared.probes.ProbeGrid.{ProbeGrid}
use Rattle.mill_program.specs.Conditions.{IsProgram, IsRunnable}
use Rattle.levelling.specs.Pieces.{IsLatticeProgram, levelled}
use Rattle.grid_writer.specs.Conditions.{IsWritable}
use Rattle.tiling.specs.Copies.{Tile, shift_in}
use Rattle.tile_steps.specs.Steps.{IsNarrow, AreNarrow}
use Rattle.job_file.specs.declared.job.Job.{Job}
use Rattle.job_file.specs.Ranges.{IsInRanges}
use Rattle.mill_plan.specs.declared.isolation.Isolation.{Isolation}
use Rattle.mill_plan.specs.Cutting.{side_cutting}
use Rattle.job_file.proofs.RangeLaws.{is_pitch}
use Rattle.mill_plan.specs.Job.{IsSideJob}
use Rattle.side_levels.specs.Lattices.{LatticeLaw}
use Rattle.side_levels.specs.Probed.{MayBeProbed, ProbedLaw}
use Rattle.side_surfaces.specs.Levelled.{LevelledSidesLaw}
use Rattle.outline_plan.specs.declared.plan.OutlineCut.{OutlineCut}
use Rattle.outline_plan.specs.Job.{outline_cutting}
use Rattle.outline_plan.specs.CutOut.{board_of}
use Rattle.endings.specs.declared.status.Status.{Status}
use Rattle.mill_inputs.specs.Accepted.{Accepts}
use Rattle.mill_outputs.specs.declared.plans.Plans.{Plans}
use Rattle.mill_outputs.specs.declared.plans.Programs.{Programs}
use Rattle.mill_outputs.specs.Planned.{ArePlanned}
use Rattle.mill_outputs.specs.Written.{frames_of, step_by, tiles_by, seen_in_front, seen_behind, HasTiles, front_grid, levelled_if, in_tiles, in_tiles_if, plain_of, all_in_tiles, AreValid}
use Rattle.mill_outputs.proofs.PlanLaws.{Isolates, CutsAlong, planned_isolate, planned_outline}
use Rattle.mill_outputs.proofs.AcceptedLaws.{IsAccepted, side_job}
use Rattle.mill_outputs.proofs.NarrowLaws.{frame_narrow}
use Rattle.mill_outputs.proofs.TextLaws.{plain_written, levelled_written}
use Rattle.mill_outputs.proofs.TileLaws.{TilingLaws, IsTiled, made_tiled, each_tiled}
use Rattle.mill_outputs.proofs.GridLaws.{probed_is}
use Rattle.mill_outputs.proofs.SideLaws.{IsOverGrid}
use Rattle.mill_outputs.proofs.HeadlineLaws.{some_tiled, front_made}

-- ---- the job

pub has_tiles : (job : Job) → IsInRanges job → HasTiles job
has_tiles job ranges = record { across = (ranges.tile_x.low, ranges.tile_x.high); up = (ranges.tile_y.low, ranges.tile_y.high) }

pub has_pitch : (job : Job) → IsInRanges job → IsPitch job.pitch
has_pitch job ranges = is_pitch job.pitch ranges.pitch

-- ---- frames

side_narrow : (job : Job) (image : Option (List Painted)) (plan : Option Isolation) → IsPitch job.pitch → Isolates job image plan → IfSome (option_map (λ (p : Isolation). p.frame) plan) (IsNarrow job.pitch)
unfolding side_cutting
side_narrow job image None pitch h = tt
side_narrow job None (Some plan) pitch h = absurd h
side_narrow job (Some image) (Some plan) pitch h = frame_narrow (side_cutting job) image plan.frame pitch h.framed

outline_narrow : (job : Job) (image : Option (List Painted)) (plan : Option OutlineCut) → IsPitch job.pitch → CutsAlong job image plan → IfSome (option_map (λ (p : OutlineCut). p.frame) plan) (IsNarrow job.pitch)
unfolding outline_cutting
outline_narrow job image None pitch h = tt
outline_narrow job None (Some plan) pitch h = absurd h
outline_narrow job (Some image) (Some plan) pitch h = frame_narrow (outline_cutting job) (board_of h.loops) plan.frame pitch h.framed

pub plans_narrow : (x : Accepts) (plans : Plans) → IsPitch x.job.pitch → ArePlanned x (Ok plans) → AreNarrow x.job.pitch (frames_of plans)
plans_narrow x plans pitch planned =
    let isolate = planned_isolate x plans planned in
    record {
      front = side_narrow x.job x.front plans.front pitch isolate.0;
      back = side_narrow x.job x.back plans.back pitch isolate.1;
      outline = outline_narrow x.job x.outline plans.outline pitch (planned_outline x plans planned);
    }

-- ---- probes

-- the front's frame may be probed, and its program levelled
pub front_probed : ProbedLaw → (x : Accepts) → IsAccepted x → (plans : Plans) → ArePlanned x (Ok plans) → IfSome plans.front (λ (p : Isolation). MayBeProbed x.job p.frame)
front_probed law x ok plans planned = by x.front plans.front (side_job x ok).0 (planned_isolate x plans planned).0
  where
    by : (image : Option (List Painted)) (plan : Option Isolation) → (is_some image ≡ true → IsSideJob x.job) → Isolates x.job image plan → IfSome plan (λ (p : Isolation). MayBeProbed x.job p.frame)
    by image None side h = tt
    by None (Some plan) side h = absurd h
    by (Some image) (Some plan) side h = law.frame x.job image plan (side refl) h

pub front_lattice : LatticeLaw → (x : Accepts) → IsAccepted x → (plans : Plans) → ArePlanned x (Ok plans) → IfSome plans.front (λ (p : Isolation). IsLatticeProgram x.job.pitch p.program)
front_lattice law x ok plans planned = by x.front plans.front (side_job x ok).0 (planned_isolate x plans planned).0
  where
    by : (image : Option (List Painted)) (plan : Option Isolation) → (is_some image ≡ true → IsSideJob x.job) → Isolates x.job image plan → IfSome plan (λ (p : Isolation). IsLatticeProgram x.job.pitch p.program)
    by image None side h = tt
    by None (Some plan) side h = absurd h
    by (Some image) (Some plan) side h = (law x.job image plan (side refl) h).0

-- ---- programs

-- a program in tiles can be written, where the plain one can be and can run
one_valid : {B : Type 0} → TilingLaws → (job : Job) (by : Tile) (plain : B → Program) (plan : Option B) (program : Option Program) → IfSome plan (λ p. IsProgram (plain p) × IsRunnable (plain p))
    → in_tiles_if job (shift_in job.pitch by) (option_map plain plan) ≡ Ok program → IfSome program IsWritable
one_valid laws job by plain plan None ready e = tt
one_valid laws job by plain None (Some q) ready e = absurd (none q e)
  where
    none : (q : Program) → ◌≡◌ {A = Result (Option Program) Status} (Ok None) (Ok (Some q)) → ⊥
    none q e = cc
one_valid laws job by plain (Some p) (Some q) ready e =
    let tiled = made_tiled laws job by (plain p) q ready.0 ready.1 (some_tiled (in_tiles job (shift_in job.pitch by) (plain p)) q e) in
    plain_written q (subst IsProgram (sym tiled.is) tiled.valid)

-- so can the front's, over its grid, if any
front_valid : TilingLaws → LevelledSidesLaw → (x : Accepts) → IsAccepted x → (by : Tile) (image : Option (List Painted)) (plan : Option Isolation) (program : Option Program) (grid : Option ProbeGrid)
    → (is_some image ≡ true → IsSideJob x.job) → Isolates x.job image plan → front_grid x.job (option_map (λ (p : Isolation). p.frame) plan) ≡ Ok grid
    → in_tiles_if x.job (shift_in x.job.pitch by) (option_map (levelled_if grid x.job.pitch) (option_map (λ (p : Isolation). p.program) plan)) ≡ Ok program → IfSome program IsWritable
front_valid laws levels x ok by image plan None grid side h is e = tt
front_valid laws levels x ok by image None (Some q) grid side h is e = absurd (none q e)
  where
    none : (q : Program) → ◌≡◌ {A = Result (Option Program) Status} (Ok None) (Ok (Some q)) → ⊥
    none q e = cc
front_valid laws levels x ok by None (Some plan) (Some q) grid side h is e = absurd h
front_valid laws levels x ok by (Some image) (Some plan) (Some q) grid side h is e =
    written (front_made laws x.job by image plan q grid ok.ranges ok.together h (probed_is x.job plan.frame grid is) (some_tiled (in_tiles x.job (shift_in x.job.pitch by) (levelled_if grid x.job.pitch plan.program)) q e))
  where
    written : IsTiled x.job.pitch (tiles_by x.job by) plan.program q ⊎ IsOverGrid x.job (tiles_by x.job by) plan q → IsWritable q
    written (inl t) = plain_written q (subst IsProgram (sym t.is) t.valid)
    written (inr o) =
        let l = levels.side x.job image plan o.grid (side refl) h o.asked o.over in
        subst IsWritable (sym o.is) (levelled_written o.grid (levelled o.grid x.job.pitch plan.program) l.program (record { is_grid = l.program.is_grid; x0 = l.first_x; y0 = l.first_y }))

side_ready : (job : Job) (image : Option (List Painted)) (plan : Option Isolation) → Isolates job image plan → IfSome plan (λ (p : Isolation). IsProgram p.program × IsRunnable p.program)
side_ready job image None h = tt
side_ready job None (Some plan) h = absurd h
side_ready job (Some image) (Some plan) h = (h.program, h.runnable)

outline_ready : (job : Job) (image : Option (List Painted)) (plan : Option OutlineCut) → CutsAlong job image plan → IfSome plan (λ (p : OutlineCut). IsProgram p.program × IsRunnable p.program)
outline_ready job image None h = tt
outline_ready job None (Some plan) h = absurd h
outline_ready job (Some image) (Some plan) h = (h.valid, h.runnable)

holes_ready : (x : Accepts) → IsAccepted x → (plan : Option (List ToolPlan)) → IfSome plan IsWithinLimits → IfSome plan (λ p. IsProgram (program_of x.job p) × IsRunnable (program_of x.job p))
holes_ready x ok None within = tt
holes_ready x ok (Some plan) within = (program_in x.job ok.ranges plan within, program_runs x.job ok.ranges plan ok.together.change)

pub programs_valid : TilingLaws → LevelledSidesLaw → (x : Accepts) → IsAccepted x → (plans : Plans) (programs : Programs) → ArePlanned x (Ok plans) → IfSome plans.drill IsWithinLimits
    → all_in_tiles x.job (plain_of x.job plans) ≡ Ok programs → AreValid programs
programs_valid laws levels x ok plans programs planned within e =
    let job = x.job in
    let isolate = planned_isolate x plans planned in
    let each = each_tiled job (plain_of job plans) programs e in
    let front = seen_in_front (step_by job plans) in
    record {
      front = front_valid laws levels x ok front x.front plans.front programs.front each.grid (side_job x ok).0 isolate.0 each.probed each.front;
      back = one_valid laws job (seen_behind (step_by job plans)) (λ (p : Isolation). p.program) plans.back programs.back (side_ready job x.back plans.back isolate.1) each.back;
      drill = one_valid laws job front (program_of job) plans.drill programs.drill (holes_ready x ok plans.drill within) each.drill;
      outline = one_valid laws job front (λ (p : OutlineCut). p.program) plans.outline programs.outline (outline_ready job x.outline plans.outline (planned_outline x plans planned)) each.outline;
    }
