-- What is made of what was accepted: one program for each image, and so one refusal of tiles, or none.
use Rattle.std.proofs.Common.{◌≡◌, ◌⊎◌, ℤ, true, List, Option, Some, None, Result, Ok, Err, inl, inr, refl, sym, ap, ◌∙◌, subst}
use Rattle.std.specs.Prelude.{is_some}
use Rattle.std.specs.Option.{option_map}
use Rattle.board_base.specs.declared.places.Point.{Point}
use Rattle.board_base.specs.Binds.{◌>>=◌}
use Rattle.cell_grid.specs.declared.frames.Frame.{Frame}
use Rattle.shape_parts.specs.declared.shape.Painted.{Painted}
use Rattle.excellon.specs.declared.file.DrillFile.{DrillFile}
use Rattle.drill_plan.specs.declared.plans.ToolPlan.{ToolPlan}
use Rattle.drill_plan.specs.Laws.{OnePlan}
use Rattle.drill_program.specs.Program.{program_of}
use Rattle.mill_program.specs.declared.cuts.Corner.{Corner}
use Rattle.mill_program.specs.declared.cuts.Program.{Program}
use Rattle.tiling.specs.Tiles.{tiled, shifts_of, first_past, refused_or, tile_of}
use Rattle.tile_steps.specs.Steps.{step_of}
use Rattle.job_file.specs.declared.job.Job.{Job}
use Rattle.mill_plan.specs.declared.isolation.Isolation.{Isolation}
use Rattle.mill_plan.specs.declared.limits.LimitHit.{LimitHit}
use Rattle.mill_plan.specs.declared.limits.LimitHit.TheVariants as hits
use Rattle.mill_plan.specs.Job.{IsSideJob}
use Rattle.outline_plan.specs.declared.plan.OutlineCut.{OutlineCut}
use Rattle.outline_plan.specs.Job.{IsOutlineJob}
use Rattle.one_programs.specs.Laws.{OneSide, OneOutline}
use Rattle.endings.specs.declared.status.Status.{Status}
use Rattle.endings.specs.declared.status.Status.TheVariants.{Limit, Memory}
use Rattle.endings.specs.Steps.{Is, Then}
use Rattle.mill_inputs.specs.Accepted.{Accepts}
use Rattle.mill_inputs.proofs.ContentLaws.{ok_is}
use Rattle.mill_outputs.specs.declared.plans.Plans.{Plans}
use Rattle.mill_outputs.specs.Planned.{ArePlanned, IsOneRefusal}
use Rattle.mill_outputs.specs.Written.{front_step, back_step, front_grid, levelled_if, or_refused, in_tiles, in_tiles_if, Plain, plain_of, all_in_tiles, OneOfEach, Made, AreMade}
use Rattle.mill_outputs.proofs.PlanLaws.{IsPlanRefusal, Drills, CutsAlong, Isolates, err_as, err_not_ok, ok_not_err, or_memory, then_first, planned_isolate, planned_drill, planned_outline, planned_apart, planned_refusal}
use Rattle.mill_outputs.proofs.GridLaws.{grid_refusal}
use Rattle.mill_outputs.proofs.AcceptedLaws.{IsAccepted, side_job, outline_job}

-- ---- the plain programs are one

-- the frames and the programs of two plans for the same side
sides_same : OneSide → (job : Job) (image : Option (List Painted)) (one other : Option Isolation) → (is_some image ≡ true → IsSideJob job) → Isolates job image one → Isolates job image other
    → (option_map (λ (p : Isolation). p.frame) one ≡ option_map (λ (p : Isolation). p.frame) other) × (option_map (λ (p : Isolation). p.program) one ≡ option_map (λ (p : Isolation). p.program) other)
sides_same law job None None None ok h k = (refl, refl)
sides_same law job None None (Some other) ok h k = absurd k
sides_same law job None (Some one) other ok h k = absurd h
sides_same law job (Some image) None other ok h k = absurd h
sides_same law job (Some image) (Some one) None ok h k = absurd k
sides_same law job (Some image) (Some one) (Some other) ok h k =
    let same = law job image one other (ok refl) h k in
    (ap (λ (f : Frame). Some f) same.0, ap (λ (p : Program). Some p) same.1)

holes_same : OnePlan → (job : Job) (file : Option DrillFile) (one other : Option (List ToolPlan)) → Drills job file one → Drills job file other → one ≡ other
holes_same law job None None None h k = refl
holes_same law job None None (Some other) h k = absurd k
holes_same law job None (Some one) other h k = absurd h
holes_same law job (Some file) None other h k = absurd h
holes_same law job (Some file) (Some one) None h k = absurd k
holes_same law job (Some file) (Some one) (Some other) h k = ap (λ (p : List ToolPlan). Some p) (law file job.drills_available one other h k)

outlines_same : OneOutline → (job : Job) (image : Option (List Painted)) (one other : Option OutlineCut) → (is_some image ≡ true → IsOutlineJob job) → CutsAlong job image one → CutsAlong job image other
    → (option_map (λ (p : OutlineCut). p.frame) one ≡ option_map (λ (p : OutlineCut). p.frame) other) × (option_map (λ (p : OutlineCut). p.program) one ≡ option_map (λ (p : OutlineCut). p.program) other)
outlines_same law job None None None ok h k = (refl, refl)
outlines_same law job None None (Some other) ok h k = absurd k
outlines_same law job None (Some one) other ok h k = absurd h
outlines_same law job (Some image) None other ok h k = absurd h
outlines_same law job (Some image) (Some one) None ok h k = absurd k
outlines_same law job (Some image) (Some one) (Some other) ok h k =
    let same = law job image one other (ok refl) h k in
    (ap (λ (f : Frame). Some f) same.0, ap (λ (p : Program). Some p) same.1)

-- from its parts
assembled : Job → Option Frame → Option Frame → Option Frame → Option (List ToolPlan) → Option Program → Option Program → Option Program → Plain
assembled job front back outline drill its_front its_back its_outline = record {
  step = step_of job.pitch (record { front = front; back = back; outline = outline }) drill;
  frame = front;
  front = its_front;
  back = its_back;
  drill = option_map (program_of job) drill;
  outline = its_outline;
}

plain_same : OneOfEach → (x : Accepts) → IsAccepted x → (one other : Plans) → ArePlanned x (Ok one) → ArePlanned x (Ok other) → plain_of x.job one ≡ plain_of x.job other
unfolding assembled
plain_same law x ok one other p q =
    let h = planned_isolate x one p in
    let k = planned_isolate x other q in
    let front = sides_same law.side x.job x.front one.front other.front (side_job x ok).0 h.0 k.0 in
    let back = sides_same law.side x.job x.back one.back other.back (side_job x ok).1 h.1 k.1 in
    let drill = holes_same law.drill x.job x.drill one.drill other.drill (planned_drill x one p) (planned_drill x other q) in
    let outline = outlines_same law.outline x.job x.outline one.outline other.outline (outline_job x ok) (planned_outline x one p) (planned_outline x other q) in
    together _ _ _ _ _ _ _ _ _ _ _ _ _ _ front.0 back.0 outline.0 drill front.1 back.1 outline.1
  where
    together : (f f' b b' o o' : Option Frame) (d d' : Option (List ToolPlan)) (fp fp' bp bp' op op' : Option Program) → f ≡ f' → b ≡ b' → o ≡ o' → d ≡ d' → fp ≡ fp' → bp ≡ bp' → op ≡ op'
        → assembled x.job f b o d fp bp op ≡ assembled x.job f' b' o' d' fp' bp' op'
    together f f' b b' o o' d d' fp fp' bp bp' op op' ef eb eo ed efp ebp eop =
        ap (λ f. assembled x.job f b o d fp bp op) ef
        ∙ ap (λ b. assembled x.job f' b o d fp bp op) eb
        ∙ ap (λ o. assembled x.job f' b' o d fp bp op) eo
        ∙ ap (λ d. assembled x.job f' b' o' d fp bp op) ed
        ∙ ap (λ fp. assembled x.job f' b' o' d' fp bp op) efp
        ∙ ap (λ bp. assembled x.job f' b' o' d' fp' bp op) ebp
        ∙ ap (λ op. assembled x.job f' b' o' d' fp' bp' op) eop

-- so are the answers of their tiles
answers_same : OneOfEach → (x : Accepts) → IsAccepted x → (one other : Plans) → ArePlanned x (Ok one) → ArePlanned x (Ok other) → all_in_tiles x.job (plain_of x.job one) ≡ all_in_tiles x.job (plain_of x.job other)
answers_same law x ok one other p q = ap (all_in_tiles x.job) (plain_same law x ok one other p q)

-- ---- refusals of tiles

-- a limit is passed
abbrev IsLimitRefusal : Status → Type 0
IsLimitRefusal status = (hit : LimitHit) × (status ≡ Limit hit)

refused_past : (past : Option Corner) (q : Program) (status : Status) → or_refused (refused_or past q) ≡ Err status → IsLimitRefusal status
refused_past None q status e = absurd (ok_not_err q status e)
refused_past (Some c) q status e = (hits.Tile c.x c.y, sym (same (Limit (hits.Tile c.x c.y)) status e))
  where
    same : (s t : Status) → ◌≡◌ {A = Result Program Status} (Err s) (Err t) → s ≡ t
    same s t e = cc

tile_refusal : (job : Job) (by : Point) (p : Program) (status : Status) → in_tiles job by p ≡ Err status → IsLimitRefusal status
unfolding in_tiles tile_of
tile_refusal job by p status e = refused_past (first_past (tiled (shifts_of job.tile_x job.tile_y by) p).runs) (tiled (shifts_of job.tile_x job.tile_y by) p) status e

-- what was made, or what was refused before
not_made : {A B : Type 0} (P : Status → Type 0) (r : Result A Status) (f : A → Result B Status) (status : Status) → ((s : Status) → r ≡ Err s → P s) → ((a : A) → f a ≡ Err status → P status) → (r >>= f) ≡ Err status → P status
not_made P (Ok a) f status first next e = next a e
not_made {B = B} P (Err s) f status first next e = subst P (same s status e) (first s refl)
  where
    same : (s t : Status) → ◌≡◌ {A = Result B Status} (Err s) (Err t) → s ≡ t
    same s t e = cc

one_refusal : (job : Job) (by : Point) (p : Option Program) (status : Status) → in_tiles_if job by p ≡ Err status → IsLimitRefusal status
one_refusal job by None status e = absurd (ok_not_err None status e)
one_refusal job by (Some p) status e =
    not_made IsLimitRefusal (in_tiles job by p) (λ q. Ok (Some q)) status (tile_refusal job by p) (λ q more. absurd (ok_not_err (Some q) status more)) e

programs_refusal : (job : Job) (plain : Plain) (status : Status) → all_in_tiles job plain ≡ Err status → IsLimitRefusal status
unfolding all_in_tiles
programs_refusal job plain status e =
    not_made IsLimitRefusal (front_grid job plain.frame) _ status (grid_refusal job plain.frame) (λ grid behind.
    not_made IsLimitRefusal (in_tiles_if job (front_step job plain.step) (option_map (levelled_if grid job.pitch) plain.front)) _ status (one_refusal job (front_step job plain.step) (option_map (levelled_if grid job.pitch) plain.front)) (λ front behind.
    not_made IsLimitRefusal (in_tiles_if job (back_step job plain.step) plain.back) _ status (one_refusal job (back_step job plain.step) plain.back) (λ back behind.
    not_made IsLimitRefusal (in_tiles_if job (front_step job plain.step) plain.drill) _ status (one_refusal job (front_step job plain.step) plain.drill) (λ drill behind.
    not_made IsLimitRefusal (in_tiles_if job (front_step job plain.step) plain.outline) _ status (one_refusal job (front_step job plain.step) plain.outline) (λ outline behind.
    absurd (ok_not_err _ status behind)) behind) behind) behind) behind) e

-- ---- what is made

-- the plans and the programs of what was made
pub record IsMade (x : Accepts) (made : Made) : Type 0 where
  pub planned : ArePlanned x (Ok made.plans)
  pub programs : all_in_tiles x.job (plain_of x.job made.plans) ≡ Ok made.programs

pub made_is : (x : Accepts) (made : Made) → AreMade x (Ok made) → IsMade x made
made_is x made m =
    let programs = (m.2).0 in
    let same = ok_is made (record { plans = m.0; programs = programs }) (m.2).2 in
    subst (IsMade x) (sym same) (record { planned = m.1; programs = sym (m.2).1 })

pub is_made : (x : Accepts) (made : Made) → ArePlanned x (Ok made.plans) → all_in_tiles x.job (plain_of x.job made.plans) ≡ Ok made.programs → AreMade x (Ok made)
is_made x made planned programs = (made.plans, planned, (made.programs, sym programs, refl))

-- a refusal is that of plans, or that of the tiles of plans
abbrev IsRefusedAs : Accepts → Status → Type 0
IsRefusedAs x status = ArePlanned x (Err status) ⊎ ((plans : Plans) × ArePlanned x (Ok plans) × (all_in_tiles x.job (plain_of x.job plans) ≡ Err status))

refused_as : (x : Accepts) (status : Status) → AreMade x (Err status) → IsRefusedAs x status
refused_as x status (inl plans) = inl plans
refused_as x status (inr (plans, planned, inl tiles)) = inr (plans, planned, sym tiles)
refused_as x status (inr (plans, planned, inr (programs, made, e))) = absurd (err_not_ok _ status e)

-- all that is made of what was accepted has the same programs
pub programs_same : OneOfEach → (x : Accepts) → IsAccepted x → (one other : Made) → AreMade x (Ok one) → AreMade x (Ok other) → one.programs ≡ other.programs
programs_same law x ok one other m n =
    let p = made_is x one m in
    let q = made_is x other n in
    ok_is one.programs other.programs (sym p.programs ∙ answers_same law x ok one.plans other.plans p.planned q.planned ∙ q.programs)

-- what is made isn't refused
pub made_apart : OneOfEach → (x : Accepts) → IsAccepted x → (made : Made) (status : Status) → AreMade x (Ok made) → AreMade x (Err status) → ⊥
made_apart law x ok made status m n = by_case (refused_as x status n)
  where
    p : IsMade x made
    p = made_is x made m

    by_case : IsRefusedAs x status → ⊥
    by_case (inl plans) = planned_apart x made.plans status p.planned plans
    by_case (inr (plans, planned, tiles)) = err_not_ok made.programs status (sym tiles ∙ answers_same law x ok plans made.plans planned p.planned ∙ p.programs)

-- a refusal is a limit or one of the outline
pub made_refusal : (x : Accepts) (status : Status) → AreMade x (Err status) → IsPlanRefusal status
made_refusal x status n = by_case (refused_as x status n)
  where
    by_case : IsRefusedAs x status → IsPlanRefusal status
    by_case (inl plans) = planned_refusal x status plans
    by_case (inr (plans, planned, tiles)) = inl (programs_refusal x.job (plain_of x.job plans) status tiles)

-- ---- one refusal

-- that of plans
pub plans_refused : (x : Accepts) (status : Status) → IsOneRefusal (ArePlanned x) status → IsOneRefusal (AreMade x) status
plans_refused x status refused = or_memory (ArePlanned x) (AreMade x) status (then_first (ArePlanned x) (λ plans. Then (Is (all_in_tiles x.job (plain_of x.job plans))) (λ programs. Is (Ok (record { plans = plans; programs = programs })))) status) refused

-- that of tiles
pub tiles_refused : OneOfEach → (x : Accepts) → IsAccepted x → (plans : Plans) (status : Status) → ArePlanned x (Ok plans) → (status ≡ Memory) ⊎ (all_in_tiles x.job (plain_of x.job plans) ≡ Err status)
    → IsOneRefusal (AreMade x) status
tiles_refused law x ok plans status planned (inl memory) = inl memory
tiles_refused law x ok plans status planned (inr tiles) = inr (inr (plans, planned, inl (sym tiles)), only)
  where
    only : (answer : Result Made Status) → AreMade x answer → answer ≡ Err status
    only (Ok made) m = absurd (made_apart law x ok made status m (inr (plans, planned, inl (sym tiles))))
    only (Err s) n = by_case (refused_as x s n)
      where
        by_case : IsRefusedAs x s → ◌≡◌ {A = Result Made Status} (Err s) (Err status)
        by_case (inl refused) = absurd (planned_apart x plans s planned refused)
        by_case (inr (others, again, refused)) = err_as s status (sym refused ∙ answers_same law x ok others plans again planned ∙ tiles)

-- the answer to what is made
pub one_made : (x : Accepts) (status : Status) (answer : Result Made Status) → IsOneRefusal (AreMade x) status → AreMade x answer → (status ≡ Memory) ⊎ (answer ≡ Err status)
one_made x status answer (inl memory) made = inl memory
one_made x status answer (inr refused) made = inr (refused.1 answer made)
