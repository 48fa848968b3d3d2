-- What is planned, step by step: a step that plans refuses in one way, or not at all.
use Rattle.std.proofs.Common.{◌≡◌, ◌≢◌, ◌⊎◌, List, Option, Some, None, Result, Ok, Err, inl, inr, refl, sym, ap, ◌∙◌, subst}
use Rattle.shape_parts.specs.declared.shape.Painted.{Painted}
use Rattle.excellon.specs.declared.file.DrillFile.{DrillFile}
use Rattle.drill_plan.specs.declared.plans.ToolPlan.{ToolPlan}
use Rattle.drill_plan.specs.Plan.{IsDrillPlan}
use Rattle.job_file.specs.declared.job.Job.{Job}
use Rattle.mill_plan.specs.declared.isolation.Isolation.{Isolation}
use Rattle.mill_plan.specs.declared.limits.LimitHit.{LimitHit}
use Rattle.mill_plan.specs.Isolated.{IsIsolationOf}
use Rattle.outline_loops.specs.declared.refusals.OutlineError.{OutlineError}
use Rattle.outline_plan.specs.declared.plan.OutlineCut.{OutlineCut}
use Rattle.outline_plan.specs.declared.errors.OutlinePlanError.{OutlinePlanError}
use Rattle.outline_plan.specs.declared.errors.OutlinePlanError.TheVariants as refusals
use Rattle.outline_plan.specs.CutOut.{CutsOut}
use Rattle.outline_plan.specs.Answers.{Answers}
use Rattle.outline_plan.proofs.AnswerLaws.{one_answer}
use Rattle.endings.specs.declared.status.Status.{Status}
use Rattle.endings.specs.declared.status.Status.TheVariants.{Outline, Limit, Memory}
use Rattle.endings.specs.Steps.{Is, Then}
use Rattle.mill_inputs.specs.Accepted.{Accepts}
use Rattle.mill_inputs.proofs.ContentLaws.{ok_is}
use Rattle.mill_outputs.specs.declared.plans.Plans.{Plans}
use Rattle.mill_outputs.specs.Planned.{Passes, IsSide, IfGiven, IsDrill, outline_refused, IsOutline, ArePlanned, IsOneRefusal}

-- ---- answers

pub ok_not_err : {A : Type 0} (a : A) (status : Status) → ◌≡◌ {A = Result A Status} (Ok a) (Err status) → ⊥
ok_not_err a status e = cc

pub err_not_ok : {A : Type 0} (a : A) (status : Status) → ◌≡◌ {A = Result A Status} (Err status) (Ok a) → ⊥
err_not_ok a status e = cc

-- the same refusal, of whatever was to be made
pub err_as : {A B : Type 0} (s t : Status) → ◌≡◌ {A = Result A Status} (Err s) (Err t) → ◌≡◌ {A = Result B Status} (Err s) (Err t)
err_as {B = B} s t e =
    let same : s ≡ t = cc in
    ap (λ s. let r : Result B Status = Err s in r) same

-- ---- what may be there

some_not_none : {A : Type 0} (a : A) → ◌≡◌ {A = Result (Option A) Status} (Ok (Some a)) (Ok None) → ⊥
some_not_none a e = cc

-- a step that gave something doesn't refuse, if it never does both
given_apart : {A B : Type 0} (Step : A → Result B Status → Type 0) → ((given : A) (plan : B) (status : Status) → Step given (Ok plan) → Step given (Err status) → ⊥)
    → (given : Option A) (plan : Option B) (status : Status) → IfGiven given Step (Ok plan) → IfGiven given Step (Err status) → ⊥
given_apart Step apart None plan status planned refused = err_not_ok None status refused
given_apart Step apart (Some given) None status planned refused = planned
given_apart Step apart (Some given) (Some plan) status planned refused = apart given plan status planned refused

-- what holds of each refusal of a step holds of that of one that may be there
given_refusal : {A B : Type 0} (Step : A → Result B Status → Type 0) (P : Status → Type 0) → ((given : A) (status : Status) → Step given (Err status) → P status)
    → (given : Option A) (status : Status) → IfGiven given Step (Err status) → P status
given_refusal Step P each None status refused = absurd (err_not_ok None status refused)
given_refusal Step P each (Some given) status refused = each given status refused

-- the refusals of plans: a limit is passed, or the outline is refused
abbrev pub IsPlanRefusal : Status → Type 0
IsPlanRefusal status = ((hit : LimitHit) × (status ≡ Limit hit)) ⊎ ((error : OutlineError) × (status ≡ Outline error))

-- ---- one side

-- what is refused isn't planned
side_apart : (job : Job) (painted : List Painted) (plan : Isolation) (status : Status) → IsSide job painted (Ok plan) → IsSide job painted (Err status) → ⊥
side_apart job painted plan status planned refused = planned.within refused.0 refused.2

side_refusal : (job : Job) (painted : List Painted) (status : Status) → IsSide job painted (Err status) → IsPlanRefusal status
side_refusal job painted status refused = inl (refused.0, refused.1)

-- ---- the holes

-- a drill list is never refused
drill_apart : (job : Job) (file : Option DrillFile) (status : Status) → IfGiven file (IsDrill job) (Err status) → ⊥
drill_apart job None status refused = err_not_ok None status refused
drill_apart job (Some file) status refused = refused

-- ---- the outline

ok_not_memory : (plan : OutlineCut) → ◌≡◌ {A = Result OutlineCut OutlinePlanError} (Ok plan) (Err refusals.Memory) → ⊥
ok_not_memory plan e = cc

same_error : (a b : OutlinePlanError) → ◌≡◌ {A = Result OutlineCut OutlinePlanError} (Err a) (Err b) → a ≡ b
same_error a b e = cc

-- a board that is cut out has no refusal
answers_apart : (job : Job) (painted : List Painted) (plan : OutlineCut) (error : OutlinePlanError) → error ≢ refusals.Memory → Answers job painted (Ok plan) → Answers job painted (Err error) → ⊥
answers_apart job painted plan error some planned refused = one_answer job painted (Ok plan) (Err error) (ok_not_memory plan) (λ e. some (same_error error refusals.Memory e)) planned refused

outline_apart : (job : Job) (painted : List Painted) (plan : OutlineCut) (status : Status) → IsOutline job painted (Ok plan) → IsOutline job painted (Err status) → ⊥
outline_apart job painted plan status planned refused = answers_apart job painted plan refused.0 refused.1 planned refused.3

refusal_as : (error : OutlinePlanError) → error ≢ refusals.Memory → IsPlanRefusal (outline_refused error)
refusal_as (refusals.Outline error) some = inr (error, refl)
refusal_as (refusals.Limit hit) some = inl (hit, refl)
refusal_as refusals.Memory some = absurd (some refl)

outline_refusal : (job : Job) (painted : List Painted) (status : Status) → IsOutline job painted (Err status) → IsPlanRefusal status
outline_refusal job painted status refused = subst IsPlanRefusal (sym refused.2) (refusal_as refused.0 refused.1)

one_refused : (job : Job) (painted : List Painted) (error : OutlinePlanError) → error ≢ refusals.Memory → Answers job painted (Err error) → (status : Status) → IsOutline job painted (Err status)
    → ◌≡◌ {A = Result OutlineCut Status} (Err status) (Err (outline_refused error))
one_refused job painted error some h status refused =
    let same : refused.0 ≡ error =
    one_answer job painted (Err refused.0) (Err error) (λ e. refused.1 (same_error refused.0 refusals.Memory e)) (λ e. some (same_error error refusals.Memory e)) refused.3 h in
    ap Err (refused.2 ∙ ap outline_refused same)

-- an outline that is refused is refused in that way alone
pub outline_one : (job : Job) (painted : List Painted) (error : OutlinePlanError) → Answers job painted (Err error) → IsOneRefusal (IsOutline job painted) (outline_refused error)
outline_one job painted refusals.Memory h = inl refl
outline_one job painted (refusals.Outline error) h = inr ((refusals.Outline error, differs, refl, h), only_outline)
  where
    differs : refusals.Outline error ≢ refusals.Memory
    differs e = cc

    only_outline : (answer : Result OutlineCut Status) → IsOutline job painted answer → answer ≡ Err (Outline error)
    only_outline (Ok plan) planned = absurd (answers_apart job painted plan (refusals.Outline error) differs planned h)
    only_outline (Err status) refused = one_refused job painted (refusals.Outline error) differs h status refused
outline_one job painted (refusals.Limit hit) h = inr ((refusals.Limit hit, differs, refl, h), only_limit)
  where
    differs : refusals.Limit hit ≢ refusals.Memory
    differs e = cc

    only_limit : (answer : Result OutlineCut Status) → IsOutline job painted answer → answer ≡ Err (Limit hit)
    only_limit (Ok plan) planned = absurd (answers_apart job painted plan (refusals.Limit hit) differs planned h)
    only_limit (Err status) refused = one_refused job painted (refusals.Limit hit) differs h status refused

-- ---- what is planned for what is there

-- what is planned is so of what it is planned for, and neither is there without the other
abbrev pub IsFor : {A B : Type 0} → (A → B → Type 0) → Option A → Option B → Type 0
IsFor R None None = Unit {0}
IsFor R None (Some plan) = ⊥
IsFor R (Some given) None = ⊥
IsFor R (Some given) (Some plan) = R given plan

given_for : {A B : Type 0} (Step : A → Result B Status → Type 0) (R : A → B → Type 0) → ((given : A) (plan : B) → Step given (Ok plan) → R given plan)
    → (given : Option A) (plan : Option B) → IfGiven given Step (Ok plan) → IsFor R given plan
given_for Step R each None None planned = tt
given_for Step R each None (Some plan) planned = absurd (some_not_none plan planned)
given_for Step R each (Some given) None planned = absurd planned
given_for Step R each (Some given) (Some plan) planned = each given plan planned

-- the plan of a side isolates its image
abbrev pub Isolates : Job → Option (List Painted) → Option Isolation → Type 0
Isolates job image plan = IsFor (IsIsolationOf job) image plan

-- the drill list is that of its file
abbrev pub Drills : Job → Option DrillFile → Option (List ToolPlan) → Type 0
Drills job file plan = IsFor (λ file plan. IsDrillPlan file job.drills_available plan) file plan

-- the board is cut out along the outline
abbrev pub CutsAlong : Job → Option (List Painted) → Option OutlineCut → Type 0
CutsAlong job image plan = IsFor (CutsOut job) image plan

-- ---- one step after the other

-- the plans of each step
abbrev pub AreEach : Accepts → Plans → Type 0
AreEach x plans =
    IfGiven x.front (IsSide x.job) (Ok plans.front)
    × IfGiven x.back (IsSide x.job) (Ok plans.back)
    × IfGiven x.drill (IsDrill x.job) (Ok plans.drill)
    × IfGiven x.outline (IsOutline x.job) (Ok plans.outline)

pub planned_each : (x : Accepts) (plans : Plans) → ArePlanned x (Ok plans) → AreEach x plans
planned_each x plans p =
    let through = (p.2).2 in
    let same = ok_is plans (record { front = p.0; back = (p.2).0; drill = through.0; outline = (through.2).0 }) (through.2).2 in
    subst (λ (q : Plans). AreEach x q) (sym same) (p.1, (p.2).1, through.1, (through.2).1)

pub planned_isolate : (x : Accepts) (plans : Plans) → ArePlanned x (Ok plans) → Isolates x.job x.front plans.front × Isolates x.job x.back plans.back
planned_isolate x plans p =
    let each = planned_each x plans p in
    let isolates = given_for (IsSide x.job) (IsIsolationOf x.job) (λ image plan planned. planned.isolates) in
    (isolates x.front plans.front each.0, isolates x.back plans.back each.1)

pub planned_drill : (x : Accepts) (plans : Plans) → ArePlanned x (Ok plans) → Drills x.job x.drill plans.drill
planned_drill x plans p = given_for (IsDrill x.job) (λ file plan. IsDrillPlan file (x.job).drills_available plan) (λ file plan planned. planned) x.drill plans.drill (planned_each x plans p).2

pub planned_outline : (x : Accepts) (plans : Plans) → ArePlanned x (Ok plans) → CutsAlong x.job x.outline plans.outline
planned_outline x plans p = given_for (IsOutline x.job) (CutsOut x.job) (λ image plan planned. planned) x.outline plans.outline (planned_each x plans p).3

-- what is planned isn't refused
pub planned_apart : (x : Accepts) (plans : Plans) (status : Status) → ArePlanned x (Ok plans) → ArePlanned x (Err status) → ⊥
planned_apart x plans status planned (inl front) = given_apart (IsSide x.job) (side_apart x.job) x.front plans.front status (planned_each x plans planned).0 front
planned_apart x plans status planned (inr (first, f, inl back)) = given_apart (IsSide x.job) (side_apart x.job) x.back plans.back status (planned_each x plans planned).1 back
planned_apart x plans status planned (inr (first, f, inr (second, b, inl drill))) = drill_apart x.job x.drill status drill
planned_apart x plans status planned (inr (first, f, inr (second, b, inr (third, d, inl outline)))) =
    given_apart (IsOutline x.job) (outline_apart x.job) x.outline plans.outline status (planned_each x plans planned).3 outline
planned_apart x plans status planned (inr (first, f, inr (second, b, inr (third, d, inr (fourth, o, e))))) = err_not_ok _ status e

-- a refusal of the plans is a limit or one of the outline
pub planned_refusal : (x : Accepts) (status : Status) → ArePlanned x (Err status) → IsPlanRefusal status
planned_refusal x status (inl front) = given_refusal (IsSide x.job) IsPlanRefusal (side_refusal x.job) x.front status front
planned_refusal x status (inr (first, f, inl back)) = given_refusal (IsSide x.job) IsPlanRefusal (side_refusal x.job) x.back status back
planned_refusal x status (inr (first, f, inr (second, b, inl drill))) = absurd (drill_apart x.job x.drill status drill)
planned_refusal x status (inr (first, f, inr (second, b, inr (third, d, inl outline)))) = given_refusal (IsOutline x.job) IsPlanRefusal (outline_refusal x.job) x.outline status outline
planned_refusal x status (inr (first, f, inr (second, b, inr (third, d, inr (fourth, o, e))))) = absurd (err_not_ok _ status e)

-- ---- one refusal

-- a side that is refused alone
pub side_refused : (job : Job) (painted : List Painted) (hit : LimitHit) → Passes hit job painted → ((other : LimitHit) → Passes other job painted → other ≡ hit) → IsOneRefusal (IsSide job painted) (Limit hit)
side_refused job painted hit passes only = inr ((hit, refl, passes), one)
  where
    one : (answer : Result Isolation Status) → IsSide job painted answer → answer ≡ Err (Limit hit)
    one (Ok plan) planned = absurd (planned.within hit passes)
    one (Err status) refused = ap Err (refused.1 ∙ ap Limit (only refused.0 refused.2))

-- the refusal of what is there
pub given_refused : {A B : Type 0} (Step : A → Result B Status → Type 0) (given : A) (status : Status) → IsOneRefusal (Step given) status → IsOneRefusal (IfGiven (Some given) Step) status
given_refused Step given status (inl memory) = inl memory
given_refused {B = B} Step given status (inr (refused, only)) = inr (refused, one)
  where
    one : (answer : Result (Option B) Status) → IfGiven (Some given) Step answer → answer ≡ Err status
    one (Ok None) planned = absurd planned
    one (Ok (Some plan)) planned = absurd (ok_not_err plan status (only (Ok plan) planned))
    one (Err s) again = err_as s status (only (Err s) again)

-- ---- the first refusal

pub refused_of : {A : Type 0} (Step : Result A Status → Type 0) (status : Status) → IsOneRefusal Step status → (status ≡ Memory) ⊎ Step (Err status)
refused_of Step status (inl memory) = inl memory
refused_of Step status (inr refused) = inr refused.0

-- a step answers with this refusal and with nothing else
abbrev pub IsOnly : {A : Type 0} → (Result A Status → Type 0) → Status → Type 0
IsOnly {A = A} Step status = Step (Err status) × ((answer : Result A Status) → Step answer → answer ≡ Err status)

pub or_memory : {A B : Type 0} (Step : Result A Status → Type 0) (All : Result B Status → Type 0) (status : Status) → (IsOnly Step status → IsOnly All status) → IsOneRefusal Step status → IsOneRefusal All status
or_memory Step All status more (inl memory) = inl memory
or_memory Step All status more (inr only) = inr (more only)

-- the refusal of a step is that of the steps that it begins
pub then_first : {A B : Type 0} (First : Result A Status → Type 0) (Next : A → Result B Status → Type 0) (status : Status) → IsOnly First status → IsOnly (Then First Next) status
then_first {B = B} First Next status only = (inl only.0, one)
  where
    one : (answer : Result B Status) → Then First Next answer → answer ≡ Err status
    one (Ok b) planned = absurd (ok_not_err planned.0 status (only.1 (Ok planned.0) planned.1))
    one (Err s) (inl again) = err_as s status (only.1 (Err s) again)
    one (Err s) (inr next) = absurd (ok_not_err next.0 status (only.1 (Ok next.0) next.1))

-- so is the refusal of the steps behind one that gave something, whatever that is
then_next : {A B : Type 0} (First : Result A Status → Type 0) (Next : A → Result B Status → Type 0) (a : A) (status : Status) → First (Ok a) → ((s : Status) → First (Err s) → ⊥)
    → ((other : A) → IsOnly (Next other) status) → IsOnly (Then First Next) status
then_next {B = B} First Next a status gave never next = (inr (a, gave, (next a).0), one)
  where
    one : (answer : Result B Status) → Then First Next answer → answer ≡ Err status
    one (Ok b) planned = (next planned.0).1 (Ok b) planned.2
    one (Err s) (inl first) = absurd (never s first)
    one (Err s) (inr later) = (next later.0).1 (Err s) later.2

-- the steps behind each other
abbrev behind_drill : Accepts → Option Isolation → Option Isolation → Option (List ToolPlan) → Result Plans Status → Type 0
behind_drill x front back drill =
    Then (IfGiven x.outline (IsOutline x.job)) (λ outline. Is (Ok (let plans : Plans = record { front = front; back = back; drill = drill; outline = outline } in plans)))

abbrev behind_back : Accepts → Option Isolation → Option Isolation → Result Plans Status → Type 0
behind_back x front back = Then (IfGiven x.drill (IsDrill x.job)) (behind_drill x front back)

abbrev behind_front : Accepts → Option Isolation → Result Plans Status → Type 0
behind_front x front = Then (IfGiven x.back (IsSide x.job)) (behind_back x front)

-- behind a front that was planned
behind_front_only : (x : Accepts) (front : Option Isolation) (status : Status) → IfGiven x.front (IsSide x.job) (Ok front) → ((other : Option Isolation) → IsOnly (behind_front x other) status) → IsOnly (ArePlanned x) status
behind_front_only x front status f next =
    then_next (IfGiven x.front (IsSide x.job)) (behind_front x) front status f (λ s. given_apart (IsSide x.job) (side_apart x.job) x.front front s f) next

pub outline_refused_last : (x : Accepts) (front back : Option Isolation) (drill : Option (List ToolPlan)) (status : Status) → IfGiven x.front (IsSide x.job) (Ok front) → IfGiven x.back (IsSide x.job) (Ok back)
    → IfGiven x.drill (IsDrill x.job) (Ok drill) → IsOneRefusal (IfGiven x.outline (IsOutline x.job)) status → IsOneRefusal (ArePlanned x) status
outline_refused_last x front back drill status f b d r =
    or_memory (IfGiven x.outline (IsOutline x.job)) (ArePlanned x) status
    (λ only. behind_front_only x front status f (λ one.
    then_next (IfGiven x.back (IsSide x.job)) (behind_back x one) back status b (λ s. given_apart (IsSide x.job) (side_apart x.job) x.back back s b) (λ other.
    then_next (IfGiven x.drill (IsDrill x.job)) (behind_drill x one other) drill status d (drill_apart x.job x.drill) (λ holes.
    then_first (IfGiven x.outline (IsOutline x.job)) (λ outline. Is (Ok (let plans : Plans = record { front = one; back = other; drill = holes; outline = outline } in plans))) status only)))) r
