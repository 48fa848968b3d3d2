-- What is planned for what was accepted, or the first refusal of the plans in their order.
use Rattle.std.specs.Prelude.{◌≡◌, ◌≢◌, ◌⊎◌, List, Option, Some, None, Result, Ok, Err}
use Rattle.shape_parts.specs.declared.shape.Painted.{Painted}
use Rattle.excellon.specs.declared.file.DrillFile.{DrillFile}
use Rattle.drill_plan.specs.declared.plans.ToolPlan.{ToolPlan}
use Rattle.drill_plan.specs.Plan.{IsDrillPlan}
use Rattle.job_file.specs.declared.job.Job.{Job}
use Rattle.mill_plan.specs.declared.isolation.Isolation.{Isolation}
use Rattle.mill_plan.specs.declared.limits.LimitHit.{LimitHit}
use Rattle.mill_plan.specs.Cutting.{side_cutting}
use Rattle.mill_plan.specs.Frame.{HitsLimit}
use Rattle.mill_plan.specs.Isolated.{IsIsolationOf}
use Rattle.outline_plan.specs.declared.plan.OutlineCut.{OutlineCut}
use Rattle.outline_plan.specs.declared.errors.OutlinePlanError.{OutlinePlanError}
use Rattle.outline_plan.specs.declared.errors.OutlinePlanError.TheVariants as refusals
use Rattle.outline_plan.specs.Answers.{Answers}
use Rattle.endings.specs.declared.status.Status.{Status}
use Rattle.endings.specs.declared.status.Status.TheVariants.{Outline, Limit, Memory}
use Rattle.endings.specs.Steps.{Is, Then}
use Rattle.mill_inputs.specs.Accepted.{Accepts}
use Rattle.mill_outputs.specs.declared.plans.Plans.{Plans}

-- the image passes this limit
abbrev pub Passes : LimitHit → Job → List Painted → Type 0
Passes hit job painted = HitsLimit (side_cutting job) painted hit

-- the image passes no limit, and the plan is its isolation
pub record IsSidePlan (job : Job) (painted : List Painted) (plan : Isolation) : Type 0 where
  pub within : (hit : LimitHit) → Passes hit job painted → ⊥
  pub isolates : IsIsolationOf job painted plan

-- the plan of a side, or a limit that its image passes
abbrev pub IsSide : Job → List Painted → Result Isolation Status → Type 0
IsSide job painted (Ok plan) = IsSidePlan job painted plan
IsSide job painted (Err status) = (hit : LimitHit) × (status ≡ Limit hit) × Passes hit job painted

-- a step for what may be there
abbrev pub IfGiven : {A B : Type 0} → Option A → (A → Result B Status → Type 0) → Result (Option B) Status → Type 0
IfGiven None Step answer = answer ≡ Ok None
IfGiven (Some a) Step (Ok (Some b)) = Step a (Ok b)
IfGiven (Some a) Step (Ok None) = ⊥
IfGiven (Some a) Step (Err status) = Step a (Err status)

-- the drill list of a file
abbrev pub IsDrill : Job → DrillFile → Result (List ToolPlan) Status → Type 0
IsDrill job file (Ok plan) = IsDrillPlan file job.drills_available plan
IsDrill job file (Err status) = ⊥

-- what a refusal of the outline is to the command
abbrev pub outline_refused : OutlinePlanError → Status
outline_refused (refusals.Outline error) = Outline error
outline_refused (refusals.Limit hit) = Limit hit
outline_refused refusals.Memory = Memory

-- the plan that cuts the board out, or the refusal of its outline
abbrev pub IsOutline : Job → List Painted → Result OutlineCut Status → Type 0
IsOutline job painted (Ok plan) = Answers job painted (Ok plan)
IsOutline job painted (Err status) =
    (error : OutlinePlanError) × (error ≢ refusals.Memory) × (status ≡ outline_refused error) × Answers job painted (Err error)

-- the plans: of the front, of the back, of the holes, of the outline
abbrev pub ArePlanned : Accepts → Result Plans Status → Type 0
ArePlanned x =
    Then (IfGiven x.front (IsSide x.job)) (λ front.
    Then (IfGiven x.back (IsSide x.job)) (λ back.
    Then (IfGiven x.drill (IsDrill x.job)) (λ drill.
    Then (IfGiven x.outline (IsOutline x.job)) (λ outline.
    Is (Ok (record { front = front; back = back; drill = drill; outline = outline }))))))

-- the refusal is the step's one answer, or memory was wanting
abbrev pub IsOneRefusal : {A : Type 0} → (Result A Status → Type 0) → Status → Type 0
IsOneRefusal {A = A} Step status =
    (status ≡ Memory) ⊎ (Step (Err status) × ((answer : Result A Status) → Step answer → answer ≡ Err status))
