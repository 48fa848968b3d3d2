-- What `mill` answers over files that are told, where no fault is counted.
use Rattle.std.proofs.Common.{◌≡◌, ◌⊎◌, Some, ℕ, List, Result, Ok, Err, inl, inr, refl, sym, ◌∙◌, subst, arith}
use Rattle.std.proofs.lemmas.Grind.{common_steps}
use Rattle.board_base.specs.Counts.{Rose}
use Rattle.board_base.specs.Files.{Files}
use Rattle.board_base.specs.Shelf.{ShelfState}
use Rattle.endings.specs.declared.status.Status.{Status}
use Rattle.endings.specs.declared.status.Status.TheVariants.{Done, Usage, Job as RefusedJob, Gerber, Drill, Outline, TooLong, Limit, ReadFault, WriteFault, Ngc, Watch, Cell, Memory}
use Rattle.endings.specs.Reads.{Reading, held_in, MayRead}
use Rattle.endings.specs.Steps.{Is, Then}
use Rattle.endings.specs.Works.{Refuses}
use Rattle.endings.proofs.RunLaws.{given_by, from_told_and}
use Rattle.mill_inputs.specs.Accepted.{Accepts, accepted}
use Rattle.mill_outputs.specs.declared.plans.Plans.{Plans}
use Rattle.mill_outputs.specs.Planned.{ArePlanned, IsOneRefusal}
use Rattle.mill_outputs.specs.Mill.{Planning, AsPlanned}
use Rattle.mill_inputs.proofs.ContentLaws.{ok_is}
use Rattle.mill_outputs.proofs.PlanLaws.{IsOnly, err_not_ok, then_first, or_memory, planned_apart}
use Rattle.sampling.specs.Sampled.{HasPlans}

-- ---- steps that compute their answer

-- a refusal is the one answer
pub is_only : {A : Type 0} (r : Result A Status) (status : Status) → r ≡ Err status → IsOnly (Is r) status
is_only r status e = (sym e, λ answer is. is ∙ e)

-- what is given leads to the next step's answer alone
pub then_only : {A B : Type 0} (r : Result A Status) (a : A) (Next : A → Result B Status → Type 0) (status : Status) → r ≡ Ok a → IsOnly (Next a) status → IsOnly (Then (Is r) Next) status
then_only {B = B} r a Next status e only = (inr (a, sym e, only.0), one)
  where
    one : (answer : Result B Status) → Then (Is r) Next answer → answer ≡ Err status
    one (Ok b) gave = only.1 (Ok b) (subst (λ x. Next x (Ok b)) (ok_is gave.0 a (gave.1 ∙ e)) gave.2)
    one (Err s) (inl bad) = absurd (err_not_ok a s (bad ∙ e))
    one (Err s) (inr next) = only.1 (Err s) (subst (λ x. Next x (Err s)) (ok_is next.0 a (next.1 ∙ e)) next.2)

-- ---- the files of a shelf that never fails

-- the steps behind what is accepted, and behind its plans
abbrev made : Accepts → Plans → Result Planning Status → Type 0
made x plans = Is (Ok (record { accepts = x; plans = plans }))

abbrev planned_for : Accepts → Result Planning Status → Type 0
planned_for x = Then (ArePlanned x) (made x)

pub rose_not : Rose 0 0 → ⊥
rose_not rose = grind (arith, common_steps)

-- a refusal comes of the files
accepted_refused : (words : List (List ℕ)) (status : Status) (files : Files) (before now : ShelfState) → before.files ≡ Some files → (Rose before.read_faults now.read_faults → ⊥)
    → Refuses (λ given s. accepted words given ≡ Err s) status before now → (status ≡ Memory) ⊎ (accepted words (held_in files) ≡ Err status)
accepted_refused words status files before now told steady r = by_status status r
  where
    so : (s : Status) → (given : Reading) × MayRead before.files given × (accepted words given ≡ Err s) → (s ≡ Memory) ⊎ (accepted words (held_in files) ≡ Err s)
    so s r = inr (subst (λ given. accepted words given ≡ Err s) (given_by before.files files r.0 told r.1) r.2)

    by_status : (s : Status) → Refuses (λ given s. accepted words given ≡ Err s) s before now → (s ≡ Memory) ⊎ (accepted words (held_in files) ≡ Err s)
    by_status Done r = absurd r
    by_status (WriteFault role) r = absurd r
    by_status Memory r = inl refl
    by_status (Usage word) r = so (Usage word) r
    by_status (RefusedJob error) r = so (RefusedJob error) r
    by_status (Gerber role error) r = so (Gerber role error) r
    by_status (Drill error) r = so (Drill error) r
    by_status (Outline error) r = so (Outline error) r
    by_status (Ngc role fault line) r = so (Ngc role fault line) r
    by_status (Watch watcher at) r = so (Watch watcher at) r
    by_status (Cell i j line) r = so (Cell i j line) r
    by_status (Limit hit) r = so (Limit hit) r
    by_status (TooLong role) r = so (TooLong role) r.0
    by_status (ReadFault role) (inl r) = absurd (steady r.0)
    by_status (ReadFault role) (inr r) = inr (from_told_and before.files files (λ files. accepted words (held_in files) ≡ Err (ReadFault role)) told r)

-- words and files that are refused have that answer alone
pub refusal_answers : (words : List (List ℕ)) (status : Status) (files : Files) (before now : ShelfState) → before.files ≡ Some files → (Rose before.read_faults now.read_faults → ⊥)
    → Refuses (λ given s. accepted words given ≡ Err s) status before now → IsOneRefusal (AsPlanned words (held_in files)) status
refusal_answers words status files before now told steady r = by_case (accepted_refused words status files before now told steady r)
  where
    by_case : (status ≡ Memory) ⊎ (accepted words (held_in files) ≡ Err status) → IsOneRefusal (AsPlanned words (held_in files)) status
    by_case (inl memory) = inl memory
    by_case (inr bad) = inr (then_first (Is (accepted words (held_in files))) planned_for status (is_only (accepted words (held_in files)) status bad))

-- what was accepted of the told files
accepted_so : (words : List (List ℕ)) (x : Accepts) (files : Files) (before : ShelfState) → before.files ≡ Some files → (given : Reading) × MayRead before.files given × (accepted words given ≡ Ok x) → accepted words (held_in files) ≡ Ok x
accepted_so words x files before told r = subst (λ given. accepted words given ≡ Ok x) (given_by before.files files r.0 told r.1) r.2

-- plans that are refused are
pub plan_answers : (words : List (List ℕ)) (x : Accepts) (status : Status) (files : Files) (before : ShelfState) → before.files ≡ Some files → (given : Reading) × MayRead before.files given × (accepted words given ≡ Ok x)
    → IsOneRefusal (ArePlanned x) status → IsOneRefusal (AsPlanned words (held_in files)) status
plan_answers words x status files before told r refused =
    or_memory (ArePlanned x) (AsPlanned words (held_in files)) status
    (λ only. then_only (accepted words (held_in files)) x planned_for status (accepted_so words x files before told r) (then_first (ArePlanned x) (made x) status only)) refused

-- plans that are made are an answer
pub plans_answer : (words : List (List ℕ)) (x : Accepts) (plans : Plans) (files : Files) (before : ShelfState) → before.files ≡ Some files → (given : Reading) × MayRead before.files given × (accepted words given ≡ Ok x)
    → ArePlanned x (Ok plans) → HasPlans words (held_in files) plans
plans_answer words x plans files before told r planned = (x, (x, sym (accepted_so words x files before told r), (plans, planned, refl)))

-- and then there is no refusal
pub milled_apart : (words : List (List ℕ)) (given : Reading) (m : Planning) (status : Status) → AsPlanned words given (Ok m) → AsPlanned words given (Err status) → ⊥
milled_apart words given m status milled (inl bad) = err_not_ok milled.0 status (bad ∙ sym milled.1)
milled_apart words given m status milled (inr (x, good, inl refused)) =
    let rest = milled.2 in
    planned_apart x rest.0 status (subst (λ (y : Accepts). ArePlanned y (Ok rest.0)) (ok_is milled.0 x (milled.1 ∙ sym good)) rest.1) refused
milled_apart words given m status milled (inr (x, good, inr (plans, planned, is))) = err_not_ok (record { accepts = x; plans = plans }) status is
