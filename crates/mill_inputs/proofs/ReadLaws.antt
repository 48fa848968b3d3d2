-- What the reads of `mill` give and refuse.
use Rattle.std.proofs.Common.{◌≡◌, ℕ, List, length, Option, Some, None, Ok, Err, Bool, true, false, cond, Vec, Global, refl, ap}
use Rattle.std.specs.Prelude.{nat_lt, IfErr}
use Rattle.board_base.specs.declared.places.Role.{Role}
use Rattle.board_base.specs.declared.places.Role.TheVariants as roles
use Rattle.board_base.specs.Files.{Files}
use Rattle.board_base.specs.Shelf.{ShelfState}
use Rattle.board_base.specs.Binds.{◌>>=◌}
use Rattle.endings.specs.declared.status.Status.{Status}
use Rattle.endings.specs.declared.status.Status.TheVariants.{TooLong, ReadFault}
use Rattle.endings.specs.Limits.{most_bytes}
use Rattle.endings.specs.Reads.{Reading, MayRead, accepted_bytes, input}
use Rattle.endings.specs.Answers.{IsInput}
use Rattle.endings.specs.Works.{Refuses}
use Rattle.endings.proofs.ReadingLaws.{some_reading, input_gives, still}
use Rattle.mill_inputs.specs.Accepted.{job_bytes, input_if}
use Rattle.mill_inputs.proofs.StepLaws.{carries_all, refuses_onto, if_err_then}

-- ---- an input that may have no name

pub named_gives : (role : Role) (name : List ℕ) (before now : ShelfState) (bytes : Vec ℕ Global) → IsInput role name before now (Ok bytes)
    → (given : Reading) × MayRead before.files given × (input_if role (Some name) given ≡ Ok (Some bytes.items))
named_gives role name before now bytes r =
    let w = input_gives role name before now (Ok bytes) r in
    (w.0, w.1, ap (λ r. r >>= λ bytes. Ok (Some bytes)) w.2)

pub named_refuses : (role : Role) (name : List ℕ) (before now : ShelfState) (status : Status) → IsInput role name before now (Err status) → Refuses (λ given s. input_if role (Some name) given ≡ Err s) status before now
named_refuses role name before now status r =
    refuses_onto (λ given s. input role name given ≡ Err s) (λ given s. input_if role (Some name) given ≡ Err s) status before before now (still before)
    (carries_all before.files (λ given s. input role name given ≡ Err s) (λ given s. input_if role (Some name) given ≡ Err s) (λ given s e. ap (λ r. r >>= λ bytes. Ok (Some bytes)) e))
    (input_gives role name before now (Err status) r)

-- no name, nothing read
pub unnamed_gives : (role : Role) (o : Option Files) → (given : Reading) × MayRead o given × (input_if role None given ≡ Ok None)
unnamed_gives role o = ((some_reading o).0, (some_reading o).1, refl)

-- ---- what a step reads

pub same_input : (role : Role) (name : Option (List ℕ)) (g h : Reading) → ((name : List ℕ) → g role name ≡ h role name) → input_if role name g ≡ input_if role name h
same_input role None g h same = refl
same_input role (Some name) g h same = ap (λ o. accepted_bytes role o >>= λ bytes. Ok (Some bytes)) (same name)

pub same_job : (place : Option (List ℕ)) (g h : Reading) → ((name : List ℕ) → g roles.Job name ≡ h roles.Job name) → job_bytes place g ≡ job_bytes place h
same_job None g h same = refl
same_job (Some name) g h same = ap (accepted_bytes roles.Job) (same name)

-- a refusal of an input of this role
abbrev pub IsReadOf : Role → Status → Type 0
IsReadOf role (ReadFault r) = r ≡ role
IsReadOf role (TooLong r) = r ≡ role
IsReadOf role status = ⊥

pub bytes_refused : (role : Role) (o : Option (List ℕ)) → IfErr (accepted_bytes role o) (IsReadOf role)
bytes_refused role None = refl
bytes_refused role (Some bytes) = by_case (nat_lt most_bytes (length bytes))
  where
    by_case : (long : Bool) → IfErr (cond long (Err (TooLong role)) (Ok bytes)) (IsReadOf role)
    by_case true = refl
    by_case false = tt

pub job_text_refused : (place : Option (List ℕ)) (given : Reading) → IfErr (job_bytes place given) (IsReadOf roles.Job)
job_text_refused None given = tt
job_text_refused (Some name) given = bytes_refused roles.Job (given roles.Job name)

pub input_refused : (role : Role) (name : Option (List ℕ)) (given : Reading) → IfErr (input_if role name given) (IsReadOf role)
input_refused role None given = tt
input_refused role (Some name) given = if_err_then (IsReadOf role) (input role name given) (λ bytes. Ok (Some bytes)) (bytes_refused role (given role name)) (λ bytes. tt)
