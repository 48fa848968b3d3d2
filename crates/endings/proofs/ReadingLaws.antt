-- What the read of one input gives and refuses.
use Rattle.std.proofs.Common.{◌≡◌, ◌⊎◌, ℕ, suc, ◌+◌, ◌≤◌, List, length, replicate, Option, Some, None, Result, Ok, Err, true, cond, Vec, Global, inl, inr, refl, sym, ap, subst, rules, arith}
use Rattle.std.specs.Prelude.{nat_lt, IsNone}
use Rattle.std.proofs.lemmas.Bool.{lt-ltb, le-ltb}
use Rattle.std.proofs.lemmas.List.{length-replicate}
use Rattle.std.proofs.lemmas.Slice.Eq.{bytes_eq-Decides}
use Rattle.board_base.specs.declared.places.Role.{Role}
use Rattle.board_base.specs.Counts.{Rose, RoseBy}
use Rattle.board_base.specs.Files.{Files}
use Rattle.board_base.specs.Shelf.{ShelfState, OnlyReads}
use Rattle.endings.specs.declared.status.Status.{Status}
use Rattle.endings.specs.declared.status.Status.TheVariants.{Done, Usage, Job, Gerber, Drill, Outline, TooLong, Limit, ReadFault, WriteFault, Ngc, Watch, Cell, Memory}
use Rattle.endings.specs.Limits.{most_bytes}
use Rattle.endings.specs.Lines.{role_name}
use Rattle.endings.specs.Reads.{Reading, held_in, MayRead, without, accepted_bytes, input}
use Rattle.endings.specs.Answers.{IfTold, ToldAnd, IsInput}
use Rattle.endings.specs.Works.{Refuses, Gives}

-- reads that may be, on every shelf
pub some_reading : (o : Option Files) → (given : Reading) × MayRead o given
some_reading None = ((λ role name. None), tt)
some_reading (Some files) = (held_in files, refl)

-- the input that isn't there
none_without : (role : Role) (given : Reading) (name : List ℕ) → without role given role name ≡ None
none_without role given name = ap (λ b. cond b None (given role name)) ((bytes_eq-Decides (role_name role) (role_name role)).1 refl)

pub fault_without : (role : Role) (given : Reading) (name : List ℕ) → input role name (without role given) ≡ Err (ReadFault role)
fault_without role given name = ap (accepted_bytes role) (none_without role given name)

pub short_accepted : (role : Role) (bytes : List ℕ) → length bytes ≤ most_bytes → accepted_bytes role (Some bytes) ≡ Ok bytes
short_accepted role bytes few = ap (λ long. cond long (Err (TooLong role)) (Ok bytes)) (le-ltb most_bytes (length bytes) few)

longer : (n : ℕ) → nat_lt n (length {A = ℕ} (replicate (suc n) 0)) ≡ true
longer n = rw (length-replicate {A = ℕ} (suc n) 0) (lt-ltb n (suc n) (omega arith))

some_long : (n : ℕ) → (bytes : List ℕ) × (nat_lt n (length bytes) ≡ true)
some_long n = (replicate (suc n) 0, longer n)

pub long_refused : (role : Role) → (bytes : List ℕ) × (accepted_bytes role (Some bytes) ≡ Err (TooLong role))
long_refused role = ((some_long most_bytes).0, ap (λ long. cond long (Err (TooLong role)) (Ok (some_long most_bytes).0)) (some_long most_bytes).1)

-- reads that give the bytes that were read
pub input_given : (o : Option Files) (role : Role) (name bytes : List ℕ) → length bytes ≤ most_bytes → IfTold o (λ files. input role name (held_in files) ≡ Ok bytes)
    → (given : Reading) × MayRead o given × (input role name given ≡ Ok bytes)
input_given None role name bytes few told = ((λ r n. Some bytes), tt, short_accepted role bytes few)
input_given (Some files) role name bytes few told = (held_in files, refl, told)

-- reads that give too many bytes
pub long_given : (o : Option Files) (role : Role) (name : List ℕ) (P : Type 0) → ((IsNone o × P) ⊎ ToldAnd o (λ files. input role name (held_in files) ≡ Err (TooLong role)))
    → (given : Reading) × MayRead o given × (input role name given ≡ Err (TooLong role))
long_given None role name P long = ((λ r n. Some (long_refused role).0), tt, (long_refused role).1)
long_given (Some files) role name P (inl untold) = absurd (search (rules, untold.0))
long_given (Some files) role name P (inr told) = (held_in files, refl, told)

pub long_taken : (o : Option Files) (role : Role) (name : List ℕ) (P : Type 0) → ((IsNone o × P) ⊎ ToldAnd o (λ files. input role name (held_in files) ≡ Err (TooLong role))) → IsNone o → P
long_taken o role name P (inl untold) none = untold.1
long_taken None role name P (inr told) none = absurd told
long_taken (Some files) role name P (inr told) none = absurd (search (rules, none))

fault_given : (role : Role) (name : List ℕ) (before now : ShelfState) → (Rose before.read_faults now.read_faults ⊎ ToldAnd before.files (λ files. input role name (held_in files) ≡ Err (ReadFault role)))
    → Refuses (λ given s. input role name given ≡ Err s) (ReadFault role) before now
fault_given role name before now (inl rose) = inl (rose, (some_reading before.files).0, (some_reading before.files).1, fault_without role (some_reading before.files).0 name)
fault_given role name before now (inr told) = inr told

-- what was read, or the refusal, comes of what reads give
pub input_gives : (role : Role) (name : List ℕ) (before now : ShelfState) (result : Result (Vec ℕ Global) Status) → IsInput role name before now result
    → Gives (λ (v : Vec ℕ Global). v.items) before now (input role name) result
input_gives role name before now (Ok bytes) r = input_given before.files role name bytes.items r.0 r.1
input_gives role name before now (Err Memory) r = tt
input_gives role name before now (Err (ReadFault other)) r =
    subst (λ k. Refuses (λ given s. input role name given ≡ Err s) (ReadFault k) before now) (sym r.0) (fault_given role name before now r.1)
input_gives role name before now (Err (TooLong other)) r =
    subst (λ k. Refuses (λ given s. input role name given ≡ Err s) (TooLong k) before now) (sym r.0)
    (long_given before.files role name (RoseBy (most_bytes + 1) before.taken now.taken) r.1, long_taken before.files role name (RoseBy (most_bytes + 1) before.taken now.taken) r.1)
input_gives role name before now (Err Done) r = absurd r
input_gives role name before now (Err (Usage word)) r = absurd r
input_gives role name before now (Err (Job error)) r = absurd r
input_gives role name before now (Err (Gerber at error)) r = absurd r
input_gives role name before now (Err (Drill error)) r = absurd r
input_gives role name before now (Err (Outline error)) r = absurd r
input_gives role name before now (Err (Ngc at fault line)) r = absurd r
input_gives role name before now (Err (Watch watcher at)) r = absurd r
input_gives role name before now (Err (Cell i j line)) r = absurd r
input_gives role name before now (Err (Limit hit)) r = absurd r
input_gives role name before now (Err (WriteFault at)) r = absurd r

-- nothing happened
pub still : (s : ShelfState) → OnlyReads s s
still s = record { files = refl; write_faults = refl; writes = refl; read_faults = omega arith; taken = omega arith }
