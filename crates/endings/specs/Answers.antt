-- What a step answers in the place of what is expected.
use Rattle.std.specs.Prelude.{◌≡◌, ◌⊎◌, ◌≤◌, ℕ, ◌+◌, List, length, Option, Some, None, IsNone, Result, Ok, Err, Vec}
use Rattle.std.specs.declared.alloc.Global.{Global}
use Rattle.board_base.specs.declared.places.Role.{Role}
use Rattle.board_base.specs.Counts.{Rose, RoseBy}
use Rattle.board_base.specs.Files.{Files}
use Rattle.board_base.specs.Shelf.{ShelfState}
use Rattle.endings.specs.declared.status.Status.{Status}
use Rattle.endings.specs.declared.status.Status.TheVariants.{Done, Usage, TooLong, ReadFault, WriteFault, Memory}
use Rattle.endings.specs.Limits.{most_bytes}
use Rattle.endings.specs.Reads.{held_in, input}

-- a wrong word is a Usage
abbrev pub usage : {A : Type 0} → Result A ℕ → Result A Status
usage (Ok x) = Ok x
usage (Err word) = Err (Usage word)

-- a fact about the files, where they are told
abbrev pub IfTold : Option Files → (Files → Type 0) → Type 0
IfTold None P = Unit {0}
IfTold (Some files) P = P files

-- a fact about the files, which are told
abbrev pub ToldAnd : Option Files → (Files → Type 0) → Type 0
ToldAnd None P = ⊥
ToldAnd (Some files) P = P files

-- The bytes of the input of this role and name, where that is told, or a refusal: want of memory, or that they can't be
-- read or are too many.
abbrev pub IsInput : Role → List ℕ → ShelfState → ShelfState → Result (Vec ℕ Global) Status → Type 0
IsInput role name before now (Ok bytes) =
    (length bytes.items ≤ most_bytes) × IfTold before.files (λ files. input role name (held_in files) ≡ Ok bytes.items)
IsInput role name before now (Err Memory) = Unit {0}
IsInput role name before now (Err (ReadFault r)) =
    (r ≡ role) × (Rose before.read_faults now.read_faults ⊎ ToldAnd before.files (λ files. input role name (held_in files) ≡ Err (ReadFault role)))
IsInput role name before now (Err (TooLong r)) =
    (r ≡ role)
    × ((IsNone before.files × RoseBy (most_bytes + 1) before.taken now.taken)
    ⊎ ToldAnd before.files (λ files. input role name (held_in files) ≡ Err (TooLong role)))
IsInput role name before now (Err status) = ⊥

-- what a step that reads no file made, seen by view, is what is expected
abbrev pub MakesOf : {X Y : Type 0} → (X → Y) → Result Y Status → Result X Status → Type 0
MakesOf view expected (Ok x) = expected ≡ Ok (view x)
MakesOf view expected (Err Memory) = Unit {0}
MakesOf view expected (Err Done) = ⊥
MakesOf view expected (Err (WriteFault role)) = ⊥
MakesOf view expected (Err status) = expected ≡ Err status
