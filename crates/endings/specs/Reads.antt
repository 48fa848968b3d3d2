-- What reads give to a command.
use Rattle.std.specs.Prelude.{◌≡◌, ℕ, List, length, Option, Some, None, Result, Ok, Err, if◌then◌else◌, nat_lt}
use Rattle.std.specs.FinMap.{get}
use Rattle.std.specs.Str.{bytes_eq}
use Rattle.board_base.specs.declared.places.Role.{Role}
use Rattle.board_base.specs.Files.{Files}
use Rattle.endings.specs.declared.status.Status.{Status}
use Rattle.endings.specs.declared.status.Status.TheVariants.{TooLong, ReadFault}
use Rattle.endings.specs.Limits.{most_bytes}
use Rattle.endings.specs.Lines.{role_name}

-- what the input of each role holds under each name, or nothing
abbrev pub Reading : Type 0
Reading = Role → List ℕ → Option (List ℕ)

-- what these files hold
abbrev pub held_in : Files → Reading
held_in files = λ role name. get files name

-- what reads may give: where the files are told, what they hold
abbrev pub MayRead : Option Files → Reading → Type 0
MayRead None given = Unit {0}
MayRead (Some files) given = given ≡ held_in files

-- the same, but that the input of this role isn't there
abbrev pub without : Role → Reading → Reading
without role given = λ r name. if bytes_eq (role_name r) (role_name role) then None else given r name

-- bytes that are held or aren't: they are read where they are no more than the limit
abbrev pub accepted_bytes : Role → Option (List ℕ) → Result (List ℕ) Status
accepted_bytes role None = Err (ReadFault role)
accepted_bytes role (Some bytes) = if nat_lt most_bytes (length bytes) then Err (TooLong role) else Ok bytes

-- the input of this role and name
abbrev pub input : Role → List ℕ → Reading → Result (List ℕ) Status
input role name given = accepted_bytes role (given role name)
