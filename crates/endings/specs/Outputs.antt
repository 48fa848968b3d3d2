-- What the shelf holds after some writes.
use Rattle.std.specs.Prelude.{◌≡◌, ◌≢◌, ◌⊎◌, ℕ, List, [], ◌∷◌, Option, map, string_bytes}
use Rattle.board_base.specs.declared.places.Role.{Role}
use Rattle.board_base.specs.declared.places.Role.TheVariants as roles
use Rattle.board_base.specs.Counts.{Rose}
use Rattle.board_base.specs.Files.{Files, stored, others}
use Rattle.board_base.specs.Shelf.{ShelfState}
use Rattle.endings.specs.declared.status.Status.{Status}
use Rattle.endings.specs.declared.status.Status.TheVariants.{WriteFault, Memory}
use Rattle.endings.specs.declared.out_file.OutFile.{OutFile}

-- a file to be written
pub record Output : Type 0 where
  pub role : Role
  pub name : List ℕ
  pub bytes : List ℕ

-- what the code holds of a file
abbrev pub output_of : OutFile → Output
output_of file = record { role = file.role; name = string_bytes file.name; bytes = file.bytes.items }

-- the same of some files
abbrev pub outputs_of : List OutFile → List Output
outputs_of files = map output_of files

-- the files once these are written, the first of them first
abbrev pub all_stored : List Output → Option Files → Option Files
all_stored [] files = files
all_stored (output ∷ outputs) files = all_stored outputs (stored output.name output.bytes files)

-- The write with this role was refused: the files before it stand whole, any bytes may stand under its own
-- name, and all other names hold what they held.
abbrev pub IsStopped : Role → List Output → Option Files → Option Files → Type 0
IsStopped role [] before now = ⊥
IsStopped role (output ∷ outputs) before now =
    ((output.role ≡ role) × (others output.name now ≡ others output.name before))
    ⊎ IsStopped role outputs (stored output.name output.bytes before) now

-- what a refused delivery leaves
abbrev pub Stops : Status → List Output → ShelfState → ShelfState → Type 0
Stops (WriteFault role) outputs before now = Rose before.write_faults now.write_faults × IsStopped role outputs before.files now.files
Stops Memory outputs before now = (role : Role) × IsStopped role outputs before.files now.files
Stops status outputs before now = ⊥

-- no file has the role of the lines
abbrev pub NoneIsLines : List Output → Type 0
NoneIsLines [] = Unit {0}
NoneIsLines (output ∷ outputs) = (output.role ≢ roles.Lines) × NoneIsLines outputs

-- one of the files has this role
abbrev pub Writes : Role → List Output → Type 0
Writes role [] = ⊥
Writes role (output ∷ outputs) = (output.role ≡ role) ⊎ Writes role outputs
